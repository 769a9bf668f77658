-- Something else at one member, and lists of which one is the front part of another.
use Rattle.std.proofs.Common.{◌≡◌, refl, ap, sym, ◌∙◌, ℕ, ◌≤◌, ◌==◌, if◌then◌else◌, List, ◌++◌, append_assoc, length, take, drop, le_refl}
use Rattle.std.proofs.lemmas.Bool.{eq-eqb, ne_eqb}
use Rattle.std.proofs.lemmas.List.{drop_at, take-append-drop, take_all}
use Rattle.dr_history.{specs.History.IsPrefixOf, proofs.{Keeping.{prefix_beside}, Lists.take-prefix}}

-- this at m, and elsewhere as before
abbrev pub put : {A : Type 0} → (ℕ → A) → ℕ → A → ℕ → A
put f m x k = if k == m then x else f k

pub put-own : {A : Type 0} (f : ℕ → A) (m : ℕ) (x : A) → put f m x m ≡ x
put-own f m x = ap (λ b. if b then x else f m) (eq-eqb m m refl)

pub put-other : {A : Type 0} (f : ℕ → A) (m : ℕ) (x : A) (k : ℕ) → (k ≡ m → ⊥) → put f m x k ≡ f k
put-other f m x k n = ap (λ b. if b then x else f k) (ne_eqb k m n)

-- two front parts of a list that are as long are the same
pub fronts-same : (xs ys zs : List ℕ) → IsPrefixOf xs zs → IsPrefixOf ys zs → length xs ≡ length ys → xs ≡ ys
fronts-same xs ys zs p q e = sym (take_all (length xs) xs (le_refl (length xs)))
    ∙ sym (take-prefix xs zs (length xs) p (le_refl (length xs))) ∙ ap (λ n. take n zs) e
    ∙ take-prefix ys zs (length ys) q (le_refl (length ys)) ∙ take_all (length ys) ys (le_refl (length ys))

-- a front part goes on by the next part
pub front-goes-on : (xs ys zs : List ℕ) (k : ℕ) → IsPrefixOf xs zs → IsPrefixOf ys zs → length xs ≤ length ys
    → IsPrefixOf (xs ++ take k (drop (length xs) ys)) zs
front-goes-on xs ys zs k p q l =
    let b = prefix_beside xs ys zs p q l in
    let part = take k (drop (length xs) ys) in
    let left = drop k (drop (length xs) ys) in (
      left ++ q.0,
      append_assoc xs part (left ++ q.0)
          ∙ ap (λ t. xs ++ t) (sym (append_assoc part left q.0)
          ∙ ap (λ t. t ++ q.0) (take-append-drop k (drop (length xs) ys)
          ∙ ap (drop (length xs)) (sym b.1) ∙ drop_at xs b.0 (length xs) refl))
          ∙ sym (append_assoc xs b.0 q.0) ∙ ap (λ t. t ++ q.0) b.1 ∙ q.1,
    )
