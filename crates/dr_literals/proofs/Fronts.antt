-- What a front of a word leaves of it.
use Rattle.std.{specs.Prelude.{MatchOption, bytes_eq}, proofs.lemmas.{Bool.cases_Bool, List.take-append-drop}}
use Rattle.std.proofs.Common.{◌≡◌, ℕ, ap, sym, ◌∙◌, inl, inr, true, if◌then◌else◌, List, length, take, drop, ◌++◌, option_map, Bor, Option, None, Some}
use Rattle.std.proofs.{Math.Seq.{drop-append_seam, take-append_seam}, lemmas.Slice.Eq.bytes_eq-Decides}
use Rattle.dr_literals.specs.Options.{behind}

-- as the strip of a front says it
pub stripped : (front word : List ℕ) (r : Option (Bor (List ℕ))) {P : Type 0} {Q : Bor (List ℕ) → Type 0}
    → (P → (rest : List ℕ) → word ≡ front ++ rest → ⊥) → ((x : Bor (List ℕ)) → Q x → word ≡ front ++ x.now)
    → MatchOption r P Q → option_map (λ v. v.now) r ≡ behind front word
stripped front word None {P} {Q} none some is = elim (cases_Bool (bytes_eq (take (length front) word) front)) [
  | inl same ↦ absurd (none is (drop (length front) word) (sym (take-append-drop (length front) word)
      ∙ ap (λ l. l ++ drop (length front) word) ((bytes_eq-Decides (take (length front) word) front).0 same)))
  | inr other ↦ sym (ap (λ b. if b then Some (drop (length front) word) else None) other)
]
stripped front word (Some x) {P} {Q} none some is =
    let whole = some x is in
    let begins : bytes_eq (take (length front) word) front ≡ true =
    (bytes_eq-Decides (take (length front) word) front).1
    (ap (take (length front)) whole ∙ take-append_seam front x.now) in
    ap Some (sym (ap (drop (length front)) whole ∙ drop-append_seam front x.now))
    ∙ sym (ap (λ b. if b then Some (drop (length front) word) else None) begins)
