-- The letters of late members: each is the head of the first view that its member is in.
use Rattle.std.proofs.Common.{[], ap, arith, inl, inr, ℕ, ◌<◌, ◌∙◌, ◌≤◌, List, Option, Some, ◌≡◌, sym, true, ◌≢◌, ◌⊎◌}
use Rattle.std.proofs.lemmas.Bool.{cases_eq}
use Rattle.dr_entry.specs.declared.entry.Entry.{Entry}
use Rattle.dr_history.{specs.Members.has, proofs.{Bits.has_zero, Letters.IsKept}}
use Rattle.dr_words.{specs.Masks.with_member, proofs.Masks.{has-more, has-old}}
use Rattle.dr_machine.{specs.Writes.at, proofs.Writes.{at_other, at_same}}

-- who goes on in a later view
pub kept-on : (view given : ℕ → ℕ) (m to giver v j : ℕ) → view m < to → v ≤ view giver → IsKept view given giver v j
    → IsKept (at view m to) (at given m 0) giver v j
kept-on view given m to giver v j later come kept = elim (cases_eq giver m) [
  | inl same ↦ inr (grind (arith, same, later, come))
  | inr d ↦ elim kept [
    | inl t ↦ inl (ap (λ x. has x j) (at_other given m 0 giver d) ∙ t)
    | inr less ↦ inr (grind (arith, d, less))
  ]
]

pub given-on : (given : ℕ → ℕ) (letter : ℕ → Option (List Entry)) (m : ℕ)
    → ((k j : ℕ) → has (given k) j ≡ true → (l : List Entry) × (letter j ≡ Some l))
    → (k j : ℕ) → has (at given m 0 k) j ≡ true → (l : List Entry) × (letter j ≡ Some l)
given-on given letter m old k j t = elim (cases_eq k m) [
  | inl same ↦ absurd (cc (has_zero j, ap (λ x. has x j) (sym (ap (at given m 0) same ∙ at_same given m 0)) ∙ t))
  | inr d ↦ old k j (ap (λ x. has x j) (sym (at_other given m 0 k d)) ∙ t)
]

pub kept-more : (view given : ℕ → ℕ) (m n giver v j : ℕ) → j < 16 → IsKept view given giver v j
    → IsKept view (at given m (with_member (given m) n)) giver v j
kept-more view given m n giver v j small (inr less) = inr less
kept-more view given m n giver v j small (inl t) = inl (elim (cases_eq giver m) [
  | inl same ↦ ap (λ x. has x j) (ap (at given m (with_member (given m) n)) same ∙ at_same given m
      (with_member (given m) n)) ∙ has-more (given m) n j small (ap (λ x. has x j) (sym (ap given same)) ∙ t)
  | inr d ↦ ap (λ x. has x j) (at_other given m (with_member (given m) n) giver d) ∙ t
])

pub given-more : (given : ℕ → ℕ) (letter : ℕ → Option (List Entry)) (m n : ℕ) (x : List Entry)
    → ((k j : ℕ) → has (given k) j ≡ true → (l : List Entry) × (letter j ≡ Some l)) → (k j : ℕ)
    → has (at given m (with_member (given m) n) k) j ≡ true → (l : List Entry) × (at letter n (Some x) j ≡ Some l)
given-more given letter m n x old k j t = elim (cases_eq j n) [
  | inl same ↦ (x, ap (at letter n (Some x)) same ∙ at_same letter n (Some x))
  | inr d ↦ let y = old k j (before d (cases_eq k m)) in (y.0, at_other letter n (Some x) j d ∙ y.1)
]
  where
    before : j ≢ n → (k ≡ m) ⊎ (k ≢ m) → has (given k) j ≡ true
    before d (inl same) = ap (λ i. has (given i) j) same ∙ has-old (given m) n j d (ap (λ x. has x j)
        (sym (ap (at given m (with_member (given m) n)) same ∙ at_same given m (with_member (given m) n))) ∙ t)
    before d (inr e) = ap (λ x. has x j) (sym (at_other given m (with_member (given m) n) k e)) ∙ t
