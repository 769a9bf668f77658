-- Members that agree have fronts of the longest history.
use Rattle.std.proofs.Common.{◌≡◌, refl, sym, ap, ◌∙◌, inl, inr, ℕ, suc, ◌<◌, ◌≤◌, ◌⊎◌, List, [], ◌∷◌, length, get_or, All, nat_lt, if◌then◌else◌, arith, subst}
use Rattle.std.proofs.lemmas.{Bool.{cases_Bool, ltb-true, ltb-false}, List.nil_from_length}
use Rattle.std.proofs.lemmas.{List.Elements.{All-cons, All-nil}, Option.slice_get-get_or}
use Rattle.dr_entry.{specs.declared.{end.MemberEnd.MemberEnd, entry.Entry.Entry}, proofs.Entries.as_empty}
use Rattle.dr_history.specs.{Agreement.accounts_of, History.IsPrefixOf, Soundness.IsPresentIn}
use Rattle.dr_history.{specs.declared.opening.Opening.Opening, proofs.Fronts.history_of}
use Rattle.dr_history.proofs.Lists.{shorter_begins, empty_begins}
use Rattle.dr_summary.specs.{Histories.{longer, longest, longest_from}, Summary.HaveAgreed}

-- the longer of two is no shorter than either
longer_is_long : (h : List Entry) (m : MemberEnd) → (length h ≤ length (longer h m)) × (length m.history ≤ length (longer h m))
longer_is_long h m = elim (cases_Bool (nat_lt (length h) (length m.history))) [
  | inl below ↦ rw below (omega (arith, ltb-true _ _ below), omega arith)
  | inr above ↦ rw above (omega arith, omega (arith, ltb-false _ _ above))
]

-- the longest is no shorter than any
pub longest_is_long : (h : List Entry) (members : List MemberEnd) → length h ≤ length (longest_from h members)
longest_is_long h [] = omega arith
longest_is_long h (m ∷ ms) = omega (arith, (longer_is_long h m).0, longest_is_long (longer h m) ms)

-- the longest is one of them
is_one_of : (h : List Entry) (members : List MemberEnd) → (longest_from h members ≡ h)
    ⊎ ((i : ℕ) × (i < length members) × ((d : MemberEnd) → longest_from h members ≡ (get_or members i d).history))
is_one_of h [] = inl refl
is_one_of h (m ∷ ms) = elim (is_one_of (longer h m) ms) [
  | inl same ↦ elim (cases_Bool (nat_lt (length h) (length m.history))) [
    | inl below ↦
        let is : longer h m ≡ m.history = ap (λ b. if b then m.history else h) below in
        inr (0, omega arith, λ d. same ∙ is)
    | inr above ↦
        let is : longer h m ≡ h = ap (λ b. if b then m.history else h) above in inl (same ∙ is)
  ]
  | inr (i, within, is) ↦ inr (suc i, omega (arith, within), λ d. is d)
]

-- and no shorter than any
is_longest : (h : List Entry) (members : List MemberEnd)
    → All (λ (m : MemberEnd). length m.history ≤ length (longest_from h members)) members
is_longest h [] = All-nil (λ (m : MemberEnd). length m.history ≤ length (longest_from h []))
is_longest h (m ∷ ms) = All-cons (λ (e : MemberEnd). length e.history ≤ length (longest_from (longer h m) ms)) m ms
    (omega (arith, longest_is_long (longer h m) ms, (longer_is_long h m).1)) (is_longest (longer h m) ms)

-- of two members that took part the one with the history that isn't longer has a front of the other's
one_begins : (o : Opening) (members : List MemberEnd) (k i : ℕ) (d : MemberEnd) → HaveAgreed o members
    → IsPresentIn o k → IsPresentIn o i → k < length members → i < length members
    → length (get_or members k d).history ≤ length (get_or members i d).history
    → IsPrefixOf (get_or members k d).history (get_or members i d).history
one_begins o members k i d agreed here there below within short =
    let own = history_of members k d below in
    let other = history_of members i d within in
    let alike = agreed.agreed.agreed.prefix k i here there in
    shorter_begins (get_or members k d).history (get_or members i d).history
    (subst (λ (h : List Entry). IsPrefixOf (get_or members k d).history h ⊎ IsPrefixOf h (get_or members k d).history)
    other (subst (λ (h : List Entry). IsPrefixOf h (accounts_of members i).history
    ⊎ IsPrefixOf (accounts_of members i).history h) own alike)) short

pub fronts_of_longest : (o : Opening) (members : List MemberEnd) → HaveAgreed o members
    → All (λ (m : MemberEnd). IsPrefixOf m.history (longest members)) members
fronts_of_longest o members agreed k d below = elim (is_one_of [] members) [
  | inl none ↦
      let empty : (get_or members k d).history ≡ [] =
      nil_from_length (get_or members k d).history (omega (arith, is_longest [] members k d below, ap length none)) in
      (longest members, rw empty refl)
  | inr (i, within, is) ↦ elim (agreed.present k (get_or members k d) (slice_get-get_or members k d below)) [
    | inr none ↦ empty_begins (get_or members k d).history (longest members) none
    | inl here ↦ elim (agreed.present i (get_or members i d) (slice_get-get_or members i d within)) [
      | inr none ↦ empty_begins (get_or members k d).history (longest members) (as_empty (get_or members k d).history
          (get_or members i d).history (longest members) none (is d) (is_longest [] members k d below))
      | inl there ↦ subst (IsPrefixOf (get_or members k d).history) (sym (is d))
          (one_begins o members k i d agreed here there below within
          (omega (arith, is_longest [] members k d below, ap length (is d))))
    ]
  ]
]
