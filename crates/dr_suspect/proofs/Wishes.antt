-- Whom a replica may wish for.
use Rattle.std.{specs.List.list_all, proofs.lemmas.Bool.{cases_eq, and_from, and_parts}}
use Rattle.std.proofs.Common.{◌≡◌, refl, ap, ◌↔◌, ℕ, ◌&&◌, ◌==◌, not, true, inl, inr, [], arith, List, ◌∷◌, All}
use Rattle.std.proofs.lemmas.List.Elements.{All-cons, All-contains, All-nil, Contains-append_right}
use Rattle.dr_entry.specs.declared.entry.Entry.{Entry, TheVariants.{View, Msg}}
use Rattle.dr_history.{specs.{Members.has, Order.IsInNoView}, proofs.Cutting.Spares}
use Rattle.dr_suspect.specs.Wishes.{is_silent}

spares_test : (age j : ℕ) (e : Entry) → (is_silent age j e ≡ true) ↔ Spares age j e
spares_test age j (Msg s i b) = (λ e number members is. absurd (cc is), λ spares. refl)
spares_test age j (View a n m) = (forth, back)
  where
    forth : not (a == age && has m j) ≡ true → Spares age j (View a n m)
    forth e number members is =
        let one : a ≡ age = cc is in
        let two : m ≡ members = cc is in grind (arith, e, one, ap (λ k. has k j) two)

    back : Spares age j (View a n m) → not (a == age && has m j) ≡ true
    back spares = elim (cases_eq a age) [
      | inl same ↦ grind (arith, spares n m (ap (λ k. View k n m) same))
      | inr other ↦ grind (arith, other)
    ]

-- it is in no View of the age where every entry passes
pub silent_test : (age j : ℕ) (es : List Entry) → (list_all (is_silent age j) es ≡ true) ↔ IsInNoView age es j
silent_test age j es = (
  λ e number members there. All-contains (Spares age j) es (View age number members) (all es e) there number members refl,
  λ none. from es none,
)
  where
    all : (es : List Entry) → list_all (is_silent age j) es ≡ true → All (Spares age j) es
    all [] e = All-nil (Spares age j)
    all (x ∷ es) e =
        let two = and_parts (is_silent age j x) (list_all (is_silent age j) es) e in
        All-cons (Spares age j) x es ((spares_test age j x).0 two.0) (all es two.1)

    from : (es : List Entry) → IsInNoView age es j → list_all (is_silent age j) es ≡ true
    from [] none = refl
    from (x ∷ es) none = and_from _ _
        ((spares_test age j x).1 (λ number members is. none number members (0, omega arith, is)))
        (from es (λ number members there. none number members (Contains-append_right (x ∷ []) es (View age number members) there)))
