use Rattle.std.{specs.List.list_all, proofs.lemmas.{Bool.cases_lt, Grind.common_steps}}
use Rattle.std.proofs.Common.{◌≡◌, ◌⊎◌, inl, inr, sym, subst, ℕ, ◌<◌, ◌≤◌, ◌==◌, ◌&&◌, Bool, false, arith}
use Rattle.dr_entry.proofs.BoolFacts.{naming}
use Rattle.dr_history.specs.Members.{has}
use Rattle.dr_suspect.specs.{Suspicion.{may_name, names, spreads}, Wishes.{is_silent, may_wish}}
use Rattle.dr_suspect.proofs.Finds.{second_found, second_missing}
use Rattle.dr_suspect.proofs.suspects.Suspects.next_spread.Goals.{then-has+in_default, else-has}
use Rattle.dr_suspect.proofs.suspects.Suspects.next_spread.Goals as goal

pub loop-row-preserved : goal.loop-row-preserved
loop-row-preserved c i j l = by (cases_lt i c.loop-row.row)
  where
    wished : ℕ → Bool
    wished = may_wish c.args.history.now c.args.age c.args.late

    none : spreads c.args.self.now wished c.args.rows.now c.loop-row.row j ≡ false
    none = elim c.if-has.branch [
      | then-has+in_default w ↦
          let namable : has w.either.result j ≡ (names c.args.rows.now c.loop-row.row j && may_name c.args.self.now wished j) =
          rw (
            w.either.ensures j,
            w.common-then-has.ensures j,
            w.wishable-wished.ensures j,
            w.common.ensures j,
            c.unnamed-inside.ensures j,
            c.unnamed-outside.ensures j,
            c.without.ensures.members j,
            w.named_in-named.ensures,
            ← c.self.view_is,
          ) (naming (names c.args.rows.now c.loop-row.row j) (has c.self.inside.members j)
          (j == c.self.inside.me) (has c.self.inside.suspects j) (has c.args.late j)
          (list_all (is_silent c.args.age j) c.args.history.now)) in
          grind (arith, common_steps, namable, w.in_default.ensures.least j)
      | else-has w ↦ grind (arith, common_steps)
    ]

    by : (i < c.loop-row.row) ⊎ (c.loop-row.row ≤ i) → spreads c.args.self.now wished c.args.rows.now i j ≡ false
    by (inl before) = c.loop-row.invariant i j before
    by (inr late) = let here : i ≡ c.loop-row.row = omega (arith, l, late) in
        subst (λ k. spreads c.args.self.now wished c.args.rows.now k j ≡ false) (sym here) none

pub returns-in-Some-clause-next : goal.returns-in-Some-clause-next
returns-in-Some-clause-next c =
    let wished : ℕ → Bool = may_wish c.args.history.now c.args.age c.args.late in
    let namable : (j : ℕ) → has c.either.result j ≡ (names c.args.rows.now c.loop-row.row j && may_name c.args.self.now wished j) =
    λ j. rw (
      c.either.ensures j,
      c.common-then-has.ensures j,
      c.wishable-wished.ensures j,
      c.common.ensures j,
      c.unnamed-inside.ensures j,
      c.unnamed-outside.ensures j,
      c.without.ensures.members j,
      c.named_in-named.ensures,
      ← c.self.view_is,
    ) (naming (names c.args.rows.now c.loop-row.row j) (has c.self.inside.members j)
    (j == c.self.inside.me) (has c.self.inside.suspects j) (has c.args.late j)
    (list_all (is_silent c.args.age j) c.args.history.now)) in record {
      row = c.loop-row.row;
      named = grind (arith, common_steps, c.in-Some.ensures.least.member, namable c.in-Some.member);
      least_row = λ i j l. c.loop-row.invariant i j l;
      least_member = λ k l. grind (arith, common_steps, c.in-Some.ensures.least.least k, namable k);
    }

pub returns-in-Some-clause-value : goal.returns-in-Some-clause-value
unfolding returns-in-Some-clause-next
returns-in-Some-clause-value c =
    let next = returns-in-Some-clause-next c in
    second_found (spreads c.args.self.now (may_wish c.args.history.now c.args.age c.args.late) c.args.rows.now)
    c.loop-row.row c.in-Some.member (omega arith)
    c.in-Some.ensures.least.number next.named (λ k l b. c.loop-row.invariant k l b) next.least_member

pub returns-clause-value : goal.returns-clause-value
returns-clause-value c =
    second_missing (spreads c.args.self.now (may_wish c.args.history.now c.args.age c.args.late) c.args.rows.now)
    (λ i j l. c.loop-row.invariant i j (omega arith))
