use Rattle.std.proofs.Common.{subst, sym, ◌∙◌, true, false, ◌<◌, ◌+◌, ◌⊎◌, inl, inr, ◌≤◌, length, arith, ◌≡◌, ℕ}
use Rattle.std.proofs.lemmas.Bool.{cases_lt}
use Rattle.dr_quorum.proofs.Masks.{HasThoseBelow, handed_at, all_below, one_below, other_below}
use Rattle.dr_quorum.proofs.handing.handed_among.Goals.{then-has+then-is_some, else-has, else-has-via-then-has+else-is_some, else-has-via-else-has}
use Rattle.dr_quorum.proofs.handing.handed_among.Goals as goal

pub loop-m-preserved : goal.loop-m-preserved
loop-m-preserved c = elim c.if-has.branch [
  | then-has+then-is_some w ↦ subst Now (sym w.with-mask.ensures.value ∙ sym w.mask-is)
      (one_below c.args.lists.now c.args.members c.loop-m.m c.loop-m.mask few
      (handed_at c.args.lists.now c.args.members c.loop-m.m w.index-lists-m.result true within
      w.index-lists-m.is (sym w.is_some.ensures ∙ w.if-is_some.true) (grind (arith, w.if-has.true, c.has.ensures)))
      c.loop-m.invariant)
  | else-has w ↦ subst Now (sym w.mask-is) (other_below c.args.lists.now c.args.members c.loop-m.m c.loop-m.mask
      (elim w.else-has.branch [
        | else-has-via-then-has+else-is_some x ↦ handed_at c.args.lists.now c.args.members c.loop-m.m
            x.index-lists-m.result false within x.index-lists-m.is (sym x.is_some.ensures ∙ x.if-is_some.false)
            (grind (arith, x.if-has.true, c.has.ensures))
        | else-has-via-else-has x ↦ grind (arith, x.if-has.false, c.has.ensures)
      ]) c.loop-m.invariant)
]
  where
    Now : ℕ → Type 0
    Now = HasThoseBelow c.args.lists.now c.args.members (c.loop-m.m + 1)

    few : c.loop-m.m < 16
    few = omega (arith, c.min-most.ensures, c.loop-m-test.true)

    within : c.loop-m.m < length c.args.lists.now
    within = omega (arith, c.min-most.ensures, c.loop-m-test.true)

pub returns : goal.returns
returns c =
    all_below c.args.lists.now c.args.members c.loop-m.m c.loop-m.mask (end (cases_lt 16 (length c.args.lists.now)))
    (omega (arith, c.min-most.ensures, c.loop-m.auto.m-end)) c.loop-m.invariant
  where
    end : (16 < length c.args.lists.now) ⊎ (length c.args.lists.now ≤ 16)
        → (c.loop-m.m ≡ 16) ⊎ (length c.args.lists.now ≤ c.loop-m.m)
    end (inr s) = inr (omega (arith, s, c.min-most.ensures, c.loop-m-test.false))
    end (inl s) = inl (omega (arith, s, c.min-most.ensures, c.loop-m-test.false, c.loop-m.auto.m-end))
