use Rattle.std.proofs.Common.{◌≡◌, ◌+◌, ◌<◌, length, arith}
use Rattle.dr_history.proofs.FrontLemmas.{is_held-below_front, is_held-front, IsFront-least}
use Rattle.dr_oracle.proofs.places.is_front.Goals as goal

pub returns-then-is_empty : goal.returns-then-is_empty
returns-then-is_empty c = (
  λ h. absurd (cc),
  λ is. let none : length c.args.counts.now ≡ 0 = grind (arith, c.is_empty.ensures, c.if-is_empty.true) in
      absurd (omega (arith, is.greatest (c.args.front + 1) (λ rank k within. absurd (omega arith)))),
)

pub returns-then-not-is_held : goal.returns-then-not-is_held
returns-then-not-is_held c =
    let some : 0 < length c.args.counts.now = grind (arith, c.is_empty.ensures, c.if-is_empty.false) in (
      λ h. absurd (cc),
      λ is. let held = is_held-below_front c.args.counts.now c.args.front c.loop-place.place some is
          c.loop-place-test.true in
          absurd (cc (held, c.is_held.ensures)),
    )

pub returns : goal.returns
returns c =
    let some : 0 < length c.args.counts.now = grind (arith, c.is_empty.ensures, c.if-is_empty.false) in (
      λ h. IsFront-least c.args.counts.now c.args.front some
          (λ p below. c.loop-place.invariant p (omega arith)) (grind (arith, h, c.is_held-2.ensures)),
      λ is. let gap = is_held-front c.args.counts.now c.args.front is in
          grind (arith, gap, c.is_held-2.ensures),
    )
