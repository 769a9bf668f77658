use Rattle.std.proofs.{Common.{refl, arith, below_more}, lemmas.Option.slice_get_within}
use Rattle.dr_oracle.proofs.order.views_follow.Goals as goal
use Rattle.dr_oracle.proofs.order.views_follow.Goals.{else-start-i-via-then-start-i+else-not-view_follows, else-start-i-via-else-start-i}

pub loop-i-preserved : goal.loop-i-preserved
loop-i-preserved c = below_more _ _ c.loop-i.invariant (elim c.else-start-i.branch [
  | else-start-i-via-then-start-i+else-not-view_follows w ↦
      λ after. w.view_follows.ensures.0 w.if-not-view_follows.false
  | else-start-i-via-else-start-i w ↦ λ after. absurd (omega (arith, after, w.if-start-i.false))
])

pub returns : goal.returns
returns c = (
  λ _ i age number members after at. c.loop-i.invariant i
      (omega (arith, slice_get_within c.args.history.now i _ at)) after age number members at,
  λ _. refl,
)
