use Rattle.std.proofs.Common.{refl, arith, below_more}
use Rattle.dr_entry.proofs.BoolFacts.{refuted}
use Rattle.dr_history.{specs.History.sent_of, proofs.Histories.place_at-within}
use Rattle.dr_oracle.proofs.order.last_view_is_whole.Goals as goal
use Rattle.dr_oracle.proofs.order.last_view_is_whole.Goals.{else-start-i-via-then-start-i+else-not-whole_below, else-start-i-via-else-start-i}

pub returns-then-not-whole_below : goal.returns-then-not-whole_below
returns-then-not-whole_below c = (
  λ t. absurd (cc),
  λ all. absurd (refuted c.whole_below.result c.whole_below.ensures c.if-not-whole_below.true
      (λ p q v. all c.loop-i.i p q v c.if-start-i.true)),
)

pub loop-i-preserved : goal.loop-i-preserved
loop-i-preserved c = below_more _ _ c.loop-i.invariant (elim c.else-start-i.branch [
  | else-start-i-via-then-start-i+else-not-whole_below w ↦ λ after. w.whole_below.ensures.0 w.if-not-whole_below.false
  | else-start-i-via-else-start-i w ↦ λ after. absurd (omega (arith, after, w.if-start-i.false))
])

pub returns : goal.returns
returns c = (
  λ _ i p q v after before last at. c.loop-i.invariant i
      (omega (arith, place_at-within (sent_of c.args.ends.now) c.args.history.now i p at)) after p q v before last at,
  λ _. refl,
)
