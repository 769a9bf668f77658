use Rattle.std.proofs.Common.{arith, refl, below_more}
use Rattle.dr_history.proofs.Masks.{below_sixteen}
use Rattle.dr_oracle.proofs.agreement.is_consistent_with_all.Goals as goal

pub loop-member-preserved : goal.loop-member-preserved
loop-member-preserved c = below_more _ _ c.loop-member.invariant
    (c.is_absent_or_consistent.ensures.0 c.if-not-is_absent_or_consistent.false)

pub returns : goal.returns
returns c = (
  λ _ j there. c.loop-member.invariant j
      (below_sixteen c.args.present j c.loop-member.member (omega arith) (omega arith) there) there,
  λ _. refl,
)
