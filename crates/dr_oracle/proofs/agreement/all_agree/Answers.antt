use Rattle.std.proofs.Common.{arith, refl, below_more}
use Rattle.dr_history.proofs.Masks.{below_sixteen}
use Rattle.dr_oracle.proofs.agreement.all_agree.Goals as goal

pub loop-member-preserved : goal.loop-member-preserved
loop-member-preserved c = below_more _ _ c.loop-member.invariant
    (c.is_absent_or_agrees.ensures.0 c.if-not-is_absent_or_agrees.false)

pub returns : goal.returns
returns c = (
  λ _ i there. c.loop-member.invariant i
      (below_sixteen c.args.present i c.loop-member.member (omega arith) (omega arith) there) there,
  λ _. refl,
)
