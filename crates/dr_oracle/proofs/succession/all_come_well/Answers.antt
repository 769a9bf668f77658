use Rattle.std.proofs.Common.{refl, arith, below_more}
use Rattle.dr_history.proofs.Masks.{below_sixteen}
use Rattle.dr_oracle.proofs.succession.all_come_well.Goals as goal

pub loop-member-preserved : goal.loop-member-preserved
loop-member-preserved c = below_more _ _ c.loop-member.invariant (c.comes_well.ensures.0 c.if-not-comes_well.false)

pub returns : goal.returns
returns c = (
  λ _ s there. c.loop-member.invariant s
      (below_sixteen c.args.members s c.loop-member.member (omega arith) (omega arith) there) there,
  λ _. refl,
)
