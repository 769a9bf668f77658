use Rattle.std.proofs.Common.{refl, arith}
use Rattle.dr_history.proofs.Masks.{below_sixteen}
use Rattle.dr_oracle.proofs.succession.are_of_roster.Goals as goal

pub returns : goal.returns
returns c = (
  λ _. record {
    some = omega (arith, c.if-members-eq0.false);
    within = λ m there. c.loop-member.invariant m
        (below_sixteen c.args.members m c.loop-member.member (omega arith) (omega arith) there) there;
  },
  λ _. refl,
)
