use Rattle.std.proofs.{Common.{◌≤◌, arith, ℕ, List, All, length, refl, subst}, lemmas.List.take_all}
use Rattle.std.proofs.lemmas.List.Elements.{All-more}
use Rattle.dr_history.specs.Agreement.{accounts_of}
use Rattle.dr_oracle.proofs.agreement.all_have_logged.Goals as goal

pub loop-member-preserved : goal.loop-member-preserved
loop-member-preserved c =
    All-more (λ j. c.args.durable ≤ length (accounts_of c.args.ends.now j).log) c.args.members.now
    c.loop-member.member-index 0 c.loop-member-test.true c.loop-member.invariant (omega arith)

pub returns : goal.returns
returns c = (
  λ _. subst (λ (xs : List ℕ). All (λ j. c.args.durable ≤ length (accounts_of c.args.ends.now j).log) xs)
      (take_all c.loop-member.member-index c.args.members.now c.loop-member-test.false) c.loop-member.invariant,
  λ _. refl,
)
