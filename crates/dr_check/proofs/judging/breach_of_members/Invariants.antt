use Rattle.dr_entry.proofs.ListFacts.{KeepBelow}
use Rattle.dr_check.specs.Flaws.{MemberKeeps}
use Rattle.dr_check.proofs.judging.breach_of_members.Given as goal

abbrev pub invariant-loop-n : goal.invariant-loop-n
invariant-loop-n l = KeepBelow (MemberKeeps l.clause l.script l.age) l.age.members l.n
