use Rattle.dr_entry.proofs.ListFacts.{KeepBelow}
use Rattle.dr_check.specs.Flaws.{AgeKeeps}
use Rattle.dr_check.proofs.judging.breach_of_report.Given as goal

abbrev pub invariant-loop-i : goal.invariant-loop-i
invariant-loop-i l = KeepBelow (AgeKeeps l.clause l.script l.report.ages) l.report.ages l.i
