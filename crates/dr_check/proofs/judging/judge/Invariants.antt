use Rattle.std.proofs.Common.{◌<◌}
use Rattle.dr_text.specs.declared.last.Clause.{Clause}
use Rattle.dr_check.specs.Flaws.{KeepsClause, rank}
use Rattle.dr_check.proofs.judging.judge.Given as goal

abbrev pub invariant-loop-clause : goal.invariant-loop-clause
invariant-loop-clause l = (c : Clause) → rank c < l.clause-index → KeepsClause c l.script l.report
