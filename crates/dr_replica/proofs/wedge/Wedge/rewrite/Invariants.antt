use Rattle.dr_rows.proofs.Rewrites.{IsRewrittenTo}
use Rattle.dr_replica.specs.Wedges.{wedged}
use Rattle.dr_replica.proofs.wedge.Wedge.rewrite.Given as goal

abbrev pub invariant-loop-column : goal.invariant-loop-column
invariant-loop-column l = IsRewrittenTo l.initial.rows l.rows (wedged l.self) l.column
