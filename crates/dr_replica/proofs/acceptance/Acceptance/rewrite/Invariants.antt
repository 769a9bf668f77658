use Rattle.dr_rows.proofs.Rewrites.{IsRewrittenTo}
use Rattle.dr_replica.specs.Wedges.{accepted}
use Rattle.dr_replica.proofs.acceptance.Acceptance.rewrite.Given as goal

abbrev pub invariant-loop-column : goal.invariant-loop-column
invariant-loop-column l = IsRewrittenTo l.initial.rows l.rows (accepted l.self) l.column
