use Rattle.std.proofs.Common.{◌≡◌, [], drop}
use Rattle.dr_commands.{specs.DrillLines.last_view_or, proofs.LastViews.line_by}
use Rattle.dr_commands.proofs.drill.lines.push_last_view.Given as goal

abbrev pub invariant-loop-entry : goal.invariant-loop-entry
invariant-loop-entry l = last_view_or [] l.history ≡ last_view_or (line_by l.last) (drop l.entry-index l.history)
