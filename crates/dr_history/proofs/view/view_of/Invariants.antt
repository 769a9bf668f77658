use Rattle.std.proofs.Common.{◌≡◌, take}
use Rattle.dr_history.specs.History.{view_of}
use Rattle.dr_history.proofs.view.view_of.Given as goal

abbrev pub invariant-loop-entry : goal.invariant-loop-entry
invariant-loop-entry l = l.view ≡ view_of (take l.entry-index l.history)
