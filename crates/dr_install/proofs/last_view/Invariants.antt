use Rattle.std.proofs.Common.{◌≡◌, take}
use Rattle.dr_history.specs.History.{last_view}
use Rattle.dr_install.proofs.last_view.Given as goal

abbrev pub invariant-loop-entry : goal.invariant-loop-entry
invariant-loop-entry l = record { last : (l.last.0, l.last.1) ≡ last_view (0, 0) (take l.entry-index l.history) }
