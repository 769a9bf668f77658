use Rattle.std.proofs.Common.{◌≡◌, ◌++◌}
use Rattle.dr_check.proofs.assembling.joined.Given as goal

abbrev pub invariant-loop-entry : goal.invariant-loop-entry
invariant-loop-entry l = l.entries.items ≡ l.start ++ l.yielded
