use Rattle.std.proofs.Common.{◌≡◌, ◌+◌, ◌≤◌, false}
use Rattle.dr_bench.proofs.logs.append_all.Given as goal

abbrev pub invariant-loop-done : goal.invariant-loop-done
invariant-loop-done g l = (l.log.failed ≡ false) × (l.count ≤ l.log.spare_entries + l.done)
