use Rattle.std.proofs.Common.{◌≡◌, ℕ, ◌+◌, ◌<◌, length, slice_index_or}
use Rattle.dr_script.specs.declared.script.{Fault.Fault, What.TheVariants.Suspect}
use Rattle.dr_bench.specs.Groups.{first_suspected}
use Rattle.dr_bench.proofs.groups.members.faults_of.Given as goal

abbrev pub invariant-loop-k : goal.invariant-loop-k
invariant-loop-k l = record {
  count : length l.faults.items ≡ l.k;
  each : (k : ℕ) (d : Fault) → k < l.k → slice_index_or l.faults.items k d
      ≡ record { age = 0; member = 0; what = Suspect l.fn.group.from (first_suspected l.fn.group + k) };
}
