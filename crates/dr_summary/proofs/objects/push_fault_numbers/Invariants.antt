use Rattle.std.proofs.Common.{◌≡◌, ◌++◌, string_bytes, take}
use Rattle.dr_summary.specs.Objects.{number_elements}
use Rattle.dr_summary.proofs.objects.push_fault_numbers.Given as goal

abbrev pub invariant-loop-place : goal.invariant-loop-place
invariant-loop-place l = string_bytes l.out ≡ string_bytes l.initial.out ++ number_elements (take l.place l.numbers)
