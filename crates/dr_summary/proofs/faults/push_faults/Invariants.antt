use Rattle.std.{specs.List.{enumerate_from, flat_map}, proofs.Common.{◌≡◌, ◌++◌, string_bytes, take}}
use Rattle.dr_summary.specs.Notes.{fault_in}
use Rattle.dr_summary.proofs.faults.push_faults.Given as goal

abbrev pub invariant-loop-number : goal.invariant-loop-number
invariant-loop-number l = string_bytes l.out ≡ string_bytes l.initial.out
    ++ flat_map (λ t. fault_in l.faults l.nth l.members t.0 t.1) (enumerate_from 0 (take l.number l.faults))
