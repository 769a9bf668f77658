use Rattle.std.{specs.List.{enumerate_from, flat_map}, proofs.Common.{◌≡◌, take}}
use Rattle.dr_summary.specs.Notes.{missed_in}
use Rattle.dr_summary.proofs.faults.missed.Given as goal

abbrev pub invariant-loop-number : goal.invariant-loop-number
invariant-loop-number l = l.numbers.items
    ≡ flat_map (λ t. missed_in l.faults l.nth l.members t.0 t.1) (enumerate_from 0 (take l.number l.faults))
