use Rattle.std.{specs.List.{enumerate_from, flat_map}, proofs.Common.{◌≡◌, take}}
use Rattle.dr_summary.specs.Notes.{undelivered_of}
use Rattle.dr_summary.proofs.undelivered.undelivered.Given as goal

abbrev pub invariant-loop-sender : goal.invariant-loop-sender
invariant-loop-sender l = l.names.items
    ≡ flat_map (λ t. undelivered_of l.fn.history t.0 t.1) (enumerate_from 0 (take l.sender l.fn.script.messages))
