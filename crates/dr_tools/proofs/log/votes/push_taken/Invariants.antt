use Rattle.std.{specs.List.{enumerate_from, flat_map}, proofs.Common.{◌≡◌, ◌++◌, string_bytes, take}}
use Rattle.dr_tools.specs.LogText.{taken_text}
use Rattle.dr_tools.proofs.log.votes.push_taken.Given as goal

abbrev pub invariant-loop-number : goal.invariant-loop-number
invariant-loop-number l = string_bytes l.out ≡ string_bytes l.initial.out
    ++ flat_map (λ t. taken_text t.0 t.1) (enumerate_from 0 (take l.number l.counts))
