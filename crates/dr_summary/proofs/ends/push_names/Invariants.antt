use Rattle.std.{specs.List.{enumerate_from, flat_map}, proofs.Common.{◌≡◌, ◌++◌, string_bytes, take}}
use Rattle.dr_summary.specs.Table.{name_text}
use Rattle.dr_summary.proofs.ends.push_names.Given as goal

abbrev pub invariant-loop-number : goal.invariant-loop-number
invariant-loop-number l = string_bytes l.out
    ≡ string_bytes l.initial.out ++ flat_map (λ t. name_text t.0) (enumerate_from 0 (take l.number l.members))
