use Rattle.std.{specs.{Int.{w32, to_be_bytes}, List.flat_map}, proofs.Common.{◌≡◌, ◌++◌, take}}
use Rattle.dr_entry.proofs.writing.put_counts.Given as goal

abbrev pub invariant-loop-count : goal.invariant-loop-count
invariant-loop-count l = l.into.items ≡ l.fn.into.items ++ flat_map (to_be_bytes w32) (take l.count-index l.counts)
