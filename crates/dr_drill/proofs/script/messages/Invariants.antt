use Rattle.std.{specs.{List.range_with_len, Prelude.map}, proofs.Common.{◌≡◌, ◌*◌}}
use Rattle.dr_drill.specs.Drill.{message, state_after}
use Rattle.dr_drill.proofs.script.messages.Given as goal

abbrev pub invariant-loop : goal.invariant-loop
invariant-loop l = (l.letters ≡ state_after l.initial.letters (32 * l.counter))
    × (l.list.items ≡ map (message l.initial.letters) (range_with_len 0 l.counter))
