use Rattle.std.{specs.{List.range_with_len, Prelude.map}, proofs.Common.{◌≡◌, ◌*◌}}
use Rattle.dr_drill.specs.Drill.{messages_of_member, state_after}
use Rattle.dr_drill.proofs.script.make.Given as goal

abbrev pub invariant-loop : goal.invariant-loop
invariant-loop l = (l.letters ≡ state_after l.seed (32 * 400 * l.counter))
    × (l.lists.items ≡ map (messages_of_member l.seed) (range_with_len 0 l.counter))
