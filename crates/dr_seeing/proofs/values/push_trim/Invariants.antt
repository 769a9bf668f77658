use Rattle.std.{specs.List.flat_map, proofs.Common.{◌≡◌, ◌++◌, string_bytes, take, codes}}
use Rattle.dr_seeing.specs.Lines.{with_number}
use Rattle.dr_seeing.proofs.values.push_trim.Given as goal

abbrev pub invariant-loop-number : goal.invariant-loop-number
invariant-loop-number l = string_bytes l.out
    ≡ string_bytes l.initial.out ++ flat_map (with_number (codes " ")) (take l.number-index l.numbers)
