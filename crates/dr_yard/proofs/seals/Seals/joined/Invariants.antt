use Rattle.dr_yard.specs.Seals.{IsJoined}
use Rattle.dr_yard.proofs.seals.Seals.joined.Given as goal

-- each line is that of one of them
abbrev pub invariant-loop-number : goal.invariant-loop-number
invariant-loop-number l = IsJoined l.self l.other l.lines
