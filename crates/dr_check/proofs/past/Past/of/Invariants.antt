use Rattle.std.proofs.Common.{take}
use Rattle.dr_check.specs.Past.{IsPast}
use Rattle.dr_check.proofs.past.Past.of.Given as goal

abbrev pub invariant-loop-at : goal.invariant-loop-at
invariant-loop-at l = IsPast (take l.at l.entries) l.past
