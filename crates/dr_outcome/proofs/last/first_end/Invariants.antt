use Rattle.std.proofs.Common.{◌≡◌, drop}
use Rattle.dr_outcome.specs.Last.{first_end}
use Rattle.dr_outcome.proofs.last.first_end.Given as goal

abbrev pub invariant-loop-age : goal.invariant-loop-age
invariant-loop-age l = first_end l.kind l.ages ≡ first_end l.kind (drop l.age-index l.ages)
