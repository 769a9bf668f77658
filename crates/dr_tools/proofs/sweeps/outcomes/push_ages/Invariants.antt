use Rattle.std.proofs.Common.{◌≡◌, ◌++◌, string_bytes, take}
use Rattle.dr_tools.specs.Outcomes.{ages_endings}
use Rattle.dr_tools.proofs.sweeps.outcomes.push_ages.Given as goal

abbrev pub invariant-loop-nth : goal.invariant-loop-nth
invariant-loop-nth l = string_bytes l.out ≡ string_bytes l.initial.out ++ ages_endings (take l.nth l.ages)
