use Rattle.std.proofs.Common.{◌≡◌, ◌++◌, string_bytes, take}
use Rattle.dr_tools.specs.Object.{age_objects}
use Rattle.dr_tools.proofs.summary.object.push_ages.Given as goal

abbrev pub invariant-loop-nth : goal.invariant-loop-nth
invariant-loop-nth l = string_bytes l.out ≡ string_bytes l.initial.out ++ age_objects l.script (take l.nth l.ages)
