use Rattle.std.proofs.Common.{◌≡◌, ◌++◌, string_bytes, take}
use Rattle.dr_tools.specs.Outcomes.{members_endings}
use Rattle.dr_tools.proofs.sweeps.outcomes.push_members.Given as goal

abbrev pub invariant-loop-number : goal.invariant-loop-number
invariant-loop-number l = string_bytes l.out ≡ string_bytes l.initial.out ++ members_endings (take l.number l.members)
