-- How many turns are enough, by the longest list of messages.
use Rattle.std.proofs.Common.{◌≡◌, ◌↔◌, ◌+◌, ◌*◌, ◌≤◌, [], arith}
use Rattle.dr_entry.specs.declared.limits.TheConstants.{MAX_MESSAGES}
use Rattle.dr_entry.proofs.LongestLists.{enough_for, each_has, some_has, longest_within}
use Rattle.dr_complete.specs.{Enough.turns_enough, Time.HasTime}
use Rattle.dr_script.specs.{Ranges.{HasGroupRanges, HasRanges}, declared.script.Schedule.TheVariants.Lockstep}
use Rattle.dr_script.specs.declared.script.Script.{Script}

-- a script without faults in lockstep has time enough exactly where it has as many turns as are enough
pub enough_is_time : (s : Script) → HasGroupRanges s → s.faults ≡ [] → s.schedule ≡ Lockstep
    → HasTime s ↔ (turns_enough s ≤ s.turns)
enough_is_time s ranges faultless lockstep = (
  λ time. enough_for s.turns 0 s.messages (omega (
    arith,
    some_has s.turns s.messages (omega (arith, ranges.some_member, ranges.lists)) time.turns,
  )) time.turns,
  λ enough. record { faultless = faultless; lockstep = lockstep; turns = (each_has s.turns 0 s.messages enough).1 },
)

-- there are few turns
pub few_turns : (s : Script) → HasRanges s → turns_enough s ≤ 4 * MAX_MESSAGES + 8
few_turns s ranges = omega (arith, longest_within MAX_MESSAGES 0 s.messages (omega arith) ranges.group.few)
