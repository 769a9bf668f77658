-- Groups without faults, in lockstep, by how many turns they have.
use Rattle.std.{specs.List.list_all, proofs.lemmas.List.Elements.All-nil}
use Rattle.std.proofs.Common.{◌≡◌, ◌∙◌, ap, refl, sym, subst, ℕ, zero, suc, ◌-◌, true, arith, List, [], ◌∷◌, ◌&&◌, length, slice_get, Option, Some, Result, Ok, Err, IfOk}
use Rattle.dr_play.{specs.{Age.IsAgeOn, Logged.{AreAmple, AreOpened}}, proofs.Lasting.none_stopped}
use Rattle.dr_complete.{specs.{Enough.turns_enough, Time.HasTime}, proofs.Enough.{enough_is_time, few_turns}}
use Rattle.dr_disk.specs.Disk.{Told}
use Rattle.dr_entry.specs.declared.end.{AgeEnd.AgeEnd, End.TheVariants.Done, MemberEnd.MemberEnd}
use Rattle.dr_log.specs.State.{LogState}
use Rattle.dr_machine.specs.Group.{AllPresent}
use Rattle.dr_restart.specs.{Groups.{first_start_of, group_of}, declared.start.Start.Start}
use Rattle.dr_restart.proofs.Groups.{all_present}
use Rattle.dr_script.specs.{Ranges.{HasFaultRanges, HasRanges}, declared.script.Script.Script}
use Rattle.dr_sim.specs.Simulated.{IsSimulated}
use Rattle.dr_tools.specs.Turns.{IsFirstAge, TakesTurns, calm_group, is_done, with_turns}

pub calm_ranges : (s : Script) → HasRanges s → HasRanges (with_turns (calm_group s) (turns_enough s))
calm_ranges s ranges = record {
  group = record {
    some_member = ranges.group.some_member;
    most_members = ranges.group.most_members;
    some_slot = ranges.group.some_slot;
    most_slots = ranges.group.most_slots;
    lists = ranges.group.lists;
    few = ranges.group.few;
    short = ranges.group.short;
    bytes = ranges.group.bytes;
  };
  some_turn = omega arith;
  most_turns = omega (arith, few_turns s ranges);
  patience = ranges.patience;
  some_age = ranges.some_age;
  most_ages = ranges.most_ages;
  few_faults = omega arith;
  faults = All-nil (HasFaultRanges (with_turns (calm_group s) (turns_enough s)));
}

-- with turns enough it has the time to end
pub calm_time : (s : Script) → HasRanges s → HasTime (with_turns (calm_group s) (turns_enough s))
calm_time s ranges = (enough_is_time (with_turns (calm_group s) (turns_enough s))
    (calm_ranges s ranges).group refl refl).1 (omega arith)

-- members that all end as done
pub all_done : (members : List MemberEnd) → ((m : ℕ) (e : MemberEnd) → slice_get members m ≡ Some e → e.end ≡ Done)
    → list_all (λ (m : MemberEnd). is_done m.end) members ≡ true
all_done [] each = refl
all_done (e ∷ es) each = ap (λ b. b && list_all (λ (m : MemberEnd). is_done m.end) es) (ap is_done (each zero e refl))
    ∙ all_done es (λ m x at. each (suc m) x at)

-- how many turns a group takes doesn't depend on how many it has
pub taken_by : {E : Type 0} (r : Result ℕ E) (s calm : Script) (turns : ℕ) → calm ≡ with_turns s turns
    → IfOk r (TakesTurns calm) → IfOk r (TakesTurns s)
taken_by (Ok n) s calm turns is takes =
    let t = subst (λ (c : Script). TakesTurns c n) is takes in record { enough = t.enough; fewer = t.fewer }
taken_by (Err e) s calm turns is takes = tt

-- the first age, over the logs of all members, which have room, and are on disks that count no fault
pub first_age : {D : Type 0} (told : D → Option Told) (faults : D → ℕ) → ((disk : D) → faults disk ≡ 0)
    → (script : Script) (start : Start) → start ≡ first_start_of script
    → length script.messages ≡ script.members → (bases logs : List (Option (LogState D)))
    → AreOpened (group_of script start) bases → AreAmple (group_of script start) bases → (age : AgeEnd)
    → IsAgeOn IsSimulated told faults script start 0 bases logs age → IsFirstAge script age
first_age told faults never script start first lists bases logs opened ample age on = record {
  over = on.played.over;
  run = subst (λ s. IsSimulated script s 0 age on.played.over) first on.played.run;
  stored = none_stopped told faults never IsSimulated script start 0 bases logs age on on.played.run.told lists
      (subst (λ (s : Start). AllPresent (group_of script s)) (sym first) (all_present script lists)) opened ample;
}
