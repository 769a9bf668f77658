-- At which points of a run a member may crash.
use Rattle.std.specs.List.{enumerate_from, flat_map, range_with_len}
use Rattle.std.specs.Prelude.{◌≡◌, ℕ, ◌+◌, ◌-◌, ◌*◌, ◌/◌, ◌%◌, ◌==◌, nat_lt, if◌then◌else◌, Bool, true, false, List, get_or, length, map, replicate, slice_set, Option}
use Rattle.dr_ages.specs.{Ages.all_with, Watched.AreWatched, declared.{mode.Mode.TheVariants.Sim, stop.Stop.Stop}}
use Rattle.dr_entry.specs.declared.end.AgeEnd.{AgeEnd}
use Rattle.dr_machine.specs.Effects.{one_more}
use Rattle.dr_member.specs.Deeds.{is_before_turn}
use Rattle.dr_outcome.specs.Outcome.{IsMemoryRun}
use Rattle.dr_program.specs.{Replica.me, Running.{Running, next_deed}, declared.deed.Deed.{Deed, TheVariants.Push}}
use Rattle.dr_restart.specs.declared.start.Start.{Start}
use Rattle.dr_script.specs.declared.script.{Fault.Fault, Script.Script, What.TheVariants.Crash}

-- of this member it has been counted, up to this age, at how many points it may crash in each of so many turns of each
-- age, one age behind the other
pub record Counted : Type 0 where
  pub member : ℕ
  pub turns : ℕ
  pub age : ℕ
  pub points : List ℕ

-- before the run
abbrev pub uncounted : Script → ℕ → Counted
uncounted script member = record {
  member = member;
  turns = script.turns;
  age = 0;
  points = replicate (script.ages * script.turns) 0;
}

-- at how many points it may crash in the turn of the age that is behind so many others
abbrev pub turn_at : Counted → ℕ → ℕ
turn_at c turn = c.age * c.turns + turn

abbrev pub with_points : ℕ → ℕ → Counted → Counted
with_points at points c =
    if nat_lt at (length c.points) then record c { points = slice_set c.points at points } else c

-- as it begins a turn, there is the point behind its last push; with each push there is one more, before that
abbrev pub turn_begun : Counted → ℕ → Counted
turn_begun c turns = with_points (turn_at c turns) 1 c

abbrev pub push_done : Counted → ℕ → Counted
push_done c turns =
    let at = turn_at c (turns - 1) in with_points at (one_more 16 (get_or c.points at 0)) c

-- whether a deed is a push
abbrev pub is_push : Deed → Bool
is_push (Push index word) = true
is_push deed = false

-- what is counted with the next deed of a member
abbrev pub own_counted : Counted → Running → Counted
own_counted c r =
    if is_before_turn r then turn_begun c r.replica.turns
    else (if is_push (next_deed r) then push_done c r.replica.turns else c)

abbrev pub counted : Counted → Running → Counted
counted c r = if me r.replica == c.member then own_counted c r else c

-- it was counted so in a run of the script in which these members are late
pub record IsCounted (script : Script) (late member : ℕ) (points : List ℕ) : Type 0 where
  pub ages : List AgeEnd
  pub stop : Option Stop
  pub run : IsMemoryRun script (all_with late) Sim ages stop
  pub end : Counted
  pub watched : AreWatched (λ (old : Counted) (start : Start) (new : Counted). new ≡ record old { age = start.age })
      (λ old r table new. new ≡ counted old r) (λ old members table new. new ≡ old) Sim script (all_with late) 0 ages
      (uncounted script member) end
  pub told : points ≡ end.points

-- the crash of the member before this push of a turn, which is behind so many others of this and the earlier ages
abbrev pub crash_at : ℕ → ℕ → ℕ → ℕ → Fault
crash_at member turns behind push =
    record { age = behind / turns; member = member; what = Crash (behind % turns + 1) push }

-- all its crashes, by ages, turns and pushes, where so it was counted
abbrev pub crashes_by : ℕ → ℕ → List ℕ → List Fault
crashes_by member turns points =
    flat_map (λ t. map (crash_at member turns t.0) (range_with_len 0 t.1)) (enumerate_from 0 points)

-- the crashes of a member at all points of a run at which it may
pub record AreCrashes (script : Script) (late member : ℕ) (crashes : List Fault) : Type 0 where
  pub points : List ℕ
  pub counted : IsCounted script late member points
  pub all : crashes ≡ crashes_by member script.turns points
