-- The search for the next place of the turn at which there is something to do.
use Rattle.std.specs.Prelude.{◌≡◌, ℕ, ◌+◌, ◌<◌, ◌≤◌, nat_lt, ◌&&◌, not, if◌then◌else◌, Bool, is_some, length, false, true}
use Rattle.dr_entry.specs.declared.record.Value.{Value}
use Rattle.dr_machine.specs.declared.step.Step.{Step}
use Rattle.dr_machine.specs.declared.step.Step.TheVariants as steps
use Rattle.dr_program.specs.{Replica.{Replica, is_named, is_wedged, me}, Running.{Running, applies, columns}}
use Rattle.dr_program.specs.{Turn.{part_of, rows_in, columns_in}, declared.place.{Place.Place, TheConstants.TURN}}
use Rattle.dr_member.specs.{declared.fate.Fate.Fate, declared.search.Due.Due}
use Rattle.dr_member.specs.declared.search.Due.TheVariants as dues

-- the member with this replica and this fate, at this place
abbrev pub standing : Replica → Fate → Place → Running
standing replica fate place = record {
  replica = replica;
  place = place;
  limit = fate.limit;
  waits = fate.waits;
  crashes = fate.crashes;
  suspicions = fate.suspicions;
  pushes = fate.pushes;
  failed = fate.failed;
}

-- the step of what is due at this place, with this value where it is a vote
abbrev pub step_by : Due → Place → Value → Step
step_by dues.Look p v = steps.Look p.row p.column
step_by dues.Push p v = steps.Push p.row p.column
step_by dues.Append p v = steps.Append
step_by dues.Vote p v = steps.LogVote v
step_by dues.Give p v = steps.Welcome p.row
step_by dues.Take p v = steps.Join
step_by (dues.Act a) p v = steps.Do a

-- what comes after the row of this place
abbrev pub next_row : ℕ → Place → Place
next_row n p = if nat_lt (p.row + 1) (rows_in n (part_of p)) then record p { row = p.row + 1; column = 0 }
    else record { part = if nat_lt (p.part + 1) (length TURN) then p.part + 1 else 0; row = 0; column = 0 }

-- nothing of a vote is due: no append has failed, it suspects nobody, and it has committed no value that
-- names it
abbrev pub is_calm : Replica → Fate → Bool
is_calm q fate = not (is_some fate.failed) && (not (is_wedged q) && not (is_named (me q) q.committed))

-- there is nothing to do in the row from this place up to column t
abbrev pub IsIdleTo : Running → Place → ℕ → Type 0
IsIdleTo r p t = (c : ℕ) → p.column ≤ c → c < t → applies r (record p { column = c }) ≡ false

-- the first column of the row, from this place on, with something to do, if there is one
pub record IsFirstDue (r : Running) (p : Place) (c : ℕ) : Type 0 where
  pub later : p.column ≤ c
  pub within : c < columns_in (columns r) (part_of p)
  pub idle : IsIdleTo r p c
  pub due : applies r (record p { column = c }) ≡ true
