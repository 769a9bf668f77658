-- What the members of a script's group are told as an age opens, and the program that they are then.
use Rattle.std.specs.Prelude.{◌≡◌, ℕ, ◌<◌, ◌==◌, ◌&&◌, if◌then◌else◌, List, length, filter_map, Option, None, Some}
use Rattle.dr_script.specs.declared.script.{Fault.Fault, Script.Script, What.{What, TheVariants.{Crash, Suspect}}}
use Rattle.dr_program.specs.{Presence.present_at, Program.{Program, IsSetup, begun_program}}
use Rattle.dr_program.specs.declared.setup.{CrashPoint.CrashPoint, Setup.Setup, Suspicion.Suspicion}
use Rattle.dr_machine.specs.Group.{IsPresent}
use Rattle.dr_restart.specs.{Groups.group_of, declared.start.Start.Start}

-- the crash point of what happens to a member, where it is a crash
abbrev pub point_of : What → Option CrashPoint
point_of (Crash turn push) = Some (record { turn = turn; push = push })
point_of (Suspect turn other) = None

-- the crash point that a fault is to a member in the age that is number nth of the run, from 0
abbrev pub crash_of : ℕ → ℕ → Fault → Option CrashPoint
crash_of nth me fault = if (fault.age == nth) && (fault.member == me) then point_of fault.what else None

-- the points at which the member crashes in that age, in the order of the faults
abbrev pub crashes_of : List Fault → ℕ → ℕ → List CrashPoint
crashes_of faults nth me = filter_map (crash_of nth me) faults

-- the suspicion of what happens to a member, where it is one
abbrev pub suspicion_in : What → Option Suspicion
suspicion_in (Crash turn push) = None
suspicion_in (Suspect turn other) = Some (record { turn = turn; other = other })

-- the suspicion that a fault is to a member in that age
abbrev pub suspicion_of : ℕ → ℕ → Fault → Option Suspicion
suspicion_of nth me fault = if (fault.age == nth)
    && (fault.member == me) then suspicion_in fault.what else None

-- the suspicions that the member has in that age, in the order of the faults
abbrev pub suspicions_of : List Fault → ℕ → ℕ → List Suspicion
suspicions_of faults nth me = filter_map (suspicion_of nth me) faults

-- the setup of a member in the age that is number nth of the run, from 0
pub record IsSetupOf (script : Script) (start : Start) (nth me : ℕ) (s : Setup) : Type 0 where
  pub setup : IsSetup (group_of script start) script.turns me s
  pub patience : s.patience ≡ script.patience
  pub crashes : s.crashes ≡ crashes_of script.faults nth me
  pub suspicions : s.suspicions ≡ suspicions_of script.faults nth me

-- the setups of those of the first n members that are there, by number
pub record AreFirstSetupsOf (script : Script) (start : Start) (nth n : ℕ)
    (setups : List (Option Setup)) : Type 0 where
  pub all : length setups ≡ n
  pub each : (m : ℕ) (s : Setup) → present_at setups m ≡ Some s → IsSetupOf script start nth m s
  pub there : (m : ℕ) → m < n → IsPresent (group_of script start) m
      → (s : Setup) × (present_at setups m ≡ Some s)

-- the setups of those of the roster that are there, by number
abbrev pub AreSetupsOf : Script → Start → ℕ → List (Option Setup) → Type 0
AreSetupsOf script start nth setups = AreFirstSetupsOf script start nth script.members setups

-- the program as that age opens
abbrev pub IsBegun : Script → Start → ℕ → Program → Type 0
IsBegun script start nth p =
    (setups : List (Option Setup)) × AreSetupsOf script start nth setups
    × (p ≡ begun_program (group_of script start) setups)
