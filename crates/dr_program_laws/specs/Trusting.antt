-- Members that suspect nobody, and never will.
use Rattle.std.specs.Prelude.{◌≡◌, ◌≢◌, ◌⊎◌, ℕ, ◌+◌, ◌<◌, nat_lt, if◌then◌else◌, All, Bool, true, false, List, [], Option, None, Some}
use Rattle.dr_entry.specs.declared.end.{End.{End, TheVariants.{Suspected, Excluded, NoMajority}}, MemberEnd.MemberEnd}
use Rattle.dr_program.specs.{Presence.present_at, Program.Program, Replica.{Replica, me}, Running.Running}
use Rattle.dr_program.specs.{Turn.part_of, declared.{place.Part.Part, setup.Setup.Setup}}
use Rattle.dr_program.specs.declared.place.Part.TheVariants as parts
use Rattle.dr_restart.specs.Setups.{suspicion_in}
use Rattle.dr_script.specs.declared.script.{Fault.Fault, Script.Script}
use Rattle.dr_suspect.specs.Waits.{turns_without_news}

-- the end is by suspicion
abbrev pub is_left_out : End → Bool
is_left_out (Suspected by) = true
is_left_out (NoMajority mask) = true
is_left_out (Excluded view) = true
is_left_out end = false

abbrev pub has_been_left : Option End → Bool
has_been_left None = false
has_been_left (Some end) = is_left_out end

-- no member was ended by suspicion
abbrev pub NoneLeft : List MemberEnd → Type 0
NoneLeft members = All (λ (e : MemberEnd). is_left_out e.end ≡ false) members

-- the setup gives no reason to suspect anybody
pub record IsCalm (s : Setup) : Type 0 where
  pub patient : s.patience ≡ 0
  pub unscripted : s.suspicions ≡ []

-- so it is with all these setups
abbrev pub AllCalm : List (Option Setup) → Type 0
AllCalm setups = (m : ℕ) (s : Setup) → present_at setups m ≡ Some s → IsCalm s

-- no more does the script, to any member
pub record SuspectsNobody (s : Script) : Type 0 where
  pub patient : s.patience ≡ 0
  pub unscripted : All (λ (f : Fault). suspicion_in f.what ≡ None) s.faults

-- a member is in the first view, suspects nobody, waits for everybody, and was not ended by suspicion
pub record IsTrusting (r : Running) : Type 0 where
  pub first : r.replica.view ≡ 0
  pub unwedged : r.replica.suspects ≡ 0
  pub patient : r.waits.limit ≡ 0
  pub unscripted : r.suspicions ≡ []
  pub kept : has_been_left r.replica.end ≡ false

-- all members of the program do
abbrev pub AreTrusting : Program → Type 0
AreTrusting p = (m : ℕ) (r : Running) → present_at p.members m ≡ Some r → IsTrusting r

-- whether a row is still to be compared in this turn: one look at it is to come then
abbrev pub to_come : Part → ℕ → ℕ → ℕ
to_come parts.Take row i = 1
to_come parts.Look row i = if nat_lt i row then 0 else 1
to_come part row i = 0

-- the row is that of another member of the roster
abbrev pub IsOthers : Replica → ℕ → Type 0
IsOthers r i = (i < r.roster) × (i ≢ me r)

-- a member waits without a limit, or for no row as long as that, whatever the looks of this turn will find
abbrev pub IsPatient : Running → Type 0
IsPatient r = (r.waits.limit ≡ 0) ⊎ ((i : ℕ) → IsOthers r.replica i
    → turns_without_news r.waits i + to_come (part_of r.place) r.place.row i < r.waits.limit)

-- so it does where a turn begins
abbrev pub MayWait : Running → Type 0
MayWait r = (r.waits.limit ≡ 0)
    ⊎ ((i : ℕ) → IsOthers r.replica i → turns_without_news r.waits i + 1 < r.waits.limit)

-- a member is in the first view, suspects nobody, has no reason to, and was not ended by suspicion
pub record IsAtEase (r : Running) : Type 0 where
  pub first : r.replica.view ≡ 0
  pub unwedged : r.replica.suspects ≡ 0
  pub patient : IsPatient r
  pub unscripted : r.suspicions ≡ []
  pub kept : has_been_left r.replica.end ≡ false

-- all members of the program are
abbrev pub AreAtEase : Program → Type 0
AreAtEase p = (m : ℕ) (r : Running) → present_at p.members m ≡ Some r → IsAtEase r
