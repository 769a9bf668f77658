-- Scripts and setups whose members come to the end of their work.
use Rattle.std.specs.Prelude.{◌≡◌, ◌⊎◌, ℕ, ◌+◌, ◌*◌, ◌≤◌, [], All, List, Option, Some, length}
use Rattle.dr_program.specs.{Presence.present_at, declared.setup.Setup.Setup}
use Rattle.dr_script.specs.declared.script.{Schedule.TheVariants.Lockstep, Script.Script}

-- a script without faults, in lockstep, gives its members time enough: four turns for each message of
-- whoever has most, and eight more
pub record HasTime (s : Script) : Type 0 where
  pub faultless : s.faults ≡ []
  pub lockstep : s.schedule ≡ Lockstep
  pub turns : All (λ messages. 4 * length messages + 8 ≤ s.turns) s.messages

-- a setup suspects nobody by its script, and where it has patience, it is that of three turns or more
pub record IsLenient (s : Setup) : Type 0 where
  pub patience : (s.patience ≡ 0) ⊎ (3 ≤ s.patience)
  pub unscripted : s.suspicions ≡ []

-- so it is with all these setups
abbrev pub AllLenient : List (Option Setup) → Type 0
AllLenient setups = (m : ℕ) (s : Setup) → present_at setups m ≡ Some s → IsLenient s
