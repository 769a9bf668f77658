-- What an opening that stopped may have left on the disks of a yard.
use Rattle.std.specs.Prelude.{◌≡◌, ◌⊎◌, ℕ, ◌<◌, true, false, List}
use Rattle.dr_history.specs.Members.{has}
use Rattle.dr_restart.specs.{Groups.first_group_of, Trying.IsTry, declared.lists.{Attempt.Attempt, LogLists.LogLists}}
use Rattle.dr_script.specs.declared.script.Script.{Script}
use Rattle.dr_yard.specs.Yards.{YardState}
use Rattle.dr_ages.specs.Fit.{AreChosen, AreReadable}

-- logs have come to others by a try to open an age, with those of all members but the missing
abbrev pub AreOfTry : Script → ℕ → List LogLists → List LogLists → Type 0
AreOfTry script missing before after = (try : Attempt)
    × IsTry (first_group_of script).opening before after try
    × ((m : ℕ) → m < script.members → has missing m ≡ false → has try.set m ≡ true)

-- whatever logs a crash leaves of the disks it might have left before, or a try to open an age makes of such ones
pub record AreTried (script : Script) (missing : ℕ) (before after : YardState) : Type 0 where
  pub readable : AreReadable script.members before → AreReadable script.members after
  pub tried : (logs : List LogLists) → AreChosen script.members after logs → (olds : List LogLists)
      × AreChosen script.members before olds × ((logs ≡ olds) ⊎ AreOfTry script missing olds logs)
