-- Why an age was not opened.
use Rattle.std.specs.Prelude.{◌≡◌, ℕ, List, Option}
use Rattle.dr_disk.specs.Disk.{Told}
use Rattle.dr_log.specs.State.{LogState}
use Rattle.dr_log_bytes.specs.Content.{OnLog}
use Rattle.dr_quorum.specs.{Handing.handed_by, Telling.IsRightlyTold, declared.faults.ChooseFault.ChooseFault}
use Rattle.dr_restart.specs.{Groups.first_group_of, declared.start.Start.Start}
use Rattle.dr_script.specs.declared.script.Script.{Script}
use Rattle.dr_words.specs.Masks.{without}
use Rattle.dr_opening.specs.{Lists.{all_as_lists, contents_of}, Logs.WereNotOpened, Tries.IsChosenOf}
use Rattle.dr_opening.specs.declared.age.NotOpened.{NotOpened, TheVariants.{Unchosen, Unfinished}}

-- what is on the logs is refused for this, unless memory was wanting
abbrev pub IsUnchosen : Script → List (Option OnLog) → ChooseFault → Type 0
IsUnchosen script contents fault =
    IsRightlyTold (first_group_of script).opening (handed_by (all_as_lists contents)) fault

-- no start was chosen, and the logs are as they were; or one was, with those who aren't late in its first view,
-- and a log was refused what it lacked
abbrev pub IsWhyUnopened : {D : Type 0} → (D → Option Told) → (D → ℕ) → Script → ℕ → List (Option (LogState D))
    → List (Option (LogState D)) → NotOpened → Type 0
IsWhyUnopened told faults script late olds news (Unchosen fault) =
    IsUnchosen script (contents_of olds) fault × (news ≡ olds)
IsWhyUnopened told faults script late olds news (Unfinished fault) =
    (start : Start) × IsChosenOf (first_group_of script).opening (contents_of olds) start
    × (start.members ≡ without start.present late)
    × WereNotOpened told faults start olds news fault
