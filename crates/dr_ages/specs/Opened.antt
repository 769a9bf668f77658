-- The logs of an age that opens.
use Rattle.std.specs.Prelude.{◌≡◌, ◌⊎◌, ℕ, ◌≤◌, List, [], ◌∷◌, Option, Some, is_some}
use Rattle.dr_disk.specs.{Disk.Told, Images.{Goes, IsLeft}}
use Rattle.dr_entry.specs.declared.entry.Entry.{Entry}
use Rattle.dr_log.specs.{Standing.{HasAllOf, LosesNone}, State.LogState}
use Rattle.dr_log_bytes.specs.Content.{OnLog}
use Rattle.dr_opening.specs.{Lists.log_of, Tries.IsChosenOf}
use Rattle.dr_restart.specs.{Groups.first_group_of, declared.start.Start.Start}
use Rattle.dr_script.specs.declared.script.Script.{Script}
use Rattle.dr_ages.specs.Passing.{AllBeginWith}

-- these are the entries of a start that was chosen of what is on the logs
abbrev pub AreChosenOf : Script → List (List Entry) → List (Option OnLog) → Type 0
AreChosenOf script starts contents =
    (start : Start) × IsChosenOf (first_group_of script).opening contents start
    × (starts ≡ start.entries ∷ [])

-- a log has gone on since `old`: it has all that it had, and maybe more, but for entries that one of the starts
-- lacks. Its disk goes on telling, or not telling, has counted no fewer faults, and what no crash would have lost
-- of this none would have lost at any moment since.
pub record IsLater {D : Type 0} (told : D → Option Told) (faults : D → ℕ) (starts : List (List Entry))
    (old new : LogState D) : Type 0 where
  pub has : (first : OnLog) → AllBeginWith first.entries starts → HasAllOf first old.content
      → HasAllOf first new.content
  pub tells : is_some (told old.disk) ≡ is_some (told new.disk)
  pub later : faults old.disk ≤ faults new.disk
  pub stays : (first : OnLog) → AllBeginWith first.entries starts → HasAllOf first old.content
      → IsLeft (told old.disk) (LosesNone first)
      → Goes (told old.disk) (told new.disk) (λ s. LosesNone first)

-- so has each of these logs
abbrev pub AreLater : {D : Type 0} → (D → Option Told) → (D → ℕ) → List (List Entry)
    → List (Option (LogState D)) → List (Option (LogState D)) → Type 0
AreLater {D} told faults starts olds news = (m : ℕ) (old new : LogState D) → log_of olds m ≡ Some old
    → log_of news m ≡ Some new → IsLater told faults starts old new

-- so has each, where the starts are that one which was chosen of what was on the logs, or none
abbrev pub HaveGoneOn : {D : Type 0} → (D → Option Told) → (D → ℕ) → Script → List (Option OnLog)
    → List (Option (LogState D)) → List (Option (LogState D)) → Type 0
HaveGoneOn told faults script contents olds news = (starts : List (List Entry))
    × ((starts ≡ []) ⊎ AreChosenOf script starts contents) × AreLater told faults starts olds news
