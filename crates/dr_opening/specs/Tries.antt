-- The logs of all members by lists, those that are missing too, before an age opens and where its opening stops.
use Rattle.std.specs.Prelude.{◌≡◌, ◌⊎◌, ℕ, Bool, true, false, List, length, Option, None, Some, slice_get, slice_index_or}
use Rattle.dr_disk.specs.{Disk.{Told, state_of}, Images.IsImage}
use Rattle.dr_history.specs.declared.opening.Opening.{Opening}
use Rattle.dr_log.specs.State.{LogState}
use Rattle.dr_log_bytes.specs.{Content.OnLog, Grammar.StandFor}
use Rattle.dr_served.specs.Served.{IsSafe}
use Rattle.dr_restart.specs.{Choosing.IsChosenStart, Trying.HaveAgeVote, declared.lists.Attempt.Attempt}
use Rattle.dr_restart.specs.declared.{lists.LogLists.LogLists, start.Start.Start}
use Rattle.dr_quorum.specs.Handing.{handed_by}
use Rattle.dr_opening.specs.{Contents.{IsRising, IsVoting, voted_for}, Lists.{all_as_lists, as_lists, log_of}}

-- the try to open the age of a start, on the logs of its members
abbrev pub try_of : Start → Bool → Attempt
try_of start opened = record { set = start.present; start = start; opened = opened }

-- the start was chosen of what is on the logs that are there, in a place for each member
pub record IsChosenOf (o : Opening) (contents : List (Option OnLog)) (start : Start) : Type 0 where
  pub all : length contents ≡ length o.messages
  pub chosen : IsChosenStart o (handed_by (all_as_lists contents)) start

-- what is on the log of a member, where it is there
abbrev pub content_at : List (Option OnLog) → ℕ → Option OnLog
content_at contents m = slice_index_or contents m None

-- among the lists of all members are those that stand on the logs which are there
abbrev pub AreAmong : List (Option OnLog) → List LogLists → Type 0
AreAmong contents lists =
    (m : ℕ) (c : OnLog) → content_at contents m ≡ Some c → slice_get lists m ≡ Some (as_lists c)

-- on each log that is there something came to stand that is so, and the lists of the others are as before
pub record CameSo (P : OnLog → OnLog → Type 0) (contents : List (Option OnLog)) (before after : List LogLists)
    : Type 0 where
  pub all : length after ≡ length before
  pub each : (m : ℕ) (c : OnLog) → content_at contents m ≡ Some c
      → (now : OnLog) × P c now × (slice_get after m ≡ Some (as_lists now))
  pub others : (m : ℕ) → content_at contents m ≡ None → slice_get after m ≡ slice_get before m

-- An opening stopped in its first phase, or in its second.
abbrev pub HasStoppedSo : Start → List (Option OnLog) → List LogLists → List LogLists → Type 0
HasStoppedSo start contents before after =
    CameSo (IsVoting start) contents before after
    ⊎ CameSo (λ c now. IsRising start (voted_for start c) now) contents before after

-- a try is told rightly by the logs that it left: its set are those who are there by its start, and it was opened
-- exactly where each of their logs has the age vote
pub record IsToldBy (after : List LogLists) (try : Attempt) : Type 0 where
  pub set : try.set ≡ try.start.present
  pub opened : try.opened ≡ true → HaveAgeVote after try.set try.start
  pub unopened : try.opened ≡ false → ¬ HaveAgeVote after try.set try.start

-- the lists of a log are what bytes stand for that a crash may leave of its disk
pub record IsLeftOn {D : Type 0} (told : D → Option Told) (log : LogState D) (lists : LogLists) : Type 0 where
  pub tells : Told
  pub told_so : told log.disk ≡ Some tells
  pub image : List ℕ
  pub left : IsImage (state_of tells) image
  pub content : OnLog
  pub stands : StandFor image content
  pub are : lists ≡ as_lists content

-- after a crash: some such lists for each log that is there, and those of the others as before
pub record AreLeftOn {D : Type 0} (told : D → Option Told) (logs : List (Option (LogState D)))
    (before after : List LogLists) : Type 0 where
  pub all : length after ≡ length before
  pub each : (m : ℕ) (log : LogState D) → log_of logs m ≡ Some log
      → (lists : LogLists) × (slice_get after m ≡ Some lists) × IsLeftOn told log lists
  pub others : (m : ℕ) → log_of logs m ≡ None → slice_get after m ≡ slice_get before m

-- what is on each log is safe
abbrev pub AreSafe : {D : Type 0} → (D → Option Told) → List (Option (LogState D)) → Type 0
AreSafe {D} told logs = (m : ℕ) (log : LogState D) → log_of logs m ≡ Some log → IsSafe told log
