-- The logs of a hand's members, before a run and behind it.
use Rattle.std.specs.Prelude.{◌≡◌, ◌⊎◌, ◌≤◌, ℕ, false, List, [], length, Option, None, Some, is_some}
use Rattle.dr_disk.specs.{Disk.Told, Images.Goes}
use Rattle.dr_log.specs.{Standing.{HasAllOf, LosesNone}, State.LogState}
use Rattle.dr_served.specs.Served.{HaveSamePlaces, LosesNothing}
use Rattle.dr_program.specs.{Presence.present_at, Running.Running}

-- a log has all of its member's history, as the age opens, no append to it has failed, and the member has not
-- voted
pub record IsFor {D : Type 0} (log : LogState D) (r : Running) : Type 0 where
  pub entries : log.content.entries ≡ r.replica.history
  pub whole : log.failed ≡ false
  pub logged : r.replica.logged ≡ length r.replica.history
  pub votes : r.replica.votes ≡ []
  pub none : r.failed ≡ None

-- so it is with the logs of these members, in their order: there is a log where there is a member, and no other
pub record AreFor {D : Type 0} (logs : List (Option (LogState D))) (members : List (Option Running))
    : Type 0 where
  pub all : length logs ≡ length members
  pub there : (k : ℕ) → is_some (present_at logs k) ≡ is_some (present_at members k)
  pub each : (k : ℕ) (log : LogState D) (r : Running) → present_at logs k ≡ Some log
      → present_at members k ≡ Some r → IsFor log r

-- a log has all that it had, and maybe more; its disk tells what it told, or at no moment
-- of what it did would a crash have lost one; what no crash would have lost at a moment, of what was there and
-- of what came, none would have lost later; and no count of faults fell
pub record IsLonger {D : Type 0} (told : D → Option Told) (faults : D → ℕ) (old new : LogState D)
    : Type 0 where
  pub has : HasAllOf old.content new.content
  pub moments : (told new.disk ≡ told old.disk)
      ⊎ Goes (told old.disk) (told new.disk) (λ s. LosesNone old.content)
  pub lasting : LosesNothing told old new
  pub later : faults old.disk ≤ faults new.disk

-- so it is with all of them, each at its place
pub record AreLonger {D : Type 0} (told : D → Option Told) (faults : D → ℕ)
    (olds news : List (Option (LogState D))) : Type 0 where
  pub places : HaveSamePlaces olds news
  pub each : (k : ℕ) (old new : LogState D) → present_at olds k ≡ Some old → present_at news k ≡ Some new
      → IsLonger told faults old new
