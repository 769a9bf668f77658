-- What comes of logs while an age opens on them.
use Rattle.std.specs.Prelude.{◌≡◌, ◌⊎◌, ⊤, ℕ, ◌<◌, ◌≤◌, true, false, List, length, Option, None, Some}
use Rattle.dr_disk.specs.{Disk.Told, Images.{Goes, IsLeft}}
use Rattle.dr_io.specs.Faults.{Rose}
use Rattle.dr_log.specs.State.{LogState}
use Rattle.dr_log_bytes.specs.{Content.OnLog, Grammar.StandFor}
use Rattle.dr_served.specs.Served.{IsSafe}
use Rattle.dr_restart.specs.declared.start.Start.{Start}
use Rattle.dr_opening.specs.Contents.{IsOpenFor, IsRising, IsRisingStep, IsVoteStep, IsVoting, StandSo, voted_for}
use Rattle.dr_opening.specs.{Lists.log_of, declared.{catching_up.CatchFault.CatchFault, opening.OpenFault.OpenFault}}
use Rattle.dr_opening.specs.declared.catching_up.CatchFault.TheVariants.{OutOfMemory, DiskFault, LogFull}

-- a log is whole, what is on it is safe, and its disk has counted no fault since `old`
pub record IsWell {D : Type 0} (told : D → Option Told) (faults : D → ℕ) (old new : LogState D) : Type 0 where
  pub unfailed : new.failed ≡ false
  pub safe : IsSafe told new
  pub calm : faults new.disk ≡ faults old.disk

-- a log has come to what is so, within its limit; at each moment a crash would have left some of this
pub record HasComeTo {D : Type 0} (told : D → Option Told) (faults : D → ℕ) (End Way : OnLog → Type 0)
    (old new : LogState D) : Type 0 where
  pub content : End new.content
  pub limit : new.limit ≡ old.limit
  pub within : new.content.length ≤ old.limit
  pub well : IsWell told faults old new
  pub moments : Goes (told old.disk) (told new.disk) (λ s. StandSo Way)

-- why an append was refused that finds `now` on a log and makes `next` of it: memory was wanting, a call of the
-- disk failed, or it would make the log longer than its limit
abbrev pub Explains : {D : Type 0} → (D → Option Told) → (D → ℕ) → OnLog → OnLog → LogState D → LogState D
    → CatchFault → Type 0
Explains told faults now next old new OutOfMemory = IsWell told faults old new
Explains told faults now next old new DiskFault =
    (new.failed ≡ true) × Rose (faults old.disk) (faults new.disk)
    × IsLeft (told new.disk) (λ image. StandFor image now ⊎ StandFor image next)
Explains told faults now next old new (LogFull len) =
    IsWell told faults old new × (len ≡ now.length) × (old.limit < next.length)

-- One of these appends to a log was refused; at each moment a crash would have left what is so.
pub record HasStuck {D : Type 0} (told : D → Option Told) (faults : D → ℕ) (Step : OnLog → OnLog → Type 0)
    (Way : OnLog → Type 0) (old new : LogState D) (why : CatchFault) : Type 0 where
  pub next : OnLog
  pub step : Step new.content next
  pub limit : new.limit ≡ old.limit
  pub later : faults old.disk ≤ faults new.disk
  pub reason : Explains told faults new.content next old new why
  pub moments : Goes (told old.disk) (told new.disk) (λ s. StandSo Way)

-- a log got the age vote of a start, or was refused it
abbrev pub GotVote : {D : Type 0} → (D → Option Told) → (D → ℕ) → Start → LogState D → LogState D → Type 0
GotVote told faults start old new =
    HasComeTo told faults (λ c. c ≡ voted_for start old.content) (IsVoting start old.content) old new
    × (1 ≤ new.spare_others)

abbrev pub LacksVote : {D : Type 0} → (D → Option Told) → (D → ℕ) → Start → LogState D → LogState D
    → CatchFault → Type 0
LacksVote told faults start old new why =
    HasStuck told faults (IsVoteStep start old.content) (IsVoting start old.content) old new why

-- a log with the vote is ready for a cut and for entries
pub record IsReadyToRise {D : Type 0} (told : D → Option Told) (log : LogState D) : Type 0 where
  pub newer : log.content.newer ≡ true
  pub spare : 1 ≤ log.spare_others
  pub whole : log.failed ≡ false
  pub safe : IsSafe told log

-- a log with the vote came to all that the age begins with, or was refused it
abbrev pub GotStart : {D : Type 0} → (D → Option Told) → (D → ℕ) → Start → LogState D → LogState D → Type 0
GotStart told faults start old new =
    HasComeTo told faults (IsOpenFor start old.content) (IsRising start old.content) old new

abbrev pub LacksStart : {D : Type 0} → (D → Option Told) → (D → ℕ) → Start → LogState D → LogState D
    → CatchFault → Type 0
LacksStart told faults start old new why =
    HasStuck told faults (IsRisingStep start old.content) (IsRising start old.content) old new why

-- ---- the logs of all members

-- what is so of a log and what it has come to, where there is one; a missing one stays missing
abbrev pub Together : {D : Type 0} → (LogState D → LogState D → Type 0) → Option (LogState D)
    → Option (LogState D) → Type 0
Together P None None = ⊤
Together P None (Some new) = ⊥
Together P (Some old) None = ⊥
Together P (Some old) (Some new) = P old new

-- there was a log, and there is one, of which this is so
abbrev pub BothThere : {D : Type 0} → (LogState D → LogState D → Type 0) → Option (LogState D)
    → Option (LogState D) → Type 0
BothThere {D} P before after =
    (old : LogState D) × (new : LogState D) × (before ≡ Some old) × (after ≡ Some new) × P old new

-- the logs of the members below n have come so, and the others are as they were
pub record ComeBelow {D : Type 0} (P : LogState D → LogState D → Type 0) (olds news : List (Option (LogState D)))
    (n : ℕ) : Type 0 where
  pub all : length news ≡ length olds
  pub below : (m : ℕ) → m < n → Together P (log_of olds m) (log_of news m)
  pub others : (m : ℕ) → n ≤ m → log_of news m ≡ log_of olds m

-- the log of member k came to an end so, those of the members below it have come so, and the others are as they
-- were
pub record StopAt {D : Type 0} (P Q : LogState D → LogState D → Type 0) (olds news : List (Option (LogState D)))
    (k : ℕ) : Type 0 where
  pub all : length news ≡ length olds
  pub below : (m : ℕ) → m < k → Together P (log_of olds m) (log_of news m)
  pub stop : BothThere Q (log_of olds k) (log_of news k)
  pub others : (m : ℕ) → k < m → log_of news m ≡ log_of olds m

-- Each log got the age vote, ascending, and then each came to all that the age begins with.
abbrev pub WereOpened : {D : Type 0} → (D → Option Told) → (D → ℕ) → Start → List (Option (LogState D))
    → List (Option (LogState D)) → Type 0
WereOpened {D} told faults start olds news = (mids : List (Option (LogState D)))
    × ComeBelow (GotVote told faults start) olds mids (length olds)
    × ComeBelow (GotStart told faults start) mids news (length olds)

-- The log of a member was refused its vote, when those below it had got it; or all had it, and that one was refused
-- the start, when those below it had come to it.
abbrev pub WereNotOpened : {D : Type 0} → (D → Option Told) → (D → ℕ) → Start → List (Option (LogState D))
    → List (Option (LogState D)) → OpenFault → Type 0
WereNotOpened {D} told faults start olds news fault =
    StopAt (GotVote told faults start) (λ old new. LacksVote told faults start old new fault.why) olds news
    fault.member
    ⊎ ((mids : List (Option (LogState D))) × ComeBelow (GotVote told faults start) olds mids (length olds)
    × StopAt (GotStart told faults start) (λ old new. LacksStart told faults start old new fault.why) mids news
    fault.member)
