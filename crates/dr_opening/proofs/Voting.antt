-- A log that gets the age vote of a start, or is refused it.
use Rattle.std.{specs.Prelude.{Err, IfSome, IsOk, Ok, Result}, proofs.lemmas.Bool.{false≢true}}
use Rattle.std.proofs.Common.{◌≡◌, refl, ap, sym, ◌∙◌, subst, inl, inr, ℕ, ◌+◌, ◌≤◌, arith, Bool, true, false, List, Option, Some, None}
use Rattle.dr_entry.specs.declared.record.Record.TheVariants as records
use Rattle.dr_disk.specs.{Disk.{Told, state_of}, Images.{AllImages, Goes, IsLeft}}
use Rattle.dr_disk.proofs.Moments.{stays_at, goes_so}
use Rattle.dr_log.specs.{Standing.{MayBeVoted, in_newer_format}, State.LogState, Voting.{HasVotedAge, WasUpgraded}}
use Rattle.dr_log.{specs.declared.fault.LogFault.LogFault, proofs.Voting.{format_changes, format_stays}}
use Rattle.dr_log.specs.declared.fault.LogFault.TheVariants as logs
use Rattle.dr_log_bytes.specs.{Content.{OnLog, with_record}, Grammar.StandFor}
use Rattle.dr_served.specs.Served.{IsSafe}
use Rattle.dr_restart.specs.{Trying.age_vote_of, declared.start.Start.Start}
use Rattle.dr_opening.specs.{Contents.{IsVoteStep, IsVoting, StandSo, voted_for}, Logs.{GotVote, LacksVote}}
use Rattle.dr_opening.specs.declared.catching_up.CatchFault.{CatchFault}
use Rattle.dr_opening.specs.declared.catching_up.CatchFault.TheVariants.{DiskFault, LogFull, OutOfMemory}
use Rattle.dr_opening.proofs.{Catching.GotRoom, Steps.{IsFrom, stuck_by}}

-- what a vote may leave is of the first phase
voting_by : (start : Start) (c : OnLog) (image : List ℕ) → MayBeVoted c (age_vote_of start) image
    → StandSo (IsVoting start c) image
voting_by start c image (inl (inl is)) = (c, inl refl, is)
voting_by start c image (inl (inr is)) = (in_newer_format c, inr (inl refl), is)
voting_by start c image (inr is) = (voted_for start c, inr (inr refl), is)

-- the moments of a vote on a log that got room
moments_by : {D : Type 0} (told : D → Option Told) (faults : D → ℕ) (start : Start) (old log new : LogState D)
    → GotRoom told faults old log → Goes (told log.disk) (told new.disk) (λ s. MayBeVoted log.content
    (age_vote_of start)) → Goes (told old.disk) (told new.disk) (λ s. StandSo (IsVoting start old.content))
moments_by {D} told faults start old log new got goes = subst (λ o. Goes o
    (told new.disk) (λ s. StandSo (IsVoting start old.content))) got.tells
    (goes_so (told log.disk) (told new.disk) (MayBeVoted log.content (age_vote_of start))
    (StandSo (IsVoting start old.content)) (λ image is. voting_by start old.content image
    (subst (λ c. MayBeVoted c (age_vote_of start) image) (ap (λ (s : LogState D). s.content) got.is) is)) goes)

-- ---- the upgrade

-- a log that got room was made one of the newer format, and is well
record IsNewer {D : Type 0} (told : D → Option Told) (faults : D → ℕ) (old mid : LogState D) (spare : ℕ)
    : Type 0 where
  content : mid.content ≡ in_newer_format old.content
  from : IsFrom told faults old mid
  spare_left : spare ≤ mid.spare_others + 1

newer_by : {D T : Type 0} (told : D → Option Told) (faults : D → ℕ) (old log mid : LogState D)
    (done : Result T LogFault) → GotRoom told faults old log → old.failed ≡ false → IsOk done
    → WasUpgraded told faults log mid done → IsNewer told faults old mid log.spare_others
newer_by {D} {T} told faults old log mid done got whole ok (inl (newer, same, never)) = record {
  content = content ∙ format_stays old.content (ap (λ (c : OnLog). c.newer) (sym is) ∙ newer);
  from = record {
    limit = ap (λ (s : LogState D). s.limit) same ∙ ap (λ (s : LogState D). s.limit) got.is;
    well = record {
      unfailed = ap (λ (s : LogState D). s.failed) same ∙ ap (λ (s : LogState D). s.failed) got.is ∙ whole;
      safe = subst (IsSafe told) (sym same) got.safe;
      calm = ap (λ (s : LogState D). faults s.disk) same ∙ got.calm;
    };
  };
  spare_left = omega (arith, ap (λ (s : LogState D). s.spare_others) same);
}
  where
    is : log.content ≡ old.content
    is = ap (λ (s : LogState D). s.content) got.is

    content : mid.content ≡ old.content
    content = ap (λ (s : LogState D). s.content) same ∙ is
newer_by {D} {T} told faults old log mid (Err why) got whole ok (inr (older, did)) = absurd (false≢true ok)
newer_by {D} {T} told faults old log mid (Ok x) got whole ok (inr (older, did)) = record {
  content = ap (λ (s : LogState D). s.content) did.ok ∙ ap (with_record records.Upgrade) is
      ∙ format_changes old.content (ap (λ (c : OnLog). c.newer) (sym is) ∙ older);
  from = record {
    limit = ap (λ (s : LogState D). s.limit) did.ok ∙ ap (λ (s : LogState D). s.limit) got.is;
    well = record {
      unfailed = ap (λ (s : LogState D). s.failed) did.ok ∙ ap (λ (s : LogState D). s.failed) got.is ∙ whole;
      safe = did.durable;
      calm = did.calm ∙ got.calm;
    };
  };
  spare_left = omega (arith, ap (λ (s : LogState D). s.spare_others) did.ok);
}
  where
    is : log.content ≡ old.content
    is = ap (λ (s : LogState D). s.content) got.is

-- a log that got room, and nothing else, is one from which an append is made
from_room : {D : Type 0} (told : D → Option Told) (faults : D → ℕ) (old log : LogState D)
    → GotRoom told faults old log → old.failed ≡ false → IsFrom told faults old log
from_room {D} told faults old log got whole = record {
  limit = ap (λ (s : LogState D). s.limit) got.is;
  well = record { unfailed = ap (λ (s : LogState D). s.failed) got.is ∙ whole; safe = got.safe; calm = got.calm };
}

-- ---- the vote

-- it was appended
pub voted_by : {D T : Type 0} (told : D → Option Told) (faults : D → ℕ) (start : Start) (old log new : LogState D)
    (x : T) → (got : GotRoom told faults old log) → old.failed ≡ false → 3 ≤ got.spare_others
    → HasVotedAge {T = T} told faults log new (age_vote_of start) (Ok x) → IsSafe told new
    → Goes (told log.disk) (told new.disk) (λ s. MayBeVoted log.content (age_vote_of start))
    → GotVote told faults start old new
voted_by {D} {T} told faults start old log new x got whole spare (inr (never, up)) safe moments =
    absurd (false≢true never)
voted_by {D} {T} told faults start old log new x got whole spare (inl (mid, done, ok, up, did)) safe moments = (
  record {
    content = ap (λ (s : LogState D). s.content) did.ok
        ∙ ap (with_record (records.AgeVote (age_vote_of start))) newer.content;
    limit = ap (λ (s : LogState D). s.limit) did.ok ∙ newer.from.limit;
    within = omega (arith, ap (λ (s : LogState D). s.content.length) did.ok, did.limit, newer.from.limit);
    well = record {
      unfailed = ap (λ (s : LogState D). s.failed) did.ok ∙ newer.from.well.unfailed;
      safe = safe;
      calm = did.calm ∙ newer.from.well.calm;
    };
    moments = moments_by told faults start old log new got moments;
  },
  omega (
    arith,
    ap (λ (s : LogState D). s.spare_others) did.ok,
    newer.spare_left,
    ap (λ (s : LogState D). s.spare_others) got.is,
    spare,
  ),
)
  where
    newer : IsNewer told faults old mid log.spare_others
    newer = newer_by told faults old log mid done got whole ok up

-- it was refused, or the upgrade was
pub unvoted_by : {D T : Type 0} (told : D → Option Told) (faults : D → ℕ) (start : Start)
    (old log new : LogState D) (why : LogFault) (answer : CatchFault) → GotRoom told faults old log
    → old.failed ≡ false → HasVotedAge {T = T} told faults log new (age_vote_of start) (Err why)
    → Goes (told log.disk) (told new.disk) (λ s. MayBeVoted log.content (age_vote_of start))
    → (why ≡ logs.DiskFault → answer ≡ DiskFault) → ((len : ℕ) → why ≡ logs.LogFull len → answer ≡ LogFull len)
    → LacksVote told faults start old new answer
unvoted_by {D} {T} told faults start old log new why answer got whole (inl (mid, done, ok, up, did)) moments disk full =
    stuck_by T told faults (IsVoteStep start old.content) (IsVoting start old.content) old mid new
    (records.AgeVote (age_vote_of start)) why answer did newer.from
    (inr (newer.content, ap (with_record (records.AgeVote (age_vote_of start))) newer.content))
    (moments_by told faults start old log new got moments) disk full
  where
    newer : IsNewer told faults old mid log.spare_others
    newer = newer_by told faults old log mid done got whole ok up
unvoted_by {D} {T} told faults start old log new why answer got whole (inr (err, inl (newer, same, never))) moments
    disk full = absurd (never err)
unvoted_by {D} {T} told faults start old log new why answer got whole (inr (err, inr (older, did))) moments disk
    full = stuck_by T told faults (IsVoteStep start old.content) (IsVoting start old.content) old log new
    records.Upgrade why answer did (from_room told faults old log got whole)
    (inl (before, is, ap (with_record records.Upgrade) is ∙ format_changes old.content before))
    (moments_by told faults start old log new got moments) disk full
  where
    is : log.content ≡ old.content
    is = ap (λ (s : LogState D). s.content) got.is

    before : old.content.newer ≡ false
    before = ap (λ (c : OnLog). c.newer) (sym is) ∙ older

-- there was no room for it
pub no_room_for : {D : Type 0} (told : D → Option Told) (faults : D → ℕ) (start : Start) (old new : LogState D)
    → GotRoom told faults old new → old.failed ≡ false → LacksVote told faults start old new OutOfMemory
no_room_for {D} told faults start old new got whole = record {
  next = (by old.content.newer refl).0;
  step = (by old.content.newer refl).1;
  limit = from.limit;
  later = omega (arith, got.calm);
  reason = from.well;
  moments = subst (λ o. Goes (told old.disk) o (λ s. StandSo (IsVoting start old.content))) (sym got.tells)
      (stays_at (told old.disk) (λ s. StandSo (IsVoting start old.content)) (first (told old.disk)
      (subst (λ o. IsLeft o (λ image. StandFor image old.content)) got.tells
      (subst (λ c. IsLeft (told new.disk) (λ image. StandFor image c)) is got.safe))));
}
  where
    from : IsFrom told faults old new
    from = from_room told faults old new got whole

    is : new.content ≡ old.content
    is = ap (λ (s : LogState D). s.content) got.is

    by : (b : Bool) → old.content.newer ≡ b → (next : OnLog) × IsVoteStep start old.content new.content next
    by true newer = (voted_for start old.content, inr (is ∙ format_stays old.content newer, refl))
    by false older = (in_newer_format old.content, inl (older, is, refl))

    first : (t : Option Told) → IsLeft t (λ image. StandFor image old.content)
        → IfSome t (λ t. AllImages (state_of t) (StandSo (IsVoting start old.content)))
    first None safe = tt
    first (Some t) safe = λ image left. (old.content, inl refl, safe image left)
