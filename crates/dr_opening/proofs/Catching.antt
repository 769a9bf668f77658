-- What comes of a log that is brought up to a start.
use Rattle.std.specs.Prelude.{◌≢◌, IfSome, IsErrOf, Err}
use Rattle.std.proofs.Common.{◌≡◌, refl, ap, sym, ◌∙◌, subst, ℕ, ◌+◌, ◌≤◌, inl, arith, List, ◌++◌, Option, Some, None, false}
use Rattle.dr_entry.specs.declared.entry.Entry.{Entry}
use Rattle.dr_disk.specs.{Calls.State, Disk.{Told, state_of}, Images.{AllImages, Goes, IsLeft}}
use Rattle.dr_disk.proofs.Moments.{stays_at}
use Rattle.dr_log.specs.{Grouping.{added_all, group}, Standing.{IsNoneOrAll, as_records, with_entries}}
use Rattle.dr_log.specs.{State.{KeepsLimit, LogState, appended_all, broken_off_all}, declared.fault.LogFault.LogFault}
use Rattle.dr_log.specs.declared.fault.LogFault.TheVariants as logs
use Rattle.dr_opening.specs.CatchingUp.{FitsOrIsFull, HasCaughtUp, HasStayed, IsLeftAlone, lacked}
use Rattle.dr_opening.specs.declared.catching_up.CatchFault.{CatchFault, TheVariants.{DiskFault, LogFull}}
use Rattle.dr_log_bytes.specs.{Content.OnLog, Grammar.StandFor}
use Rattle.dr_served.specs.Served.{IsSafe}

-- a log that got room, or none, is as before but for its disk and its spares: it tells the same, and what is
-- on it is safe
pub record GotRoom {D : Type 0} (told : D → Option Told) (faults : D → ℕ) (old new : LogState D) : Type 0 where
  pub spare_entries : ℕ
  pub spare_votes : ℕ
  pub spare_others : ℕ
  pub is : new ≡ record old {
    disk = new.disk;
    spare_entries = spare_entries;
    spare_votes = spare_votes;
    spare_others = spare_others;
  }
  pub tells : told new.disk ≡ told old.disk
  pub safe : IsSafe told new
  pub calm : faults new.disk ≡ faults old.disk

-- so it has stayed, and was left alone
pub stayed_still : {D : Type 0} (told : D → Option Told) (faults : D → ℕ) (whole : List Entry)
    (old new : LogState D) → GotRoom told faults old new → HasStayed told faults whole old new
stayed_still {D} told faults whole old new got = record {
  content = content;
  limit = ap (λ (s : LogState D). s.limit) got.is;
  moments = subst (λ (o : Option Told). Goes (told old.disk) o none_or_all) (sym got.tells)
      (stays_at (told old.disk) none_or_all (first (told old.disk)
      (subst (λ (o : Option Told). IsLeft o (λ image. StandFor image old.content)) got.tells
      (subst (λ (c : OnLog). IsLeft (told new.disk) (λ image. StandFor image c)) content got.safe))));
  later = omega (arith, got.calm);
}
  where
    content : new.content ≡ old.content
    content = ap (λ (s : LogState D). s.content) got.is

    none_or_all : State → List ℕ → Type 0
    none_or_all s = IsNoneOrAll old.content (lacked old whole)

    first : (t : Option Told) → IsLeft t (λ image. StandFor image old.content)
        → IfSome t (λ t. AllImages (state_of t) (none_or_all (state_of t)))
    first None safe = tt
    first (Some t) safe = λ image is. inl (safe image is)

pub left_alone : {D : Type 0} (told : D → Option Told) (faults : D → ℕ) (old new : LogState D)
    → old.failed ≡ false → GotRoom told faults old new → IsLeftAlone told faults old new
left_alone {D} told faults old new whole got = record {
  unfailed = ap (λ (s : LogState D). s.failed) got.is ∙ whole;
  tells = got.tells;
  safe = got.safe;
  calm = got.calm;
}

-- the moments of an append to it
moments_on : {D : Type 0} (told : D → Option Told) (faults : D → ℕ) (whole news : List Entry)
    (old log new : LogState D) → GotRoom told faults old log → news ≡ lacked old whole
    → Goes (told log.disk) (told new.disk) (λ s. IsNoneOrAll log.content news)
    → Goes (told old.disk) (told new.disk) (λ s. IsNoneOrAll old.content (lacked old whole))
moments_on {D} told faults whole news old log new got is goes = rw (← is, ← got.tells)
    (subst (λ (c : OnLog). Goes (told log.disk) (told new.disk) (λ s. IsNoneOrAll c news))
    (ap (λ (s : LogState D). s.content) got.is) goes)

-- once what it lacks was appended
pub caught_all : {D : Type 0} (told : D → Option Told) (faults : D → ℕ) (whole news : List Entry)
    (old log new : LogState D) → GotRoom told faults old log → old.failed ≡ false
    → old.content.entries ++ news ≡ whole → news ≡ lacked old whole → new ≡ appended_all log news new.disk
    → told new.disk ≡ added_all (group log.content.length (as_records news)) (told log.disk)
    → Goes (told log.disk) (told new.disk) (λ s. IsNoneOrAll log.content news)
    → IsSafe told new → faults new.disk ≡ faults log.disk → HasCaughtUp told faults whole old new
caught_all {D} told faults whole news old log new got good all is made calls goes safe calm = record {
  entries = ap (λ (c : OnLog). c.entries) grown ∙ all;
  content = grown ∙ ap (λ (l : List Entry). with_entries l old.content) is;
  limit = limit ∙ ap (λ (s : LogState D). s.limit) got.is;
  unfailed = ap (λ (s : LogState D). s.failed) made ∙ ap (λ (s : LogState D). s.failed) got.is ∙ good;
  calls = calls ∙ ap (added_all (group log.content.length (as_records news))) got.tells
      ∙ ap (λ (n : ℕ). added_all (group n (as_records news)) (told old.disk)) length_is
      ∙ ap (λ (l : List Entry). added_all (group old.content.length (as_records l)) (told old.disk)) is;
  moments = moments_on told faults whole news old log new got is goes;
  safe = safe;
  calm = calm ∙ got.calm;
}
  where
    grown : new.content ≡ with_entries news old.content
    grown = ap (λ (s : LogState D). s.content) made ∙ ap (λ (s : LogState D). with_entries news s.content) got.is

    length_is : log.content.length ≡ old.content.length
    length_is = ap (λ (s : LogState D). s.content.length) got.is

    limit : new.limit ≡ log.limit
    limit = ap (λ (s : LogState D). s.limit) made

-- an append of it that was refused, or failed
pub stayed_all : {D : Type 0} (told : D → Option Told) (faults : D → ℕ) (whole news : List Entry)
    (old log new : LogState D) → GotRoom told faults old log → news ≡ lacked old whole → new.content ≡ log.content
    → new.limit ≡ log.limit → Goes (told log.disk) (told new.disk) (λ s. IsNoneOrAll log.content news)
    → faults log.disk ≤ faults new.disk → HasStayed told faults whole old new
stayed_all {D} told faults whole news old log new got is content limit goes later = record {
  content = content ∙ ap (λ (s : LogState D). s.content) got.is;
  limit = limit ∙ ap (λ (s : LogState D). s.limit) got.is;
  moments = moments_on told faults whole news old log new got is goes;
  later = omega (arith, got.calm, later);
}

-- so by the answer
pub stopped_stayed : {D : Type 0} (T : Type 0) (told : D → Option Told) (faults : D → ℕ) (whole news : List Entry)
    (old log new : LogState D) (count : ℕ) (why : LogFault) → GotRoom told faults old log → news ≡ lacked old whole
    → (IsErrOf {T = T} (Err why) logs.DiskFault → new ≡ broken_off_all log count new.disk)
    → ((len : ℕ) → IsErrOf {T = T} (Err why) (logs.LogFull len) → new ≡ log)
    → Goes (told log.disk) (told new.disk) (λ s. IsNoneOrAll log.content news)
    → faults log.disk ≤ faults new.disk → HasStayed told faults whole old new
stopped_stayed {D} T told faults whole news old log new count logs.DiskFault got is broken full goes later =
    let same = broken refl in
    stayed_all told faults whole news old log new got is (ap (λ (s : LogState D). s.content) same)
    (ap (λ (s : LogState D). s.limit) same) goes later
stopped_stayed {D} T told faults whole news old log new count (logs.LogFull len) got is broken full goes later =
    let same = full len refl in
    stayed_all told faults whole news old log new got is (ap (λ (s : LogState D). s.content) same)
    (ap (λ (s : LogState D). s.limit) same) goes later

pub full_alone : {D : Type 0} (T : Type 0) (told : D → Option Told) (faults : D → ℕ) (old log new : LogState D)
    (why : LogFault) (answer : CatchFault) → old.failed ≡ false → GotRoom told faults old log
    → ((len : ℕ) → IsErrOf {T = T} (Err why) (logs.LogFull len) → new ≡ log)
    → (why ≡ logs.DiskFault → answer ≡ DiskFault) → answer ≢ DiskFault → IsLeftAlone told faults old new
full_alone T told faults old log new logs.DiskFault answer good got full disk other = absurd (other (disk refl))
full_alone T told faults old log new (logs.LogFull len) answer good got full disk other =
    subst (IsLeftAlone told faults old) (sym (full len refl)) (left_alone told faults old log good got)

-- which refusal of the log's an answer tells
pub told_disk : (T : Type 0) (why : LogFault) (answer : CatchFault)
    → ((len : ℕ) → why ≡ logs.LogFull len → answer ≡ LogFull len) → IsErrOf {T = T} (Err answer) DiskFault
    → why ≡ logs.DiskFault
told_disk T logs.DiskFault answer over is = refl
told_disk T (logs.LogFull len) answer over is = let e = over len refl in absurd cc

-- whether the log fits or is full, by that
pub full_by : {D : Type 0} (T : Type 0) (old log : LogState D) (size : ℕ) (why : LogFault) (answer : CatchFault)
    → log.content.length ≡ old.content.length → log.limit ≡ old.limit
    → KeepsLimit log.limit log.content.length size {T = T} (Err why) → (why ≡ logs.DiskFault → answer ≡ DiskFault)
    → ((len : ℕ) → why ≡ logs.LogFull len → answer ≡ LogFull len)
    → FitsOrIsFull old.limit old.content.length size {T = T} (Err answer)
full_by T old log size logs.DiskFault answer long limit keeps disk over =
    rw (disk refl) (omega (arith, keeps, long, limit))
full_by T old log size (logs.LogFull len) answer long limit keeps disk over =
    rw (over len refl) (keeps.0 ∙ long, omega (arith, keeps.1, long, limit))
