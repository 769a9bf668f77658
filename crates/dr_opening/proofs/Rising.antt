-- A log with the age vote that is cut back and brought up to a start, or is refused one of the two.
use Rattle.std.specs.Prelude.{◌≢◌, Err, IfErr, IfSome, IsErrOf, Ok, OnErr, OnOk, Result}
use Rattle.std.proofs.Common.{◌≡◌, refl, ap, sym, ◌∙◌, subst, inl, inr, ◌⊎◌, ℕ, arith, true, List, Option, Some, None}
use Rattle.std.proofs.lemmas.Bool.{false≢true}
use Rattle.dr_entry.specs.declared.record.Record.TheVariants as records
use Rattle.dr_disk.specs.{Disk.{Told, state_of}, Images.{AllImages, Goes, IsLeft}}
use Rattle.dr_disk.proofs.Moments.{Goes-last, stays_at, goes_both, goes_so}
use Rattle.dr_io.specs.Faults.{Rose}
use Rattle.dr_log.specs.{Standing.{IsBeforeOrAfter, IsNoneOrAll, entries_length}, State.LogState}
use Rattle.dr_log.specs.declared.fault.LogFault.{LogFault}
use Rattle.dr_log.specs.declared.fault.LogFault.TheVariants as logs
use Rattle.dr_log_bytes.specs.{Content.{OnLog, with_record}, Grammar.StandFor}
use Rattle.dr_restart.specs.declared.start.Start.{Start}
use Rattle.dr_opening.specs.CatchingUp.{FitsOrIsFull, HasCaughtUp, HasStayed, IsLeftAlone, lacked, opened_with}
use Rattle.dr_opening.specs.Contents.{IsCutFor, IsRising, IsRisingStep, StandSo, raised_to}
use Rattle.dr_opening.specs.{CuttingBack.{IsCutDue, WasCutBack}, Logs.{Explains, GotStart, IsReadyToRise, LacksStart}}
use Rattle.dr_opening.{specs.declared.catching_up.CatchFault.CatchFault, proofs.Steps.{IsFrom, stuck_by}}
use Rattle.dr_opening.specs.declared.catching_up.CatchFault.TheVariants.{DiskFault, LogFull, OutOfMemory}

-- a log that is ready is one from which an append is made
ready_from : {D : Type 0} (told : D → Option Told) (faults : D → ℕ) (log : LogState D) → IsReadyToRise told log
    → IsFrom told faults log log
ready_from told faults log ready = record {
  limit = refl;
  well = record { unfailed = ready.whole; safe = ready.safe; calm = refl };
}

-- what a cut may leave is of the second phase
cutting_by : (start : Start) (voted : OnLog) (keep : ℕ) (image : List ℕ) → IsCutDue start.entries voted keep
    → IsBeforeOrAfter voted (records.Cut keep) image → StandSo (IsRising start voted) image
cutting_by start voted keep image due (inl is) = (voted, inl refl, is)
cutting_by start voted keep image due (inr is) =
    (with_record (records.Cut keep) voted, inr (inl (inr (keep, due, refl))), is)

-- and what bringing it up may leave
raising_by : (start : Start) (voted cut : OnLog) (image : List ℕ) → IsCutFor start voted cut
    → StandFor image cut ⊎ StandFor image (raised_to start cut) → StandSo (IsRising start voted) image
raising_by start voted cut image is (inl here) = (cut, inr (inl is), here)
raising_by start voted cut image is (inr here) = (raised_to start cut, inr (inr (cut, is, refl)), here)

-- ---- the cut

-- the log after it
record IsCut {D : Type 0} (told : D → Option Told) (faults : D → ℕ) (start : Start) (old mid : LogState D)
    : Type 0 where
  content : IsCutFor start old.content mid.content
  from : IsFrom told faults old mid
  moments : Goes (told old.disk) (told mid.disk) (λ s. StandSo (IsRising start old.content))

cut_by : {D T : Type 0} (told : D → Option Told) (faults : D → ℕ) (start : Start) (old mid : LogState D) (x : T)
    → IsReadyToRise told old → WasCutBack {T = T} told faults start.entries old mid (Ok x)
    → IsCut told faults start old mid
cut_by {D} {T} told faults start old mid x ready (inl (part, same, ok)) =
    subst (IsCut told faults start old) (sym same) (record {
      content = inl (part, refl);
      from = ready_from told faults old ready;
      moments = stays_at (told old.disk) (λ s. StandSo (IsRising start old.content))
          (first (told old.disk) ready.safe);
    })
  where
    first : (t : Option Told) → IsLeft t (λ image. StandFor image old.content)
        → IfSome t (λ t. AllImages (state_of t) (StandSo (IsRising start old.content)))
    first None safe = tt
    first (Some t) safe = λ image left. (old.content, inl refl, safe image left)
cut_by {D} {T} told faults start old mid x ready (inr (keep, due, did)) = record {
  content = inr (keep, due, ap (λ (s : LogState D). s.content) did.ok);
  from = record {
    limit = ap (λ (s : LogState D). s.limit) did.ok;
    well = record {
      unfailed = ap (λ (s : LogState D). s.failed) did.ok ∙ ready.whole;
      safe = did.durable;
      calm = did.calm;
    };
  };
  moments = goes_so (told old.disk) (told mid.disk) (IsBeforeOrAfter old.content (records.Cut keep))
      (StandSo (IsRising start old.content)) (λ image. cutting_by start old.content keep image due) did.any_moment;
}

-- it was refused
pub uncut_by : {D T : Type 0} (told : D → Option Told) (faults : D → ℕ) (start : Start) (old new : LogState D)
    (why : LogFault) (answer : CatchFault) → IsReadyToRise told old
    → WasCutBack {T = T} told faults start.entries old new (Err why) → (why ≡ logs.DiskFault → answer ≡ DiskFault)
    → ((len : ℕ) → why ≡ logs.LogFull len → answer ≡ LogFull len) → LacksStart told faults start old new answer
uncut_by {D} {T} told faults start old new why answer ready (inl (part, same, never)) disk full =
    absurd (false≢true never)
uncut_by {D} {T} told faults start old new why answer ready (inr (keep, due, did)) disk full = stuck_by T told faults
    (IsRisingStep start old.content) (IsRising start old.content) old old new (records.Cut keep) why answer did
    (ready_from told faults old ready) (inl (keep, due, refl, refl)) (goes_so (told old.disk)
    (told new.disk) (IsBeforeOrAfter old.content (records.Cut keep)) (StandSo (IsRising start old.content))
    (λ image. cutting_by start old.content keep image due) did.any_moment) disk full

-- ---- the entries

-- the moments of both
moments_both : {D : Type 0} (told : D → Option Told) (faults : D → ℕ) (start : Start) (old mid new : LogState D)
    → IsCut told faults start old mid → Goes (told mid.disk) (told new.disk)
    (λ s. IsNoneOrAll mid.content (lacked mid (opened_with start start.members)))
    → Goes (told old.disk) (told new.disk) (λ s. StandSo (IsRising start old.content))
moments_both told faults start old mid new cut goes =
    goes_both (told old.disk) (told mid.disk) (told new.disk) (StandSo (IsRising start old.content)) cut.moments
    (goes_so (told mid.disk) (told new.disk) (IsNoneOrAll mid.content (lacked mid (opened_with start start.members)))
    (StandSo (IsRising start old.content)) (λ image. raising_by start old.content mid.content image cut.content) goes)

-- they were appended
pub raised_by : {D T : Type 0} (told : D → Option Told) (faults : D → ℕ) (start : Start) (old mid new : LogState D)
    (x y : T) → IsReadyToRise told old → WasCutBack {T = T} told faults start.entries old mid (Ok x)
    → HasCaughtUp told faults (opened_with start start.members) mid new
    → FitsOrIsFull mid.limit mid.content.length (entries_length (lacked mid (opened_with start start.members)))
    {T = T} (Ok y) → GotStart told faults start old new
raised_by {D} {T} told faults start old mid new x y ready back up fits = record {
  content = (mid.content, cut.content, up.content);
  limit = up.limit ∙ cut.from.limit;
  within = omega (arith, ap (λ (c : OnLog). c.length) up.content, fits, cut.from.limit);
  well = record { unfailed = up.unfailed; safe = up.safe; calm = up.calm ∙ cut.from.well.calm };
  moments = moments_both told faults start old mid new cut up.moments;
}
  where
    cut : IsCut told faults start old mid
    cut = cut_by told faults start old mid x ready back

-- why they were not
why_unraised : {D T : Type 0} (told : D → Option Told) (faults : D → ℕ) (start : Start) (old mid new : LogState D)
    (why : CatchFault) → IsCut told faults start old mid
    → HasStayed told faults (opened_with start start.members) mid new
    → (why ≢ DiskFault → IsLeftAlone told faults mid new) → (IsErrOf {T = T} (Err why) DiskFault → new.failed ≡ true)
    → (IsErrOf {T = T} (Err why) DiskFault → Rose (faults mid.disk) (faults new.disk))
    → FitsOrIsFull mid.limit mid.content.length (entries_length (lacked mid (opened_with start start.members)))
    {T = T} (Err why) → Explains told faults new.content (raised_to start mid.content) old new why
why_unraised {D} {T} told faults start old mid new OutOfMemory cut stayed alone failed cause fits =
    let left = alone (λ e. cc) in
    record { unfailed = left.unfailed; safe = left.safe; calm = left.calm ∙ cut.from.well.calm }
why_unraised {D} {T} told faults start old mid new DiskFault cut stayed alone failed cause fits = (
  failed refl,
  subst (λ n. Rose n (faults new.disk)) cut.from.well.calm (cause refl),
  subst (λ c. IsLeft (told new.disk) (λ image. StandFor image c ⊎ StandFor image (raised_to start mid.content)))
      (sym stayed.content) (Goes-last (told mid.disk)
      (told new.disk) (IsNoneOrAll mid.content (lacked mid (opened_with start start.members))) stayed.moments),
)
why_unraised {D} {T} told faults start old mid new (LogFull len) cut stayed alone failed cause fits =
    let left = alone (λ e. cc) in (
      record { unfailed = left.unfailed; safe = left.safe; calm = left.calm ∙ cut.from.well.calm },
      fits.0 ∙ ap (λ (c : OnLog). c.length) (sym stayed.content),
      omega (arith, fits.1, cut.from.limit),
    )

-- they were refused
pub unraised_by : {D T : Type 0} (told : D → Option Told) (faults : D → ℕ) (start : Start) (old mid new : LogState D)
    (x : T) (why : CatchFault) → IsReadyToRise told old → WasCutBack {T = T} told faults start.entries old mid (Ok x)
    → HasStayed told faults (opened_with start start.members) mid new
    → (why ≢ DiskFault → IsLeftAlone told faults mid new) → (IsErrOf {T = T} (Err why) DiskFault → new.failed ≡ true)
    → (IsErrOf {T = T} (Err why) DiskFault → Rose (faults mid.disk) (faults new.disk))
    → FitsOrIsFull mid.limit mid.content.length (entries_length (lacked mid (opened_with start start.members)))
    {T = T} (Err why) → LacksStart told faults start old new why
unraised_by {D} {T} told faults start old mid new x why ready back stayed alone failed cause fits = record {
  next = raised_to start mid.content;
  step = subst (λ c. IsRisingStep start old.content c (raised_to start mid.content)) (sym stayed.content)
      (inr (cut.content, refl));
  limit = stayed.limit ∙ cut.from.limit;
  later = omega (arith, stayed.later, cut.from.well.calm);
  reason = why_unraised told faults start old mid new why cut stayed alone failed cause fits;
  moments = moments_both told faults start old mid new cut stayed.moments;
}
  where
    cut : IsCut told faults start old mid
    cut = cut_by told faults start old mid x ready back

-- ---- by the answer

pub raised_on : {D : Type 0} (T : Type 0) (told : D → Option Told) (faults : D → ℕ) (start : Start)
    (old mid new : LogState D) (x : T) (members : ℕ) (answer : Result T CatchFault) → IsReadyToRise told old
    → WasCutBack {T = T} told faults start.entries old mid (Ok x) → members ≡ start.members
    → OnOk answer (HasCaughtUp told faults (opened_with start members) mid new)
    → FitsOrIsFull mid.limit mid.content.length (entries_length (lacked mid (opened_with start members)))
    {T = T} answer → OnOk answer (GotStart told faults start old new)
raised_on {D} T told faults start old mid new x members (Err why) ready back same up fits = tt
raised_on {D} T told faults start old mid new x members (Ok y) ready back same up fits =
    raised_by told faults start old mid new x y ready back
    (subst (λ k. HasCaughtUp told faults (opened_with start k) mid new) same up)
    (subst (λ k. FitsOrIsFull mid.limit mid.content.length (entries_length (lacked mid (opened_with start k)))
    {T = T} (Ok y)) same fits)

pub unraised_on : {D : Type 0} (T : Type 0) (told : D → Option Told) (faults : D → ℕ) (start : Start)
    (old mid new : LogState D) (x : T) (members : ℕ) (answer : Result T CatchFault) → IsReadyToRise told old
    → WasCutBack {T = T} told faults start.entries old mid (Ok x) → members ≡ start.members
    → OnErr answer (HasStayed told faults (opened_with start members) mid new)
    → IfErr answer (λ why. why ≢ DiskFault → IsLeftAlone told faults mid new)
    → (IsErrOf answer DiskFault → new.failed ≡ true)
    → (IsErrOf answer DiskFault → Rose (faults mid.disk) (faults new.disk))
    → FitsOrIsFull mid.limit mid.content.length (entries_length (lacked mid (opened_with start members)))
    {T = T} answer → IfErr answer (LacksStart told faults start old new)
unraised_on {D} T told faults start old mid new x members (Ok y) ready back same stayed alone failed cause fits = tt
unraised_on {D} T told faults start old mid new x members (Err why) ready back same stayed alone failed cause fits =
    unraised_by {T = T} told faults start old mid new x why ready back
    (subst (λ k. HasStayed told faults (opened_with start k) mid new) same stayed) alone failed cause
    (subst (λ k. FitsOrIsFull mid.limit mid.content.length (entries_length (lacked mid (opened_with start k)))
    {T = T} (Err why)) same fits)
