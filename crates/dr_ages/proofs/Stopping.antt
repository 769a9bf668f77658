-- Why the opening of an age stopped.
use Rattle.std.specs.Prelude.{◌⊎◌, Option, None, Some}
use Rattle.std.proofs.Common.{◌≡◌, refl, sym, ap, ◌∙◌, subst, inl, inr, ℕ, ◌<◌, ◌≤◌, arith, le_refl, List, [], ◌∷◌, length}
use Rattle.dr_disk.specs.{Disk.Told, Images.IsLeft}
use Rattle.dr_entry.specs.declared.entry.Entry.{Entry}
use Rattle.dr_io.specs.Faults.{Rose}
use Rattle.dr_log.specs.State.{LogState}
use Rattle.dr_log_bytes.specs.{Content.OnLog, Grammar.StandFor}
use Rattle.dr_served.specs.Served.{HaveSamePlaces, IsSafe}
use Rattle.dr_opening.specs.{Contents.{IsOpenFor, IsRisingStep, IsVoteStep, voted_for}, Lists.{contents_of, log_of}}
use Rattle.dr_opening.specs.Logs.{ComeBelow, Explains, GotStart, GotVote, LacksStart, LacksVote, StopAt, WereNotOpened}
use Rattle.dr_opening.specs.{Tries.IsChosenOf, Unopened.{IsUnchosen, IsWhyUnopened}, declared.age.NotOpened.NotOpened}
use Rattle.dr_opening.specs.declared.age.NotOpened.TheVariants.{Unchosen, Unfinished}
use Rattle.dr_opening.specs.declared.{catching_up.CatchFault.CatchFault, opening.OpenFault.OpenFault}
use Rattle.dr_opening.proofs.Lists.{stays_there, was_there, content_at_log, log_of_content}
use Rattle.dr_opening.proofs.Logs.{below_stop, come_places, in_stop, stop_places, unopened_places}
use Rattle.dr_opening.specs.declared.catching_up.CatchFault.TheVariants as catches
use Rattle.dr_program.proofs.Present.{present_within}
use Rattle.dr_quorum.specs.declared.faults.ChooseFault.{ChooseFault}
use Rattle.dr_quorum.specs.declared.faults.ChooseFault.TheVariants as chooses
use Rattle.dr_restart.specs.{Groups.first_group_of, declared.start.Start.Start}
use Rattle.dr_script.specs.declared.script.Script.{Script}
use Rattle.dr_words.specs.Masks.{without}
use Rattle.dr_yard.specs.Yards.{YardState}
use Rattle.dr_ages.{specs.Found.AreFound, proofs.Staying.alike_same}
use Rattle.dr_ages.specs.{Lacking.{LackedMemory, to_append}, Lent.{AreAllBut, AreMounted, IsMounted, with_logs}}
use Rattle.dr_ages.specs.{Opened.AreLater, Passing.AreKeptSince, declared.{mode.Mode.Mode, part.Part.Part}}
use Rattle.dr_ages.specs.Stops.{AreOpenBelow, HasStopped, HaveVotesBelow, IsBehindMounts, IsStuckIn, NamesFaults, in_opening}
use Rattle.dr_ages.specs.{Telling.{stop_at, stop_of, stop_of_choice}, declared.stop.Stop.TheVariants.OutOfMemory}
use Rattle.dr_ages.proofs.Backs.{counts_still, faults_at, faults_none, kept_back, not_missing, told_at}
use Rattle.dr_ages.proofs.{Loans.{are_found, names_none}, Opening.unopened_on}
use Rattle.dr_kept.proofs.OpenLogs.{come_mid, in_come}

-- ---- logs that make no start

chosen_stops : (script : Script) (part : Part) (before after : YardState) (contents : List (Option OnLog))
    (fault : ChooseFault) → AreFound script.members part.missing before contents → IsUnchosen script contents fault
    → HasStopped script part before after (stop_of_choice fault)
chosen_stops script part before after contents chooses.OutOfMemory found is = tt
chosen_stops script part before after contents (chooses.Foreign m p) found is = (contents, found, is)
chosen_stops script part before after contents (chooses.NoQuorum v h n) found is = (contents, found, is)
chosen_stops script part before after contents (chooses.Disagree a b p) found is = (contents, found, is)
chosen_stops script part before after contents chooses.AgesUsedUp found is = (contents, found, is)

-- ---- a log that was refused what it lacked

-- an opening on logs that were mounted, whose start was chosen
pub record IsOpeningOn {D : Type 0} (tells : D → Option Told) (faults : D → ℕ) (script : Script) (part : Part)
    (before : YardState) (start : Start) (olds : List (Option (LogState D))) : Type 0 where
  pub all : length olds ≡ script.members
  pub mounted : AreMounted tells faults before olds
  pub but : AreAllBut part.missing olds
  pub chosen : IsChosenOf (first_group_of script).opening (contents_of olds) start
  pub members : start.members ≡ without start.present part.late

-- what a crash leaves of a disk under a log that is safe
left_at : {D : Type 0} (tells : D → Option Told) (faults : D → ℕ) (before : YardState)
    (news : List (Option (LogState D))) (m : ℕ) (new : LogState D) (c : OnLog) → log_of news m ≡ Some new
    → new.content ≡ c → IsSafe tells new
    → IsLeft ((with_logs tells faults before news).told m) (λ image. StandFor image c)
left_at {D} tells faults before news m new c here same safe =
    subst (λ (o : Option Told). IsLeft o (λ image. StandFor image c)) (sym (told_at tells faults before news m new here))
    (subst (λ (d : OnLog). IsLeft (tells new.disk) (λ image. StandFor image d)) same safe)

-- with the vote a log is within its limit
voted_within : {D : Type 0} (tells : D → Option Told) (faults : D → ℕ) (before : YardState) (start : Start)
    (old new : LogState D) (m : ℕ) (c : OnLog) → IsMounted tells faults (before.told m) (before.faults m) old
    → old.content ≡ c → GotVote tells faults start old new → (voted_for start c).length ≤ 2147483648
voted_within tells faults before start old new m c is same got = subst (λ (d : OnLog). d.length ≤ 2147483648)
    (got.0.content ∙ ap (voted_for start) same) (omega (arith, got.0.within, is.limit))

-- in the first phase
votes_below : {D : Type 0} (tells : D → Option Told) (faults : D → ℕ) (script : Script) (part : Part)
    (before : YardState) (start : Start) (olds news : List (Option (LogState D))) (k : ℕ) (why : CatchFault)
    → IsOpeningOn tells faults script part before start olds
    → StopAt (GotVote tells faults start) (λ old new. LacksVote tells faults start old new why) olds news k
    → HaveVotesBelow start (contents_of olds) (with_logs tells faults before news) k
votes_below {D} tells faults script part before start olds news k why on stop = record {
  below = λ m c l at.
      let old = log_of_content olds m c at in
      let new = stays_there olds news m old.0 places old.1 in
      let got = below_stop (GotVote tells faults start) (λ old new. LacksVote tells faults start old new why)
      olds news k m old.0 new.0 stop l old.1 new.1 in
      left_at tells faults before news m new.0 (voted_for start c) new.1
      (got.0.content ∙ ap (voted_for start) old.2) got.0.well.safe;
  within = λ m c l at.
      let old = log_of_content olds m c at in
      let new = stays_there olds news m old.0 places old.1 in
      voted_within tells faults before start old.0 new.0 m c (on.mounted m old.0 old.1) old.2
      (below_stop (GotVote tells faults start) (λ old new. LacksVote tells faults start old new why)
      olds news k m old.0 new.0 stop l old.1 new.1);
  above = λ m c l at.
      let old = log_of_content olds m c at in
      left_at tells faults before news m old.0 c (stop.others m l ∙ old.1) old.2 (on.mounted m old.0 old.1).safe;
}
  where
    places : HaveSamePlaces olds news
    places = stop_places (GotVote tells faults start) (λ old new. LacksVote tells faults start old new why) olds news k
        stop

-- in the second
open_below : {D : Type 0} (tells : D → Option Told) (faults : D → ℕ) (script : Script) (part : Part)
    (before : YardState) (start : Start) (olds mids news : List (Option (LogState D))) (k : ℕ) (why : CatchFault)
    → IsOpeningOn tells faults script part before start olds
    → ComeBelow (GotVote tells faults start) olds mids (length olds)
    → StopAt (GotStart tells faults start) (λ old new. LacksStart tells faults start old new why) mids news k
    → AreOpenBelow start (contents_of olds) (with_logs tells faults before news) k
open_below {D} tells faults script part before start olds mids news k why on voted stop = record {
  below = λ m c l at.
      let old = log_of_content olds m c at in
      let mid = come_mid (GotVote tells faults start) olds mids m old.0 voted old.1 in
      let got = in_come (GotVote tells faults start) olds mids m old.0 mid.0 voted old.1 mid.1 in
      let new = stays_there mids news m mid.0 places mid.1 in
      let came = below_stop (GotStart tells faults start) (λ old new. LacksStart tells faults start old new why)
      mids news k m mid.0 new.0 stop l mid.1 new.1 in (
        new.0.content,
        subst (λ (v : OnLog). IsOpenFor start v new.0.content) (got.0.content ∙ ap (voted_for start) old.2)
            came.content,
        omega (arith, came.within, got.0.limit, (on.mounted m old.0 old.1).limit),
        left_at tells faults before news m new.0 new.0.content new.1 refl came.well.safe,
      );
  above = λ m c l at.
      let old = log_of_content olds m c at in
      let mid = come_mid (GotVote tells faults start) olds mids m old.0 voted old.1 in
      let got = in_come (GotVote tells faults start) olds mids m old.0 mid.0 voted old.1 mid.1 in
      left_at tells faults before news m mid.0 (voted_for start c) (stop.others m l ∙ mid.1)
      (got.0.content ∙ ap (voted_for start) old.2) got.0.well.safe;
  within = λ m c at.
      let old = log_of_content olds m c at in
      let mid = come_mid (GotVote tells faults start) olds mids m old.0 voted old.1 in
      voted_within tells faults before start old.0 mid.0 m c (on.mounted m old.0 old.1) old.2
      (in_come (GotVote tells faults start) olds mids m old.0 mid.0 voted old.1 mid.1);
}
  where
    places : HaveSamePlaces mids news
    places = stop_places (GotStart tells faults start) (λ old new. LacksStart tells faults start old new why) mids news
        k stop

-- the log that was refused an append: as it was mounted, as the append found it, and as it is, and what the append
-- was to make of it
record IsStuckAt {D : Type 0} (tells : D → Option Told) (faults : D → ℕ) (script : Script) (part : Part)
    (before : YardState) (start : Start) (olds news : List (Option (LogState D))) (k : ℕ) (why : CatchFault)
    : Type 0 where
  old : LogState D
  there : log_of olds k ≡ Some old
  mid : LogState D
  limit : mid.limit ≡ old.limit
  calm : faults mid.disk ≡ faults old.disk
  new : LogState D
  here : log_of news k ≡ Some new
  next : OnLog
  phase : (IsVoteStep start old.content new.content next × HaveVotesBelow start (contents_of olds)
      (with_logs tells faults before news) k) ⊎ (IsRisingStep start (voted_for start old.content) new.content next
      × AreOpenBelow start (contents_of olds) (with_logs tells faults before news) k)
  reason : Explains tells faults new.content next mid new why

stuck_at : {D : Type 0} (tells : D → Option Told) (faults : D → ℕ) (script : Script) (part : Part)
    (before : YardState) (start : Start) (olds news : List (Option (LogState D))) (fault : OpenFault)
    → IsOpeningOn tells faults script part before start olds → WereNotOpened tells faults start olds news fault
    → IsStuckAt tells faults script part before start olds news fault.member fault.why
stuck_at tells faults script part before start olds news fault on (inl stop) =
    let at = stop.stop in
    record {
      old = at.0;
      there = at.2;
      mid = at.0;
      limit = refl;
      calm = refl;
      new = at.1;
      here = at.3;
      next = at.4.next;
      phase = inl (
        at.4.step,
        votes_below tells faults script part before start olds news fault.member fault.why on stop,
      );
      reason = at.4.reason;
    }
stuck_at tells faults script part before start olds news fault on (inr (mids, voted, stop)) =
    let at = stop.stop in
    let old = was_there olds mids fault.member at.0 (come_places (GotVote tells faults start) olds mids voted) at.2 in
    let got = in_come (GotVote tells faults start) olds mids fault.member old.0 at.0 voted old.1 at.2 in
    record {
      old = old.0;
      there = old.1;
      mid = at.0;
      limit = got.0.limit;
      calm = got.0.well.calm;
      new = at.1;
      here = at.3;
      next = at.4.next;
      phase = inr (
        subst (λ (v : OnLog). IsRisingStep start v at.1.content at.4.next) got.0.content at.4.step,
        open_below tells faults script part before start olds mids news fault.member fault.why on voted stop,
      );
      reason = at.4.reason;
    }

-- what was found, and chosen of it, as the append was refused
is_stuck : {D : Type 0} (tells : D → Option Told) (faults : D → ℕ) (script : Script) (part : Part)
    (before : YardState) (start : Start) (olds news : List (Option (LogState D))) (k : ℕ) (why : CatchFault)
    (At : OnLog → OnLog → Type 0) → IsOpeningOn tells faults script part before start olds
    → (s : IsStuckAt tells faults script part before start olds news k why) → At s.new.content s.next
    → IsStuckIn script part before (with_logs tells faults before news) k At
is_stuck tells faults script part before start olds news k why At on s at = record {
  below = omega (arith, present_within olds k s.old s.there, on.all);
  contents = contents_of olds;
  found = are_found tells faults part.missing before olds script.members on.mounted on.but on.all;
  start = start;
  chosen = on.chosen;
  members = on.members;
  content = s.old.content;
  there = content_at_log olds k s.old s.there;
  now = s.new.content;
  next = s.next;
  phase = s.phase;
  at = at;
}

-- the disks are kept since they were mounted
pub since_opened : {D : Type 0} (tells : D → Option Told) (faults : D → ℕ) (script : Script) (part : Part)
    (before : YardState) (starts : List (List Entry)) (olds news : List (Option (LogState D)))
    → length olds ≡ script.members → AreMounted tells faults before olds → AreAllBut part.missing olds
    → AreLater tells faults starts olds news → HaveSamePlaces olds news
    → AreKeptSince script.members part.missing script.members starts before (with_logs tells faults before news)
since_opened tells faults script part before starts olds news all mounted but later places =
    subst (λ (n : ℕ). AreKeptSince script.members part.missing n starts before
    (with_logs tells faults before news)) all
    (kept_back tells faults script.members part.missing starts before before
    (with_logs tells faults before news) olds news mounted but later places
    (λ m none. alike_same (before.told m) (before.told m) (before.faults m) (before.faults m) refl
    (le_refl (before.faults m))) (λ m. (refl, refl)))

-- also where the opening stopped
since_mounted : {D : Type 0} (tells : D → Option Told) (faults : D → ℕ) (script : Script) (part : Part)
    (before : YardState) (start : Start) (olds news : List (Option (LogState D))) (fault : OpenFault)
    → IsOpeningOn tells faults script part before start olds → WereNotOpened tells faults start olds news fault
    → AreKeptSince script.members part.missing script.members (start.entries ∷ []) before
    (with_logs tells faults before news)
since_mounted tells faults script part before start olds news fault on stopped =
    since_opened tells faults script part before (start.entries ∷ []) olds news on.all on.mounted on.but
    (unopened_on tells faults start olds news fault stopped)
    (unopened_places tells faults start olds news fault stopped)

open_stops : {D : Type 0} (tells : D → Option Told) (faults : D → ℕ) (script : Script) (part : Part)
    (before : YardState) (start : Start) (olds news : List (Option (LogState D))) (k : ℕ) (why : CatchFault)
    → IsOpeningOn tells faults script part before start olds
    → WereNotOpened tells faults start olds news (record { member = k; why = why })
    → HasStopped script part before (with_logs tells faults before news) (stop_at k why)
unfolding is_stuck
open_stops tells faults script part before start olds news k catches.OutOfMemory on stopped = tt
open_stops tells faults script part before start olds news k catches.DiskFault on stopped =
    let fault : OpenFault = record { member = k; why = catches.DiskFault } in
    let s = stuck_at tells faults script part before start olds news fault on stopped in
    let is = on.mounted k s.old s.there in
    record {
      below = omega (arith, present_within olds k s.old s.there, on.all);
      there = not_missing part.missing olds k s.old on.but s.there;
      rose = subst (Rose (before.faults k)) (sym (faults_at tells faults before news k s.new s.here))
          (subst (λ (n : ℕ). Rose n (faults s.new.disk)) (s.calm ∙ is.calm) s.reason.1);
      at = in_opening (is_stuck tells faults script part before start olds news k catches.DiskFault
          (λ now next. IsLeft ((with_logs tells faults before news).told k)
          (λ image. StandFor image now ⊎ StandFor image next)) on s
          (subst (λ (o : Option Told). IsLeft o (λ image. StandFor image s.new.content ⊎ StandFor image s.next))
          (sym (told_at tells faults before news k s.new s.here)) s.reason.2))
          (since_mounted tells faults script part before start olds news fault on stopped);
    }
open_stops tells faults script part before start olds news k (catches.LogFull len) on stopped =
    let fault : OpenFault = record { member = k; why = catches.LogFull len } in
    let s = stuck_at tells faults script part before start olds news fault on stopped in
    let is = on.mounted k s.old s.there in
    is_stuck tells faults script part before start olds news k (catches.LogFull len)
    (λ now next. (len ≡ now.length) × (2147483648 < next.length)
    × IsLeft ((with_logs tells faults before news).told k) (λ image. StandFor image now)) on s (
      s.reason.1,
      omega (arith, s.reason.2, s.limit, is.limit),
      left_at tells faults before news k s.new s.new.content s.here refl s.reason.0.safe,
    )

pub why_stops : {D : Type 0} (tells : D → Option Told) (faults : D → ℕ) (script : Script) (part : Part)
    (before : YardState) (olds news : List (Option (LogState D))) (why : NotOpened)
    → length olds ≡ script.members → AreMounted tells faults before olds → AreAllBut part.missing olds
    → IsWhyUnopened tells faults script part.late olds news why
    → HasStopped script part before (with_logs tells faults before news) (stop_of why)
why_stops tells faults script part before olds news (Unchosen fault) all mounted but is =
    chosen_stops script part before (with_logs tells faults before news) (contents_of olds) fault
    (are_found tells faults part.missing before olds script.members mounted but all) is.0
why_stops tells faults script part before olds news (Unfinished fault) all mounted but is =
    open_stops tells faults script part before is.0 olds news fault.member fault.why
    (record { all = all; mounted = mounted; but = but; chosen = is.1; members = is.2 }) is.3

-- ---- whose calls failed

-- of a disk no further one did in an opening that stopped, unless it is the disk of the log that was refused
-- something, and that one did not stay calm
calm_at : {D : Type 0} (tells : D → Option Told) (faults : D → ℕ) (before : YardState) (start : Start)
    (olds news : List (Option (LogState D))) (fault : OpenFault) (m : ℕ) → AreMounted tells faults before olds
    → WereNotOpened tells faults start olds news fault → (m ≡ fault.member → (old new : LogState D) (next : OnLog)
    → Explains tells faults new.content next old new fault.why → faults new.disk ≡ faults old.disk)
    → (with_logs tells faults before news).faults m ≡ before.faults m
calm_at {D} tells faults before start olds news fault m mounted stopped quiet = by (log_of news m) refl
  where
    at_log : (new : LogState D) → log_of news m ≡ Some new → WereNotOpened tells faults start olds news fault
        → faults new.disk ≡ before.faults m
    at_log new here (inl stop) =
        let old = was_there olds news m new (stop_places (GotVote tells faults start)
        (λ old new. LacksVote tells faults start old new fault.why) olds news fault.member stop) here in
        let calm = (mounted m old.0 old.1).calm in
        in_stop (GotVote tells faults start) (λ old new. LacksVote tells faults start old new fault.why)
        (faults new.disk ≡ before.faults m) olds news fault.member m old.0 new stop old.1 here
        (λ l got. got.0.well.calm ∙ calm) (λ at lacks. quiet at old.0 new lacks.next lacks.reason ∙ calm)
        (λ l same. ap (λ (x : LogState D). faults x.disk) same ∙ calm)
    at_log new here (inr (mids, voted, stop)) =
        let mid = was_there mids news m new (stop_places (GotStart tells faults start)
        (λ old new. LacksStart tells faults start old new fault.why) mids news fault.member stop) here in
        let old = was_there olds mids m mid.0 (come_places (GotVote tells faults start) olds mids voted) mid.1 in
        let got = in_come (GotVote tells faults start) olds mids m old.0 mid.0 voted old.1 mid.1 in
        let calm : faults mid.0.disk ≡ before.faults m = got.0.well.calm ∙ (mounted m old.0 old.1).calm in
        in_stop (GotStart tells faults start) (λ old new. LacksStart tells faults start old new fault.why)
        (faults new.disk ≡ before.faults m) mids news fault.member m mid.0 new stop mid.1 here
        (λ l came. came.well.calm ∙ calm) (λ at lacks. quiet at mid.0 new lacks.next lacks.reason ∙ calm)
        (λ l same. ap (λ (x : LogState D). faults x.disk) same ∙ calm)

    by : (o : Option (LogState D)) → log_of news m ≡ o
        → (with_logs tells faults before news).faults m ≡ before.faults m
    by None at = faults_none tells faults before news m at
    by (Some new) at = faults_at tells faults before news m new at ∙ at_log new at stopped

open_names : {D : Type 0} (tells : D → Option Told) (faults : D → ℕ) (before : YardState) (start : Start)
    (olds news : List (Option (LogState D))) (k : ℕ) (why : CatchFault) → AreMounted tells faults before olds
    → WereNotOpened tells faults start olds news (record { member = k; why = why })
    → NamesFaults (stop_at k why) before (with_logs tells faults before news)
open_names tells faults before start olds news k catches.OutOfMemory mounted stopped = tt
open_names tells faults before start olds news k catches.DiskFault mounted stopped = λ m apart.
    calm_at tells faults before start olds news (record { member = k; why = catches.DiskFault }) m mounted stopped
    (λ at. absurd (apart at))
open_names tells faults before start olds news k (catches.LogFull len) mounted stopped = λ m.
    calm_at tells faults before start olds news (record { member = k; why = catches.LogFull len }) m mounted stopped
    (λ at old new next is. is.0.calm)

pub why_names : {D : Type 0} (tells : D → Option Told) (faults : D → ℕ) (script : Script) (late : ℕ) (before : YardState)
    (olds news : List (Option (LogState D))) (why : NotOpened) → AreMounted tells faults before olds
    → IsWhyUnopened tells faults script late olds news why
    → NamesFaults (stop_of why) before (with_logs tells faults before news)
why_names {D} tells faults script late before olds news (Unchosen fault) mounted is =
    names_none (stop_of_choice fault) before (with_logs tells faults before news) (λ m.
    ap (λ (logs : List (Option (LogState D))). (with_logs tells faults before logs).faults m) is.1
    ∙ counts_still tells faults before olds mounted m)
why_names tells faults script late before olds news (Unfinished fault) mounted is =
    open_names tells faults before is.0 olds news fault.member fault.why mounted is.3

-- ---- an append for which there was no memory

-- it found a log so, and the log is so still
pub lacked_append : {D : Type 0} (tells : D → Option Told) (faults : D → ℕ) (script : Script) (part : Part)
    (mode : Mode) (before : YardState) (start : Start) (olds news : List (Option (LogState D))) (k : ℕ)
    (why : CatchFault) → IsOpeningOn tells faults script part before start olds
    → WereNotOpened tells faults start olds news (record { member = k; why = why })
    → stop_at k why ≡ OutOfMemory → LackedMemory script part mode before (with_logs tells faults before news)
unfolding is_stuck
lacked_append tells faults script part mode before start olds news k catches.OutOfMemory on stopped same =
    let fault : OpenFault = record { member = k; why = catches.OutOfMemory } in
    let s = stuck_at tells faults script part before start olds news fault on stopped in
    to_append k (is_stuck tells faults script part before start olds news k catches.OutOfMemory
    (λ now next. IsLeft ((with_logs tells faults before news).told k) (λ image. StandFor image now)) on s
    (left_at tells faults before news k s.new s.new.content s.here refl s.reason.safe))
    (since_mounted tells faults script part before start olds news fault on stopped)
    (λ m. calm_at tells faults before start olds news fault m on.mounted stopped (λ at old new next is. is.calm))
lacked_append tells faults script part mode before start olds news k catches.DiskFault on stopped same =
    absurd (cc (same))
lacked_append tells faults script part mode before start olds news k (catches.LogFull len) on stopped same =
    absurd (cc (same))

-- ---- all disks were mounted

pub why_behind : (why : NotOpened) → IsBehindMounts (stop_of why)
why_behind (Unchosen chooses.OutOfMemory) = tt
why_behind (Unchosen (chooses.Foreign m p)) = tt
why_behind (Unchosen (chooses.NoQuorum v h n)) = tt
why_behind (Unchosen (chooses.Disagree a b p)) = tt
why_behind (Unchosen chooses.AgesUsedUp) = tt
why_behind (Unfinished fault) = by fault.member fault.why
  where
    by : (k : ℕ) (why : CatchFault) → IsBehindMounts (stop_at k why)
    by k catches.OutOfMemory = tt
    by k catches.DiskFault = tt
    by k (catches.LogFull len) = tt
