-- Yards whose disks are back under the logs that stand on them.
use Rattle.std.{specs.{Option.option_map_or, Prelude.{Option, None, Some}}, proofs.lemmas.Bool.cases_eq}
use Rattle.std.proofs.Common.{◌≡◌, ◌≢◌, refl, sym, ap, ◌∙◌, subst, ℕ, ◌+◌, ◌<◌, ◌≤◌, ◌⊎◌, inl, inr, le_refl, arith, Bool, true, false, List, [], ◌∷◌, ◌++◌, length, length-append}
use Rattle.dr_disk.specs.{Disk.Told, Images.Goes}
use Rattle.dr_entry.specs.declared.entry.Entry.{Entry}
use Rattle.dr_history.specs.Members.{has}
use Rattle.dr_log.specs.{Standing.KeepsRecords, State.LogState}
use Rattle.dr_served.specs.Served.{HaveSamePlaces}
use Rattle.dr_opening.{specs.Lists.log_of, proofs.Lists.{stays_none, was_there, was_none, stays_there}}
use Rattle.dr_program.proofs.{Present.{present_within, place_before, place_new}, Programs.place_past}
use Rattle.dr_yard.{specs.Yards.YardState, proofs.YardStates.same_yard}
use Rattle.dr_ages.{specs.Lent.{AreAllBut, AreMounted, IsAlike, with_logs}, proofs.Staying.{kept_since, on_since}}
use Rattle.dr_ages.specs.{Opened.AreLater, Passing.{AreKeptSince, AreUntouched, GoesOn, IsKeptSince, PassOn}}

-- ---- places

-- the log of a member that is not missing is there, and no other
pub log_at : {D : Type 0} (missing : ℕ) (logs : List (Option (LogState D))) (m : ℕ) → AreAllBut missing logs
    → m < length logs → has missing m ≡ false → (log : LogState D) × (log_of logs m ≡ Some log)
log_at {D} missing logs m but l there = by (log_of logs m) refl
  where
    by : (o : Option (LogState D)) → log_of logs m ≡ o → (log : LogState D) × (log_of logs m ≡ Some log)
    by None at = absurd (cc (but m l, at, there))
    by (Some log) at = (log, at)

pub not_missing : {D : Type 0} (missing : ℕ) (logs : List (Option (LogState D))) (m : ℕ) (log : LogState D)
    → AreAllBut missing logs → log_of logs m ≡ Some log → has missing m ≡ false
not_missing {D} missing logs m log but at = by (has missing m) refl
  where
    by : (b : Bool) → has missing m ≡ b → has missing m ≡ false
    by true is = absurd (cc (but m (present_within logs m log at), at, is))
    by false is = is

pub missing_at : {D : Type 0} (missing : ℕ) (logs : List (Option (LogState D))) (m : ℕ) → AreAllBut missing logs
    → m < length logs → log_of logs m ≡ None → has missing m ≡ true
missing_at {D} missing logs m but l none = by (has missing m) refl
  where
    by : (b : Bool) → has missing m ≡ b → has missing m ≡ true
    by true is = is
    by false is = absurd (cc (but m l, none, is))

pub none_at : {D : Type 0} (missing : ℕ) (logs : List (Option (LogState D))) (m : ℕ) → AreAllBut missing logs
    → has missing m ≡ true → log_of logs m ≡ None
none_at {D} missing logs m but gone = by (log_of logs m) refl
  where
    by : (o : Option (LogState D)) → log_of logs m ≡ o → log_of logs m ≡ None
    by None at = at
    by (Some log) at = absurd (cc (not_missing missing logs m log but at, gone))

-- ---- what is told of disks under logs

-- what is told of a disk under a log
pub told_at : {D : Type 0} (tells : D → Option Told) (faults : D → ℕ) (yard : YardState)
    (logs : List (Option (LogState D))) (m : ℕ) (log : LogState D) → log_of logs m ≡ Some log
    → (with_logs tells faults yard logs).told m ≡ tells log.disk
told_at {D} tells faults yard logs m log here =
    ap (λ (o : Option (LogState D)). option_map_or (λ (log : LogState D). tells log.disk) o (yard.told m)) here

pub faults_at : {D : Type 0} (tells : D → Option Told) (faults : D → ℕ) (yard : YardState)
    (logs : List (Option (LogState D))) (m : ℕ) (log : LogState D) → log_of logs m ≡ Some log
    → (with_logs tells faults yard logs).faults m ≡ faults log.disk
faults_at {D} tells faults yard logs m log here =
    ap (λ (o : Option (LogState D)). option_map_or (λ (log : LogState D). faults log.disk) o (yard.faults m)) here

-- what is told of one under none
pub told_none : {D : Type 0} (tells : D → Option Told) (faults : D → ℕ) (yard : YardState)
    (logs : List (Option (LogState D))) (m : ℕ) → log_of logs m ≡ None
    → (with_logs tells faults yard logs).told m ≡ yard.told m
told_none {D} tells faults yard logs m none =
    ap (λ (o : Option (LogState D)). option_map_or (λ (log : LogState D). tells log.disk) o (yard.told m)) none

pub faults_none : {D : Type 0} (tells : D → Option Told) (faults : D → ℕ) (yard : YardState)
    (logs : List (Option (LogState D))) (m : ℕ) → log_of logs m ≡ None
    → (with_logs tells faults yard logs).faults m ≡ yard.faults m
faults_none {D} tells faults yard logs m none =
    ap (λ (o : Option (LogState D)). option_map_or (λ (log : LogState D). faults log.disk) o (yard.faults m)) none

-- logs over the same other disks
pub same_rest : {D : Type 0} (tells : D → Option Told) (faults : D → ℕ) (one other : YardState)
    (logs : List (Option (LogState D))) (m : ℕ)
    → (log_of logs m ≡ None → (one.told m ≡ other.told m) × (one.faults m ≡ other.faults m))
    → ((with_logs tells faults one logs).told m ≡ (with_logs tells faults other logs).told m)
    × ((with_logs tells faults one logs).faults m ≡ (with_logs tells faults other logs).faults m)
same_rest {D} tells faults one other logs m rest = by (log_of logs m) refl
  where
    by : (o : Option (LogState D)) → log_of logs m ≡ o → (option_map_or (λ (log : LogState D). tells log.disk) o
        (one.told m) ≡ option_map_or (λ (log : LogState D). tells log.disk) o (other.told m))
        × (option_map_or (λ (log : LogState D). faults log.disk) o (one.faults m)
        ≡ option_map_or (λ (log : LogState D). faults log.disk) o (other.faults m))
    by None at = rest at
    by (Some log) at = (refl, refl)

-- under logs as they were mounted no count has changed
pub counts_still : {D : Type 0} (tells : D → Option Told) (faults : D → ℕ) (before : YardState)
    (logs : List (Option (LogState D))) → AreMounted tells faults before logs → (m : ℕ)
    → (with_logs tells faults before logs).faults m ≡ before.faults m
counts_still {D} tells faults before logs mounted m = by (log_of logs m) refl
  where
    by : (o : Option (LogState D)) → log_of logs m ≡ o
        → option_map_or (λ (log : LogState D). faults log.disk) o (before.faults m) ≡ before.faults m
    by None at = refl
    by (Some log) at = (mounted m log at).calm

-- the disks of the missing are as they were
pub untouched_with : {D : Type 0} (tells : D → Option Told) (faults : D → ℕ) (missing : ℕ) (before : YardState)
    (olds news : List (Option (LogState D))) → AreAllBut missing olds → HaveSamePlaces olds news
    → AreUntouched missing before (with_logs tells faults before news)
untouched_with tells faults missing before olds news but places m gone =
    let none = stays_none olds news m places (none_at missing olds m but gone) in
    (told_none tells faults before news m none, faults_none tells faults before news m none)

-- disks of mounted logs that went on since, and others that did too
pub passed_with : {D : Type 0} (tells : D → Option Told) (faults : D → ℕ) (starts : List (List Entry))
    (before yard : YardState) (olds news : List (Option (LogState D))) → AreMounted tells faults before olds
    → AreLater tells faults starts olds news → HaveSamePlaces olds news
    → ((m : ℕ) → log_of olds m ≡ None → GoesOn starts (before.told m) (before.faults m) (yard.told m) (yard.faults m))
    → PassOn starts before (with_logs tells faults yard news)
passed_with {D} tells faults starts before yard olds news mounted later places rest m = by (log_of news m) refl
  where
    by : (o : Option (LogState D)) → log_of news m ≡ o → GoesOn starts (before.told m) (before.faults m)
        (option_map_or (λ (log : LogState D). tells log.disk) o (yard.told m))
        (option_map_or (λ (log : LogState D). faults log.disk) o (yard.faults m))
    by None at = rest m (was_none olds news m places at)
    by (Some new) at =
        let old = was_there olds news m new places at in
        on_since tells faults starts (before.told m) (before.faults m) old.0 new (mounted m old.0 old.1)
        (later m old.0 new old.1 at)

-- the disks of these logs are back in their yard, which is else as it was
abbrev pub AreAllBack : {D : Type 0} → (D → Option Told) → (D → ℕ) → YardState → YardState
    → List (Option (LogState D)) → Type 0
AreAllBack {D} tells faults mid after logs = (m : ℕ) → (after.told m ≡ (with_logs tells faults mid logs).told m)
    × (after.faults m ≡ (with_logs tells faults mid logs).faults m)

-- what is told behind them, where the disks are back and the others are as they were
pub after_is : {D : Type 0} (tells : D → Option Told) (faults : D → ℕ) (before mid after : YardState)
    (logs : List (Option (LogState D)))
    → ((m : ℕ) → log_of logs m ≡ None → (mid.told m ≡ before.told m) × (mid.faults m ≡ before.faults m))
    → AreAllBack tells faults mid after logs → with_logs tells faults before logs ≡ after
after_is tells faults before mid after logs rest back = same_yard (with_logs tells faults before logs) after
    (λ m. sym ((back m).0 ∙ (same_rest tells faults mid before logs m (rest m)).0))
    (λ m. sym ((back m).1 ∙ (same_rest tells faults mid before logs m (rest m)).1))

pub passed_back : {D : Type 0} (tells : D → Option Told) (faults : D → ℕ) (starts : List (List Entry))
    (before mid after : YardState) (olds news : List (Option (LogState D))) → AreMounted tells faults before olds
    → AreLater tells faults starts olds news → HaveSamePlaces olds news
    → ((m : ℕ) → log_of olds m ≡ None → GoesOn starts (before.told m) (before.faults m) (mid.told m) (mid.faults m))
    → AreAllBack tells faults mid after news → PassOn starts before after
passed_back tells faults starts before mid after olds news mounted later places rest back =
    subst (λ (y : YardState). PassOn starts before y)
    (sym (same_yard after (with_logs tells faults mid news) (λ m. (back m).0) (λ m. (back m).1)))
    (passed_with tells faults starts before mid olds news mounted later places rest)

-- so what was on the disks as these logs were mounted is kept
pub kept_back : {D : Type 0} (tells : D → Option Told) (faults : D → ℕ) (members missing : ℕ)
    (starts : List (List Entry)) (before mid after : YardState) (olds news : List (Option (LogState D)))
    → AreMounted tells faults before olds → AreAllBut missing olds → AreLater tells faults starts olds news
    → HaveSamePlaces olds news
    → ((m : ℕ) → log_of olds m ≡ None → IsAlike (before.told m) (before.faults m) (mid.told m) (mid.faults m))
    → AreAllBack tells faults mid after news → AreKeptSince members missing (length olds) starts before after
kept_back {D} tells faults members missing starts before mid after olds news mounted but later places rest back =
    record {
      kept = λ m l there.
          let old = log_at missing olds m but l there in
          let new = stays_there olds news m old.0 places old.1 in
          subst (IsKeptSince starts (before.told m)) (sym ((back m).0 ∙ told_at tells faults mid news m new.0 new.1))
          (kept_since tells faults starts (before.told m) (before.faults m) old.0 new.0 (mounted m old.0 old.1)
          (later m old.0 new.0 old.1 new.1));
      others = λ m past l. subst (λ (o : Option Told). Goes (before.told m) o KeepsRecords)
          (sym ((back m).0 ∙ told_none tells faults mid news m
          (stays_none olds news m places (place_past olds m past)))) (rest m (place_past olds m past)).moments;
    }

-- where the logs are as they were mounted, a crash would leave what it might have left before them
pub alike_back : {D : Type 0} (tells : D → Option Told) (faults : D → ℕ) (before mid after : YardState)
    (logs : List (Option (LogState D))) → AreMounted tells faults before logs
    → ((m : ℕ) → log_of logs m ≡ None → IsAlike (before.told m) (before.faults m) (mid.told m) (mid.faults m))
    → AreAllBack tells faults mid after logs → (m : ℕ) → Goes (before.told m) (after.told m) KeepsRecords
alike_back {D} tells faults before mid after logs mounted rest back m =
    subst (λ (o : Option Told). Goes (before.told m) o KeepsRecords) (sym (back m).0) (by (log_of logs m) refl)
  where
    by : (o : Option (LogState D)) → log_of logs m ≡ o
        → Goes (before.told m) (option_map_or (λ (log : LogState D). tells log.disk) o (mid.told m)) KeepsRecords
    by None at = (rest m at).moments
    by (Some log) at = (mounted m log at).on.moments

-- a disk that is back has counted no fewer faults than its yard had
pub later_back : {D : Type 0} (tells : D → Option Told) (faults : D → ℕ) (mid after : YardState)
    (logs : List (Option (LogState D)))
    → ((m : ℕ) (log : LogState D) → log_of logs m ≡ Some log → mid.faults m ≤ faults log.disk)
    → AreAllBack tells faults mid after logs → (m : ℕ) → mid.faults m ≤ after.faults m
later_back {D} tells faults mid after logs counted back m =
    subst (λ (n : ℕ). mid.faults m ≤ n) (sym (back m).1) (by (log_of logs m) refl)
  where
    by : (o : Option (LogState D)) → log_of logs m ≡ o
        → mid.faults m ≤ option_map_or (λ (log : LogState D). faults log.disk) o (mid.faults m)
    by None at = le_refl (mid.faults m)
    by (Some log) at = counted m log at

-- ---- disks that are given back, the last one first

-- those of the last places are back, and the others are as they were under their logs
pub record AreBack {D : Type 0} (tells : D → Option Told) (faults : D → ℕ) (first : YardState)
    (all : List (Option (LogState D))) (yard : YardState) (logs : List (Option (LogState D))) : Type 0 where
  pub few : length logs ≤ length all
  pub same : (m : ℕ) → m < length logs → log_of logs m ≡ log_of all m
  pub rest : (m : ℕ) → m < length logs → (yard.told m ≡ first.told m) × (yard.faults m ≡ first.faults m)
  pub back : (m : ℕ) → length logs ≤ m → (yard.told m ≡ (with_logs tells faults first all).told m)
      × (yard.faults m ≡ (with_logs tells faults first all).faults m)

pub one_more_back : {D : Type 0} (tells : D → Option Told) (faults : D → ℕ) (first : YardState)
    (all : List (Option (LogState D))) (old new : YardState) (logs rest : List (Option (LogState D)))
    (place : Option (LogState D)) → AreBack tells faults first all old logs → logs ≡ rest ++ place ∷ []
    → new.told (length rest) ≡ option_map_or (λ (log : LogState D). tells log.disk) place (old.told (length rest))
    → new.faults (length rest)
    ≡ option_map_or (λ (log : LogState D). faults log.disk) place (old.faults (length rest))
    → ((m : ℕ) → m ≢ length rest → (new.told m ≡ old.told m) × (new.faults m ≡ old.faults m))
    → AreBack tells faults first all new rest
one_more_back {D} tells faults first all old new logs rest place are parts told count others = record {
  few = omega (arith, are.few, long);
  same = λ m l. sym (place_before rest place m l)
      ∙ (ap (λ (xs : List (Option (LogState D))). log_of xs m) (sym parts) ∙ are.same m (omega (arith, l, long)));
  rest = λ m l.
      let o = others m (λ e. absurd (omega (arith, l, e))) in
      let r = are.rest m (omega (arith, l, long)) in (o.0 ∙ r.0, o.1 ∙ r.1);
  back = λ m past. by m past (cases_eq m (length rest));
}
  where
    long : length logs ≡ length rest + 1
    long = ap length parts ∙ length-append rest (place ∷ [])

    here : log_of all (length rest) ≡ place
    here = sym (are.same (length rest) (omega (arith, long)))
        ∙ (ap (λ (xs : List (Option (LogState D))). log_of xs (length rest)) parts
        ∙ place_new rest place (length rest) refl)

    -- under the place the disk was as at first
    before : (old.told (length rest) ≡ first.told (length rest))
        × (old.faults (length rest) ≡ first.faults (length rest))
    before = are.rest (length rest) (omega (arith, long))

    told_here : new.told (length rest) ≡ (with_logs tells faults first all).told (length rest)
    told_here = told
        ∙ (ap (λ (t : Option Told). option_map_or (λ (log : LogState D). tells log.disk) place t) before.0
        ∙ ap (λ (o : Option (LogState D)).
        option_map_or (λ (log : LogState D). tells log.disk) o (first.told (length rest))) (sym here))

    count_here : new.faults (length rest) ≡ (with_logs tells faults first all).faults (length rest)
    count_here = count ∙ (ap (λ (n : ℕ). option_map_or (λ (log : LogState D). faults log.disk) place n) before.1
        ∙ ap (λ (o : Option (LogState D)).
        option_map_or (λ (log : LogState D). faults log.disk) o (first.faults (length rest))) (sym here))

    by : (m : ℕ) → length rest ≤ m → (m ≡ length rest) ⊎ (m ≢ length rest)
        → (new.told m ≡ (with_logs tells faults first all).told m)
        × (new.faults m ≡ (with_logs tells faults first all).faults m)
    by m past (inl at) = subst (λ (k : ℕ). (new.told k ≡ (with_logs tells faults first all).told k)
        × (new.faults k ≡ (with_logs tells faults first all).faults k)) (sym at) (told_here, count_here)
    by m past (inr apart) =
        let o = others m apart in
        let b = are.back m (omega (arith, past, apart, long)) in (o.0 ∙ b.0, o.1 ∙ b.1)
