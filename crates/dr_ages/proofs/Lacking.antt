-- Openings in which memory was wanting.
use Rattle.std.specs.{Option.option_map_or, Prelude.{Option, None, Some}}
use Rattle.std.proofs.Common.{◌≡◌, refl, sym, ap, ◌∙◌, subst, inl, inr, ℕ, ◌<◌, ◌≤◌, arith, List, [], ◌∷◌, length}
use Rattle.std.proofs.lemmas.{Bool.cases_lt, List.Elements.All-nil, Option.same_Some}
use Rattle.dr_play.specs.Logged.{AreAsBefore, AreCalm}
use Rattle.dr_disk.{specs.{Disk.Told, Images.IsLeft}, proofs.{Images.left_so, Moments.Goes-last}}
use Rattle.dr_entry.specs.declared.entry.Entry.{Entry}
use Rattle.dr_history.specs.History.{IsPrefixOf}
use Rattle.dr_log.{specs.{Standing.LosesNone, State.LogState}, proofs.Ordinary.{has_itself, none_lost}}
use Rattle.dr_log_bytes.specs.{Content.OnLog, Grammar.StandFor}
use Rattle.dr_served.{specs.Served.{HaveSamePlaces, IsSafe}, proofs.Served.{places_both, places_same}}
use Rattle.dr_opening.{specs.Contents.{IsOpenFor, voted_for}, proofs.Lists.{stays_there, was_there, log_of_content}}
use Rattle.dr_opening.{specs.{Lists.{contents_of, log_of}, Unopened.IsWhyUnopened}, proofs.Logs.opened_places}
use Rattle.dr_opening.specs.{Logs.WereOpened, declared.age.NotOpened.{NotOpened, TheVariants.{Unchosen, Unfinished}}}
use Rattle.dr_restart.specs.declared.start.Start.{Start}
use Rattle.dr_script.specs.declared.script.Script.{Script}
use Rattle.dr_yard.specs.Yards.{YardState}
use Rattle.dr_ages.specs.{Lacking.{IsOpenStill, LackedMemory, to_begin, to_choose, to_mount}, declared.part.Part.Part}
use Rattle.dr_ages.{specs.Lent.{AreAllBut, AreMounted, WereRefused, with_logs}, proofs.Backs.{counts_still, told_at}}
use Rattle.dr_ages.specs.{Opened.AreLater, declared.stop.Stop.{Stop, TheVariants.{OutOfMemory, DiskFault, Damaged}}}
use Rattle.dr_ages.specs.{Passing.AreKeptSince, Stops.AreMountedBelow, Telling.stop_of}
use Rattle.dr_ages.{specs.declared.mode.Mode.{Mode, TheVariants.{Sim, Run}}, proofs.Loans.{are_found, mounted_below}}
use Rattle.dr_ages.proofs.{Chain.{none_below, unmounted}, Opening.{on_still, opened_on}, Staying.later_by_all}
use Rattle.dr_ages.proofs.{Played.{is_open, later_on, open_log}, Stopping.{IsOpeningOn, lacked_append, since_opened}}

-- ---- before all logs were mounted

-- nothing was
pub lacked_first : (script : Script) (part : Part) (mode : Mode) (yard : YardState) → 1 ≤ script.members
    → LackedMemory script part mode yard yard
lacked_first script part mode yard some = to_mount 0 some (none_below part.missing yard)
    (unmounted script.members part.missing [] yard) (λ m. refl)

-- those below k were
pub lacked_mount : (script : Script) (part : Part) (mode : Mode) (k : ℕ) (before mid after : YardState)
    (stop : Stop) → (((m : ℕ) → k < m → mid.told m ≡ before.told m) → AreMountedBelow k part.missing before after)
    → AreKeptSince script.members part.missing k [] before after
    → ((m : ℕ) → m < k → after.faults m ≡ before.faults m) → ((m : ℕ) → k ≤ m → after.faults m ≡ mid.faults m)
    → WereRefused script.members part.missing k before mid stop → stop ≡ OutOfMemory
    → LackedMemory script part mode before after
lacked_mount script part mode k before mid after OutOfMemory back since low high is same =
    to_mount k is.0 (back is.1) since (λ m. elim (cases_lt m k) [
      | inl l ↦ low m l
      | inr past ↦ high m past ∙ is.2 m past
    ])
lacked_mount script part mode k before mid after (DiskFault m) back since low high is same = absurd (cc (same))
lacked_mount script part mode k before mid after (Damaged m at) back since low high is same = absurd (cc (same))
lacked_mount script part mode k before mid after stop back since low high is same = absurd is

-- ---- before the age was open

-- the logs are as they were
lacked_choice : {D : Type 0} (tells : D → Option Told) (faults : D → ℕ) (script : Script) (part : Part)
    (mode : Mode) (before : YardState) (logs : List (Option (LogState D))) → length logs ≡ script.members
    → AreMounted tells faults before logs → AreAllBut part.missing logs
    → LackedMemory script part mode before (with_logs tells faults before logs)
lacked_choice tells faults script part mode before logs all mounted but = to_choose
    (subst (λ (n : ℕ). AreMountedBelow n part.missing before (with_logs tells faults before logs)) all
    (mounted_below tells faults part.missing before before (with_logs tells faults before logs) logs mounted
    but (λ m. (refl, refl)) (λ m past. refl)))
    (since_opened tells faults script part before [] logs logs all mounted but (on_still tells faults [] logs)
    (places_same logs)) (counts_still tells faults before logs mounted)

pub lacked_opening : {D : Type 0} (tells : D → Option Told) (faults : D → ℕ) (script : Script) (part : Part)
    (mode : Mode) (before : YardState) (olds news : List (Option (LogState D))) (why : NotOpened)
    → length olds ≡ script.members → AreMounted tells faults before olds → AreAllBut part.missing olds
    → IsWhyUnopened tells faults script part.late olds news why → stop_of why ≡ OutOfMemory
    → LackedMemory script part mode before (with_logs tells faults before news)
lacked_opening {D} tells faults script part mode before olds news (Unchosen fault) all mounted but is same =
    subst (λ (logs : List (Option (LogState D))).
    LackedMemory script part mode before (with_logs tells faults before logs))
    (sym is.1) (lacked_choice tells faults script part mode before olds all mounted but)
lacked_opening tells faults script part mode before olds news (Unfinished fault) all mounted but is same =
    lacked_append tells faults script part mode before is.0 olds news fault.member fault.why
    (record { all = all; mounted = mounted; but = but; chosen = is.1; members = is.2 }) is.3 same

-- ---- behind it

-- what a crash leaves of a log that is as it was opened, or has gone on
still_open : {D : Type 0} (tells : D → Option Told) (faults : D → ℕ) (mode : Mode)
    (mids news : List (Option (LogState D))) (m : ℕ) (mid new : LogState D) → log_of mids m ≡ Some mid
    → log_of news m ≡ Some new → IsSafe tells mid → AreLater tells faults [] mids news
    → (mode ≡ Sim → AreAsBefore mids news × AreCalm tells faults mids news)
    → IsLeft (tells new.disk) (IsOpenStill mode mid.content)
still_open tells faults Sim mids news m mid new there here safe later still = subst (λ (o : Option Told). IsLeft o
    (λ image. StandFor image mid.content)) (sym ((still refl).1 m mid new there here).0) safe
still_open tells faults Run mids news m mid new there here safe later still = Goes-last (tells mid.disk)
    (tells new.disk) (LosesNone mid.content) ((later m mid new there here).stays mid.content
    (All-nil (λ (start : List Entry). IsPrefixOf mid.content.entries start))
    (has_itself mid.content) (left_so (tells mid.disk) (λ image. StandFor image mid.content) (LosesNone mid.content)
    (λ image stands. none_lost mid.content mid.content image (has_itself mid.content) stands) safe))

pub lacked_age : {D : Type 0} (tells : D → Option Told) (faults : D → ℕ) (script : Script)
    (part : Part) (mode : Mode) (before : YardState) (start : Start) (olds mids news : List (Option (LogState D)))
    → IsOpeningOn tells faults script part before start olds → WereOpened tells faults start olds mids
    → AreLater tells faults [] mids news → HaveSamePlaces mids news → (mode ≡ Sim → AreAsBefore mids news
    × AreCalm tells faults mids news) → LackedMemory script part mode before (with_logs tells faults before news)
lacked_age {D} tells faults script part mode before start olds mids news on opened later places still =
    to_begin (record {
      contents = contents_of olds;
      found = are_found tells faults part.missing before olds script.members on.mounted on.but on.all;
      start = start;
      chosen = on.chosen;
      members = on.members;
      opened = λ m c at.
          let old = log_of_content olds m c at in
          let x = open_log tells faults start before olds mids m old.0 on.mounted opened old.1 in
          let new = stays_there mids news m x.mid places x.by in (
            x.mid.content,
            subst (λ (b : OnLog). IsOpenFor start (voted_for start b) x.mid.content)
                (ap (λ (l : LogState D). l.content) (same_Some x.old old.0 (sym x.from ∙ old.1)) ∙ old.2)
                (is_open tells faults start before olds mids m x),
            omega (arith, x.begun.within, x.vote.0.limit, x.mounted.limit),
            subst (λ (o : Option Told). IsLeft o (IsOpenStill mode x.mid.content))
                (sym (told_at tells faults before news m new.0 new.1))
                (still_open tells faults mode mids news m x.mid new.0 x.by new.1 x.begun.well.safe later still),
          );
      since = since_opened tells faults script part before (start.entries ∷ []) olds news on.all on.mounted
          on.but (later_on tells faults (start.entries ∷ []) olds mids news began
          (opened_on tells faults start olds mids opened)
          (λ m old new there here. later_by_all tells faults (start.entries ∷ []) old new
          (later m old new there here))) (places_both olds mids news began places);
      calm = λ simulated m. calm simulated m (log_of news m) refl;
    })
  where
    began : HaveSamePlaces olds mids
    began = opened_places tells faults start olds mids opened

    calm : mode ≡ Sim → (m : ℕ) (o : Option (LogState D)) → log_of news m ≡ o
        → option_map_or (λ (log : LogState D). faults log.disk) o (before.faults m) ≡ before.faults m
    calm simulated m None at = refl
    calm simulated m (Some new) at =
        let mid = was_there mids news m new places at in
        let old = was_there olds mids m mid.0 began mid.1 in
        let x = open_log tells faults start before olds mids m old.0 on.mounted opened old.1 in
        ((still simulated).1 m mid.0 new mid.1 at).1 ∙ (ap (λ (l : LogState D). faults l.disk)
        (same_Some mid.0 x.mid (sym mid.1 ∙ x.by)) ∙ (x.begun.well.calm ∙ (x.vote.0.well.calm ∙ x.mounted.calm)))
