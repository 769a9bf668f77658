-- What an opening that stopped leaves on the disks of a yard is as before, or a try.
use Rattle.std.specs.Prelude.{IsSomeAnd, IsTrue, Option, None, Some, is_some}
use Rattle.std.proofs.Common.{◌≡◌, refl, sym, ◌∙◌, subst, inl, inr, ℕ, ◌<◌, arith, le_refl, List, length}
use Rattle.dr_entry.proofs.ListPlaces.{slice_get-some}
use Rattle.dr_disk.{specs.{Disk.{Told, state_of}, Images.{AllImages, Goes, IsLeft}}, proofs.DiskCalls.goes_tells}
use Rattle.dr_disk.proofs.Images.{left_so}
use Rattle.dr_history.specs.declared.opening.Opening.{Opening}
use Rattle.dr_log.specs.{Standing.KeepsRecords, State.LogState}
use Rattle.dr_opening.specs.{Contents.{IsRising, IsVoting, StandSo, voted_for}, declared.age.NotOpened.NotOpened}
use Rattle.dr_opening.{specs.Lists.{contents_of, log_of}, proofs.Crashing.{left_so_far, AreOnWay, on_way}}
use Rattle.dr_opening.{specs.Logs.WereNotOpened, proofs.{Logs.unopened_places, Trying.{in_set, some_try}}}
use Rattle.dr_opening.specs.{Tries.{AreLeftOn, HasStoppedSo, IsChosenOf, IsLeftOn, try_of}, Unopened.IsWhyUnopened}
use Rattle.dr_opening.specs.declared.{age.NotOpened.TheVariants.{Unchosen, Unfinished}, opening.OpenFault.OpenFault}
use Rattle.dr_opening.proofs.Lists.{stays_none, was_none, content_at_log, no_log, content_none}
use Rattle.dr_served.specs.Served.{HaveSamePlaces}
use Rattle.dr_program.proofs.Present.{present_within}
use Rattle.dr_restart.specs.{Groups.first_group_of, declared.{lists.LogLists.LogLists, start.Start.Start}}
use Rattle.dr_script.{specs.{Ranges.HasGroupRanges, declared.script.Script.Script}, proofs.Ranges.few}
use Rattle.dr_yard.specs.Yards.{AllTell, YardState}
use Rattle.dr_ages.specs.{Fit.{AreChosen, IsReadable, MayLeave}, Lent.{AreAllBut, AreMounted, IsAlike, with_logs}}
use Rattle.dr_ages.{specs.Tried.AreTried, proofs.Backs.{AreAllBack, alike_back, log_at, told_at, told_none}}
use Rattle.dr_ages.proofs.{Lasting.{HadBefore, alike_chosen, alike_readable, had_before}, Loans.are_found}
use Rattle.dr_ages.proofs.{Opening.unopened_on, Staying.alike_same}

-- ---- nothing came to any disk

-- where at each moment a crash would have left what it might have left before, as far as records go
pub alike_tried : (script : Script) (missing : ℕ) (before after : YardState)
    → ((m : ℕ) → m < script.members → Goes (before.told m) (after.told m) KeepsRecords)
    → AreTried script missing before after
alike_tried script missing before after alike = record {
  readable = alike_readable script.members before after alike;
  tried = λ logs chosen. (logs, alike_chosen script.members before after logs alike chosen, inl refl);
}

-- so under logs that are as they were mounted
pub mounted_tried : {D : Type 0} (tells : D → Option Told) (faults : D → ℕ) (script : Script) (missing : ℕ)
    (before mid after : YardState) (logs : List (Option (LogState D))) → AreMounted tells faults before logs
    → ((m : ℕ) → log_of logs m ≡ None → IsAlike (before.told m) (before.faults m) (mid.told m) (mid.faults m))
    → AreAllBack tells faults mid after logs → AreTried script missing before after
mounted_tried tells faults script missing before mid after logs mounted rest back =
    alike_tried script missing before after (λ m l. alike_back tells faults before mid after logs mounted rest back m)

-- ---- a log was refused what it lacked

-- an opening over logs that were mounted, in which one was refused
record IsUnopened {D : Type 0} (tells : D → Option Told) (faults : D → ℕ) (script : Script) (missing : ℕ)
    (before : YardState) (start : Start) (olds news : List (Option (LogState D))) (fault : OpenFault) : Type 0 where
  ranges : HasGroupRanges script
  all : length olds ≡ script.members
  but : AreAllBut missing olds
  tell : AllTell script.members before
  mounted : AreMounted tells faults before olds
  chosen : IsChosenOf (first_group_of script).opening (contents_of olds) start
  stopped : WereNotOpened tells faults start olds news fault

unopened_tried : {D : Type 0} (tells : D → Option Told) (faults : D → ℕ) (script : Script) (missing : ℕ)
    (before : YardState) (start : Start) (olds news : List (Option (LogState D))) (fault : OpenFault)
    → IsUnopened tells faults script missing before start olds news fault
    → AreTried script missing before (with_logs tells faults before news)
unopened_tried {D} tells faults script missing before start olds news fault u = record {
  readable = λ readable m l. reads (log_of olds m) m l refl (readable m l);
  tried = λ logs chosen.
      let h = had logs chosen in
      let t = some_try o (contents_of olds) h.olds logs start (few script u.ranges) u.chosen h.among
      (came logs chosen h way) in (
        h.olds,
        h.chosen,
        inr (
          try_of start t.0,
          t.1,
          λ m l there.
              let log = log_at missing olds m u.but (omega (arith, l, u.all)) there in
              in_set o (contents_of olds) start m log.0.content u.chosen (few script u.ranges)
              (content_at_log olds m log.0 log.1),
        ),
      );
}
  where
    o : Opening
    o = (first_group_of script).opening

    after : YardState
    after = with_logs tells faults before news

    places : HaveSamePlaces olds news
    places = unopened_places tells faults start olds news fault u.stopped

    way : AreOnWay tells start olds news
    way = on_way tells faults start olds news fault (λ m log at. (u.mounted m log at).safe) u.stopped

    had : (logs : List LogLists) → AreChosen script.members (with_logs tells faults before news) logs
        → HadBefore script.members before (contents_of olds) logs
    had logs chosen = had_before script.members missing before after (contents_of olds) logs u.tell
        (are_found tells faults missing before olds script.members u.mounted u.but u.all)
        (λ m l none. told_none tells faults before news m (stays_none olds news m places (no_log olds m none))) chosen

    -- the lists are left on the logs that are there
    left : (logs : List LogLists) → AreChosen script.members (with_logs tells faults before news) logs
        → (h : HadBefore script.members before (contents_of olds) logs) → AreLeftOn tells news h.olds logs
    left logs chosen h = record {
      all = chosen.all ∙ sym h.chosen.all;
      each = λ m log at.
          let x = slice_get-some logs m (omega (arith, present_within news m log at, places.all, u.all, chosen.all)) in (
            x.0,
            x.1,
            on log (tells log.disk) x.0 refl (subst (λ (t : Option Told). IsSomeAnd t (MayLeave x.0))
                (told_at tells faults before news m log at) (chosen.each m x.0 x.1)),
          );
      others = λ m none. h.others m (content_none olds m (was_none olds news m places none));
    }
      where
        on : (log : LogState D) (t : Option Told) (x : LogLists) → tells log.disk ≡ t → IsSomeAnd t (MayLeave x)
            → IsLeftOn tells log x
        on log None x is may = absurd may
        on log (Some t) x is may = record {
          tells = t;
          told_so = is;
          image = may.image;
          left = may.is;
          content = may.content;
          stands = may.stands;
          are = sym may.lists;
        }

    came : (logs : List LogLists) → AreChosen script.members (with_logs tells faults before news) logs
        → (h : HadBefore script.members before (contents_of olds) logs) → AreOnWay tells start olds news
        → HasStoppedSo start (contents_of olds) h.olds logs
    came logs chosen h (inl so) = inl (left_so_far tells (IsVoting start) olds news h.olds logs so (left logs chosen h))
    came logs chosen h (inr so) = inr (left_so_far tells (λ c now. IsRising start (voted_for start c) now) olds news
        h.olds logs so (left logs chosen h))

    -- each image of a log on its way is a log
    read : (m : ℕ) (old : LogState D) → log_of olds m ≡ Some old → AreOnWay tells start olds news
        → (new : LogState D) × (log_of news m ≡ Some new) × IsLeft (tells new.disk) IsReadable
    read m old at (inl so) =
        let x = so.each m old at in (
          x.0,
          x.1,
          left_so (tells x.0.disk) (StandSo (IsVoting start old.content)) IsReadable (λ image is. (is.0, is.2)) x.2,
        )
    read m old at (inr so) =
        let x = so.each m old at in (
          x.0,
          x.1,
          left_so (tells x.0.disk) (StandSo (IsRising start (voted_for start old.content))) IsReadable
              (λ image is. (is.0, is.2)) x.2,
        )

    stands : (o : Option Told) → IsTrue (is_some o) → IsLeft o IsReadable
        → IsSomeAnd o (λ t. AllImages (state_of t) IsReadable)
    stands None some left = absurd (cc)
    stands (Some t) some left = left

    reads : (slot : Option (LogState D)) (m : ℕ) → m < script.members → log_of olds m ≡ slot
        → IsSomeAnd (before.told m) (λ t. AllImages (state_of t) IsReadable)
        → IsSomeAnd ((with_logs tells faults before news).told m) (λ t. AllImages (state_of t) IsReadable)
    reads None m l none is = subst (λ (t : Option Told). IsSomeAnd t (λ t. AllImages (state_of t) IsReadable))
        (sym (told_none tells faults before news m (stays_none olds news m places none))) is
    reads (Some old) m l at is =
        let x = read m old at way in
        subst (λ (t : Option Told). IsSomeAnd t (λ t. AllImages (state_of t) IsReadable))
        (sym (told_at tells faults before news m x.0 x.1)) (stands (tells x.0.disk)
        (subst IsTrue (goes_tells (before.told m) (tells old.disk) KeepsRecords (u.mounted m old at).on.moments
        ∙ (unopened_on tells faults start olds news fault u.stopped m old x.0 at x.1).tells) (u.tell m l)) x.2)

-- ---- why an age was not opened

pub why_tried : {D : Type 0} (tells : D → Option Told) (faults : D → ℕ) (script : Script) (missing late : ℕ)
    (before : YardState) (olds news : List (Option (LogState D))) (why : NotOpened) → HasGroupRanges script
    → length olds ≡ script.members → AreAllBut missing olds → AllTell script.members before
    → AreMounted tells faults before olds → IsWhyUnopened tells faults script late olds news why
    → AreTried script missing before (with_logs tells faults before news)
why_tried tells faults script missing late before olds news (Unchosen fault) ranges all but tell mounted is =
    subst (λ logs. AreTried script missing before (with_logs tells faults before logs)) (sym is.1)
    (mounted_tried tells faults script missing before before (with_logs tells faults before olds) olds mounted
    (λ m none. alike_same (before.told m) (before.told m) (before.faults m) (before.faults m) refl
    (le_refl (before.faults m))) (λ m. (refl, refl)))
why_tried tells faults script missing late before olds news (Unfinished fault) ranges all but tell mounted is =
    unopened_tried tells faults script missing before is.0 olds news fault (record {
      ranges = ranges;
      all = all;
      but = but;
      tell = tell;
      mounted = mounted;
      chosen = is.1;
      stopped = is.3;
    })
