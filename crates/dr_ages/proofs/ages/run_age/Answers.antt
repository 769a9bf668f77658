use Rattle.std.{specs.Prelude.{not, Option, None}, proofs.lemmas.{Bool.cases_lt, Result.{IfErr-weaker, IfOk-weaker}}}
use Rattle.std.proofs.Common.{◌≡◌, ◌⊎◌, ◌∙◌, refl, subst, ⊎_elim, inl, inr, ℕ, ◌<◌, ◌≤◌, Bool, true, false, List, [], length, arith}
use Rattle.dr_disk.specs.Disk.{Told}
use Rattle.dr_entry.specs.declared.entry.Entry.{Entry}
use Rattle.dr_history.specs.Members.{has}
use Rattle.dr_log.specs.State.{LogState}
use Rattle.dr_served.{specs.Served.HaveSamePlaces, proofs.Served.places_same}
use Rattle.dr_opening.{specs.Lists.{contents_of, log_of}, proofs.Lists.{stays_none, was_none}}
use Rattle.dr_script.specs.declared.script.Script.{Script}
use Rattle.dr_yard.specs.Yards.{YardState, state_by}
use Rattle.dr_program.proofs.Programs.{place_past}
use Rattle.dr_ages.{specs.{Ages.IsAgeOf, Passing.{AreUntouched, GoesOn}}, proofs.Lacking.{lacked_first, lacked_mount}}
use Rattle.dr_ages.{specs.{Lacking.LackedMemory, Opened.AreChosenOf}, proofs.{Opening.on_still, Tried.mounted_tried}}
use Rattle.dr_ages.specs.{Lent.{AreAllBut, AreMounted, with_logs}, Stops.{AreChosenIn, HasStopped, NamesFaults}}
use Rattle.dr_ages.{specs.Tried.AreTried, proofs.{Chain.none_kept, Staying.on_alike}}
use Rattle.dr_ages.proofs.Backs.{AreAllBack, after_is, faults_at, faults_none, kept_back, later_back, log_at, missing_at, none_at, passed_back, told_none}
use Rattle.dr_ages.proofs.Loans.{are_found, lent_later, mounted_below, refused_mounted, refused_names, refused_stop, stopped_mounted}
use Rattle.dr_ages.proofs.ages.run_age.{Given.Over, Goals.{After-give_all_back, in-Ok-mount_all, in-Err}}
use Rattle.dr_ages.proofs.ages.run_age.Goals as goal

pub run_over-requires-clause-whole : goal.run_over-requires-clause-whole
run_over-requires-clause-whole g c κs h m log at = (c.mount_all.ensures.mounted m log at).whole

pub give_all_back-requires-clause-lent : goal.give_all_back-requires-clause-lent
give_all_back-requires-clause-lent g c κs h = elim c.match-mount_all.branch [
  | in-Ok-mount_all w ↦ rw w.ended-is
      (lent_later g.Y.Yard.is_lent g.Y.Yard.faults g.Y.Store.Disk.told g.Y.Store.Disk.faults
      w.run_over.ensures.later.0 c.mount_all.new.yard c.mount_all.new.logs.items w.run_over.result.1.items
      c.mount_all.ensures.lent w.run_over.ensures.later.2 w.run_over.ensures.places)
  | in-Err w ↦ rw w.ended-is c.mount_all.ensures.lent
]

-- ---- the yard before, with the logs of the age out, and behind it

abbrev before : (g : Over) → After-give_all_back g → YardState
before g c = state_by g.Y.Yard.told g.Y.Yard.faults c.args.yard.now

abbrev mid : (g : Over) → After-give_all_back g → YardState
mid g c = state_by g.Y.Yard.told g.Y.Yard.faults c.mount_all.new.yard

abbrev after : (g : Over) → After-give_all_back g → YardState
after g c = state_by g.Y.Yard.told g.Y.Yard.faults c.give_all_back.new.yard

-- the logs of its disks
abbrev Logs : Over → Type 0
Logs g = List (Option (LogState g.row.Y-Store.Denot))

-- where no log stands a disk was as before, once all were mounted
still : (script : Script) (missing : ℕ) (before mid : YardState) {D : Type 0} (logs : List (Option (LogState D)))
    (m : ℕ) → AreAllBut missing logs → AreUntouched missing before mid → length logs ≡ script.members
    → ((j : ℕ) → script.members ≤ j → (mid.told j ≡ before.told j) × (mid.faults j ≡ before.faults j))
    → log_of logs m ≡ None → (mid.told m ≡ before.told m) × (mid.faults m ≡ before.faults m)
still script missing before mid logs m but untouched all rest none = ⊎_elim
    (λ (l : m < length logs). untouched m (missing_at missing logs m but l none))
    (λ (past : length logs ≤ m). rest m (omega (arith, past, all))) (cases_lt m (length logs))

-- those of the missing are as before behind it
untouched_back : {D : Type 0} (tells : D → Option Told) (faults : D → ℕ) (missing : ℕ) (before mid after : YardState)
    (olds news : List (Option (LogState D))) → AreAllBut missing olds → HaveSamePlaces olds news
    → AreUntouched missing before mid → AreAllBack tells faults mid after news → AreUntouched missing before after
untouched_back tells faults missing before mid after olds news but places untouched back m gone =
    let none = stays_none olds news m places (none_at missing olds m but gone) in
    let same = untouched m gone in (
      (back m).0 ∙ (told_none tells faults mid news m none ∙ same.0),
      (back m).1 ∙ (faults_none tells faults mid news m none ∙ same.1),
    )

-- what was chosen of the logs was chosen of what was found
chosen_in : {D : Type 0} (tells : D → Option Told) (faults : D → ℕ) (script : Script) (missing : ℕ)
    (before : YardState) (logs : List (Option (LogState D))) (starts : List (List Entry))
    → AreMounted tells faults before logs → AreAllBut missing logs → length logs ≡ script.members
    → (starts ≡ []) ⊎ AreChosenOf script starts (contents_of logs) → AreChosenIn script missing before starts
chosen_in tells faults script missing before logs starts mounted but all (inl none) = inl none
chosen_in tells faults script missing before logs starts mounted but all (inr is) =
    inr (contents_of logs, are_found tells faults missing before logs script.members mounted but all, is)

-- the logs that the age ended with are back
back : (g : Over) (c : After-give_all_back g) (logs : Logs g) → c.match-mount_all.ended.1.items ≡ logs
    → AreAllBack g.Y.Store.Disk.told g.Y.Store.Disk.faults (mid g c) (after g c) logs
back g c logs same = subst (λ (l : Logs g). AreAllBack g.Y.Store.Disk.told g.Y.Store.Disk.faults
    (mid g c) (after g c) l) same c.give_all_back.ensures.back

-- so the yard is as before but for them
whole_yard : (g : Over) (c : After-give_all_back g) (news : Logs g) → c.match-mount_all.ended.1.items ≡ news
    → HaveSamePlaces c.mount_all.new.logs.items news → length c.mount_all.new.logs.items ≡ c.args.script.now.members
    → ((j : ℕ) → c.args.script.now.members ≤ j
    → ((mid g c).told j ≡ (before g c).told j) × ((mid g c).faults j ≡ (before g c).faults j))
    → with_logs g.Y.Store.Disk.told g.Y.Store.Disk.faults (before g c) news ≡ after g c
whole_yard g c news same places all rest = after_is g.Y.Store.Disk.told g.Y.Store.Disk.faults
    (before g c) (mid g c) (after g c) news (λ m none. still c.args.script.now c.args.part.now.missing (before g c)
    (mid g c) c.mount_all.new.logs.items m c.mount_all.ensures.places c.mount_all.ensures.untouched all rest
    (was_none c.mount_all.new.logs.items news m places none)) (back g c news same)

-- of a disk below the one that was refused none failed
low : (g : Over) (c : After-give_all_back g) (m : ℕ) → m < length c.mount_all.new.logs.items
    → (b : Bool) → has c.args.part.now.missing m ≡ b
    → AreAllBack g.Y.Store.Disk.told g.Y.Store.Disk.faults (mid g c) (after g c) c.mount_all.new.logs.items
    → (after g c).faults m ≡ (before g c).faults m
low g c m l true gone are_back =
    let logs : Logs g = c.mount_all.new.logs.items in
    (are_back m).1 ∙ (faults_none g.Y.Store.Disk.told g.Y.Store.Disk.faults (mid g c) logs m
    (none_at c.args.part.now.missing logs m c.mount_all.ensures.places gone)
    ∙ (c.mount_all.ensures.untouched m gone).1)
low g c m l false there are_back =
    let logs : Logs g = c.mount_all.new.logs.items in
    let log = log_at c.args.part.now.missing logs m c.mount_all.ensures.places l there in
    (are_back m).1 ∙ (faults_at g.Y.Store.Disk.told g.Y.Store.Disk.faults (mid g c) logs m log.0 log.1
    ∙ (c.mount_all.ensures.mounted m log.0 log.1).calm)

-- the disks of the members whose logs were not mounted go on
on : (g : Over) (c : After-give_all_back g) (starts : List (List Entry)) (m : ℕ)
    → log_of c.mount_all.new.logs.items m ≡ None
    → GoesOn starts ((before g c).told m) ((before g c).faults m) ((mid g c).told m) ((mid g c).faults m)
on g c starts m none = on_alike starts ((before g c).told m) ((mid g c).told m) ((before g c).faults m)
    ((mid g c).faults m) (c.mount_all.ensures.on m none)

pub returns-clause-age : goal.returns-clause-age
returns-clause-age g c = elim c.match-mount_all.branch [
  | in-Ok-mount_all w ↦
      let is = whole_yard g c w.run_over.result.1.items (rw w.ended-is refl) w.run_over.ensures.places
      w.in-Ok-mount_all.ensures.all w.in-Ok-mount_all.ensures.rest in
      rw w.ended-is (IfOk-weaker w.run_over.result.0 _ _ (λ age so. subst (λ (y : YardState).
      IsAgeOf c.args.script.now c.args.part.now c.args.mode c.args.nth (before g c) y age) is
      (so (before g c) c.mount_all.ensures.mounted)) w.run_over.ensures.age)
  | in-Err w ↦ rw w.ended-is tt
]

pub returns-clause-stopped : goal.returns-clause-stopped
returns-clause-stopped g c = elim c.match-mount_all.branch [
  | in-Ok-mount_all w ↦
      let is = whole_yard g c w.run_over.result.1.items (rw w.ended-is refl) w.run_over.ensures.places
      w.in-Ok-mount_all.ensures.all w.in-Ok-mount_all.ensures.rest in
      rw w.ended-is (IfErr-weaker w.run_over.result.0 _ _
      (λ stop so. subst (λ (y : YardState). HasStopped c.args.script.now c.args.part.now (before g c) y stop) is
      (so (before g c) c.mount_all.ensures.mounted)) w.run_over.ensures.stopped)
  | in-Err w ↦
      let told = g.Y.Store.Disk.told in
      let faults = g.Y.Store.Disk.faults in
      let logs : Logs g = c.mount_all.new.logs.items in
      let are_back = back g c logs (rw w.ended-is refl) in
      rw w.ended-is (refused_stop c.args.script.now c.args.part.now (length logs) (before g c) (mid g c)
      (after g c) w.in-Err.stop
      (later_back told faults (mid g c) (after g c) logs c.mount_all.ensures.lent.counted are_back)
      (λ m past. (are_back m).0 ∙ told_none told faults (mid g c) logs m (place_past logs m past))
      (kept_back told faults c.args.script.now.members c.args.part.now.missing [] (before g c) (mid g c) (after g c)
      logs logs c.mount_all.ensures.mounted c.mount_all.ensures.places (on_still told faults [] logs)
      (places_same logs) c.mount_all.ensures.on are_back) w.in-Err.ensures.stopped)
]

-- what was kept, where the disks of all logs were mounted, and where one was refused
pub returns-clause-kept : goal.returns-clause-kept
returns-clause-kept g c = elim c.match-mount_all.branch [
  | in-Ok-mount_all w ↦
      let told = g.Y.Store.Disk.told in
      let faults = g.Y.Store.Disk.faults in
      let script = c.args.script.now in
      let missing = c.args.part.now.missing in
      let olds : Logs g = c.mount_all.new.logs.items in
      let news : Logs g = w.run_over.result.1.items in
      let starts = w.run_over.ensures.later.0 in
      let are_back = back g c news (rw w.ended-is refl) in
      rw w.ended-is (IfErr-weaker w.run_over.result.0 _ _ (λ stop so. record {
        mounted = length olds;
        starts = starts;
        chosen = chosen_in told faults script missing (before g c) olds starts c.mount_all.ensures.mounted
            c.mount_all.ensures.places w.in-Ok-mount_all.ensures.all w.run_over.ensures.later.1;
        since = kept_back told faults script.members missing starts (before g c) (mid g c)
            (after g c) olds news c.mount_all.ensures.mounted c.mount_all.ensures.places
            w.run_over.ensures.later.2 w.run_over.ensures.places c.mount_all.ensures.on are_back;
        passes = passed_back told faults starts (before g c) (mid g c) (after g c) olds news
            c.mount_all.ensures.mounted w.run_over.ensures.later.2 w.run_over.ensures.places (on g c starts) are_back;
        untouched = untouched_back told faults missing (before g c) (mid g c) (after g c) olds news
            c.mount_all.ensures.places w.run_over.ensures.places c.mount_all.ensures.untouched are_back;
        count = stopped_mounted script.members missing (before g c) (after g c) (length olds) stop
            w.in-Ok-mount_all.ensures.all so;
      }) w.run_over.ensures.behind)
  | in-Err w ↦
      let told = g.Y.Store.Disk.told in
      let faults = g.Y.Store.Disk.faults in
      let members = c.args.script.now.members in
      let missing = c.args.part.now.missing in
      let logs : Logs g = c.mount_all.new.logs.items in
      let are_back = back g c logs (rw w.ended-is refl) in
      rw w.ended-is (record {
        mounted = length logs;
        starts = [];
        chosen = inl refl;
        since = kept_back told faults members missing [] (before g c) (mid g c)
            (after g c) logs logs c.mount_all.ensures.mounted c.mount_all.ensures.places
            (on_still told faults [] logs) (places_same logs) c.mount_all.ensures.on are_back;
        passes = passed_back told faults [] (before g c) (mid g c) (after g c) logs logs
            c.mount_all.ensures.mounted (on_still told faults [] logs) (places_same logs) (on g c []) are_back;
        untouched = untouched_back told faults missing (before g c) (mid g c) (after g c) logs logs
            c.mount_all.ensures.places (places_same logs) c.mount_all.ensures.untouched are_back;
        count = refused_mounted members missing (length logs) (before g c) (mid g c) (after g c) w.in-Err.stop
            (mounted_below told faults missing (before g c) (mid g c) (after g c) logs
            c.mount_all.ensures.mounted c.mount_all.ensures.places are_back) w.in-Err.ensures.stopped;
      })
]

-- how far it had come where memory was wanting
pub returns-clause-lacked : goal.returns-clause-lacked
returns-clause-lacked g c = elim c.match-mount_all.branch [
  | in-Ok-mount_all w ↦
      let is = whole_yard g c w.run_over.result.1.items (rw w.ended-is refl) w.run_over.ensures.places
      w.in-Ok-mount_all.ensures.all w.in-Ok-mount_all.ensures.rest in
      rw w.ended-is (IfErr-weaker w.run_over.result.0 _ _ (λ stop so same. subst (λ (y : YardState).
      LackedMemory c.args.script.now c.args.part.now c.args.mode (before g c) y) is
      (so (before g c) c.mount_all.ensures.mounted same)) w.run_over.ensures.lacked)
  | in-Err w ↦
      let told = g.Y.Store.Disk.told in
      let faults = g.Y.Store.Disk.faults in
      let missing = c.args.part.now.missing in
      let logs : Logs g = c.mount_all.new.logs.items in
      let are_back = back g c logs (rw w.ended-is refl) in
      rw w.ended-is (lacked_mount c.args.script.now c.args.part.now c.args.mode (length logs) (before g c)
      (mid g c) (after g c) w.in-Err.stop
      (mounted_below told faults missing (before g c) (mid g c) (after g c) logs c.mount_all.ensures.mounted
      c.mount_all.ensures.places are_back)
      (kept_back told faults c.args.script.now.members missing [] (before g c) (mid g c) (after g c)
      logs logs c.mount_all.ensures.mounted c.mount_all.ensures.places (on_still told faults [] logs)
      (places_same logs) c.mount_all.ensures.on are_back) (λ m l. low g c m l (has missing m) refl are_back)
      (λ m past. (are_back m).1 ∙ faults_none told faults (mid g c) logs m (place_past logs m past))
      w.in-Err.ensures.stopped)
]

pub returns-in_default-clause-lacked : goal.returns-in_default-clause-lacked
returns-in_default-clause-lacked g c same = lacked_first c.args.script.now c.args.part.now c.args.mode
    (state_by g.Y.Yard.told g.Y.Yard.faults c.args.yard.now) c.requires.ranges.group.some_member

pub returns-in_default-clause-kept : goal.returns-in_default-clause-kept
returns-in_default-clause-kept g c = none_kept c.args.script.now c.args.part.now.missing
    (state_by g.Y.Yard.told g.Y.Yard.faults c.args.yard.now) c.requires.ranges.group.some_member

pub returns-clause-tried : goal.returns-clause-tried
returns-clause-tried g c = elim c.match-mount_all.branch [
  | in-Ok-mount_all w ↦
      let is = whole_yard g c w.run_over.result.1.items (rw w.ended-is refl) w.run_over.ensures.places
      w.in-Ok-mount_all.ensures.all w.in-Ok-mount_all.ensures.rest in
      rw w.ended-is (IfErr-weaker w.run_over.result.0 _ _ (λ stop so tell other.
      subst (λ (y : YardState). AreTried c.args.script.now c.args.part.now.missing (before g c) y) is
      (so (before g c) c.mount_all.ensures.mounted tell other)) w.run_over.ensures.tried)
  | in-Err w ↦
      let logs : Logs g = c.mount_all.new.logs.items in
      rw w.ended-is (λ tell other. mounted_tried g.Y.Store.Disk.told g.Y.Store.Disk.faults c.args.script.now
      c.args.part.now.missing (before g c) (mid g c) (after g c) logs c.mount_all.ensures.mounted c.mount_all.ensures.on
      (back g c logs (rw w.ended-is refl)))
]

pub returns-clause-names : goal.returns-clause-names
returns-clause-names g c = elim c.match-mount_all.branch [
  | in-Ok-mount_all w ↦
      let is = whole_yard g c w.run_over.result.1.items (rw w.ended-is refl) w.run_over.ensures.places
      w.in-Ok-mount_all.ensures.all w.in-Ok-mount_all.ensures.rest in
      rw w.ended-is (IfErr-weaker w.run_over.result.0 _ _
      (λ stop so. subst (λ (y : YardState). NamesFaults stop (before g c) y) is
      (so (before g c) c.mount_all.ensures.mounted)) w.run_over.ensures.names)
  | in-Err w ↦
      let told = g.Y.Store.Disk.told in
      let faults = g.Y.Store.Disk.faults in
      let missing = c.args.part.now.missing in
      let logs : Logs g = c.mount_all.new.logs.items in
      let are_back = back g c logs (rw w.ended-is refl) in
      rw w.ended-is (refused_names c.args.script.now.members missing (length logs) (before g c) (mid g c) (after g c)
      w.in-Err.stop (λ m l. low g c m l (has missing m) refl are_back)
      (λ m past. (are_back m).1 ∙ faults_none told faults (mid g c) logs m (place_past logs m past))
      w.in-Err.ensures.stopped)
]

pub returns-clause-watched : goal.returns-clause-watched
returns-clause-watched g c = elim c.match-mount_all.branch [
  | in-Ok-mount_all w ↦ rw (w.ended-is, w.watcher-is) w.run_over.ensures.watched
  | in-Err w ↦ rw w.ended-is tt
]

pub returns-clause-untold : goal.returns-clause-untold
returns-clause-untold g c = elim c.match-mount_all.branch [
  | in-Ok-mount_all w ↦ rw (w.ended-is, w.watcher-is) w.run_over.ensures.untold
  | in-Err w ↦ rw (w.ended-is, w.watcher-is) refl
]
