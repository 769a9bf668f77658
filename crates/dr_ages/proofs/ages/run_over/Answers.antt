use Rattle.std.{specs.Prelude.OnErr, proofs.lemmas.List.with_items_is}
use Rattle.std.proofs.Common.{◌≡◌, ◌<◌, ◌∙◌, refl, sym, ap, subst, inr, length, ℕ, List, [], ◌∷◌, Option}
use Rattle.dr_play.specs.{Age.IsAgeOn, Logged.{AreAsBefore, AreCalm, AreOpened}}
use Rattle.dr_entry.proofs.OptionFacts.{err_at, ok_at}
use Rattle.dr_log.specs.State.{LogState}
use Rattle.dr_served.{specs.Served.HaveSamePlaces, proofs.Served.places_both}
use Rattle.dr_opening.specs.{Lists.{SomebodyPrompt, contents_of, log_of}, Logs.WereOpened, Tries.IsChosenOf}
use Rattle.dr_opening.{specs.Unopened.IsWhyUnopened, proofs.{Lists.contents_there, Logs.{opened_places, why_places}}}
use Rattle.dr_restart.specs.{Groups.{first_group_of, group_of}, declared.start.Start.Start}
use Rattle.dr_yard.specs.Yards.{YardState}
use Rattle.dr_ages.specs.{Ages.IsPlayed, Lent.AreMounted, Opened.{AreLater, HaveGoneOn}, Watched.HasSeen}
use Rattle.dr_ages.{specs.declared.mode.Mode.TheVariants.Sim, proofs.Lacking.{lacked_age, lacked_opening}}
use Rattle.dr_ages.proofs.Opening.{are_opened, gone_on, opened_on}
use Rattle.dr_ages.proofs.{Played.{is_age, later_on, same_start, somebody_prompt}, Staying.later_by_all}
use Rattle.dr_ages.proofs.{Stopping.{IsOpeningOn, why_behind, why_names, why_stops}, Tried.why_tried}
use Rattle.dr_ages.proofs.ages.run_over.{Given.Over, Goals.{After-of_unopened, After-play_age-ended}}
use Rattle.dr_ages.proofs.ages.run_over.Goals as goal

pub open_age-requires-clause-whole : goal.open_age-requires-clause-whole
open_age-requires-clause-whole g c κs h m log at = c.requires.whole m log
    (ap (λ (l : List (Option (LogState g.row.D.Denot))). log_of l m) (sym c.as_mut_slice.ensures.value) ∙ at)

-- the logs of which the age opens are those that came
abbrev Logs : Over → Type 0
Logs g = List (Option (LogState g.row.D.Denot))

pub play_age-ended-requires-clause-logs : goal.play_age-ended-requires-clause-logs
play_age-ended-requires-clause-logs g c κs h =
    let told = g.D.Disk.told in
    let faults = g.D.Disk.faults in
    let places = opened_places told faults c.in-Ok.start c.as_mut_slice.result.now c.open_age.new.logs
    c.in-Ok.ensures.opened in
    subst (λ (l : Logs g). AreOpened (group_of c.args.script.now c.in-Ok.start) l)
    (sym (with_items_is c.args.logs c.open_age.new.logs (places.all ∙ c.as_mut_slice.ensures.len)))
    (are_opened told faults c.args.script.now c.in-Ok.start c.as_mut_slice.result.now
    c.open_age.new.logs c.requires.ranges.group.lists c.requires.ranges.group.most_members
    (ap length c.as_mut_slice.ensures.value ∙ c.requires.all) c.in-Ok.ensures.chosen c.in-Ok.ensures.opened)

-- somebody whose log is there isn't late
pub open_age-requires-clause-prompt : goal.open_age-requires-clause-prompt
open_age-requires-clause-prompt g c κs h m log at =
    subst (λ (l : Logs g). SomebodyPrompt c.args.part.now.late l) (sym c.as_mut_slice.ensures.value)
    (somebody_prompt c.args.script.now c.args.part.now c.args.logs.items m log c.requires.all c.requires.places
    c.requires.some (ap (λ (l : Logs g). log_of l m) (sym c.as_mut_slice.ensures.value) ∙ at))

-- ---- an age that was not opened

-- why, over the logs that came
why : (g : Over) (c : After-of_unopened g) → IsWhyUnopened g.D.Disk.told g.D.Disk.faults c.args.script.now
    c.args.part.now.late c.args.logs.items c.open_age.new.logs c.in-Err.why
why g c = subst (λ (l : Logs g).
    IsWhyUnopened g.D.Disk.told g.D.Disk.faults c.args.script.now c.args.part.now.late l c.open_age.new.logs c.in-Err.why)
    c.as_mut_slice.ensures.value c.in-Err.ensures.why

-- there are as many behind it
as_many : (g : Over) (c : After-of_unopened g) → length c.open_age.new.logs ≡ length c.as_mut_slice.result.now
as_many g c = (why_places g.D.Disk.told g.D.Disk.faults c.args.script.now c.args.part.now.late c.as_mut_slice.result.now
    c.open_age.new.logs c.in-Err.why c.in-Err.ensures.why).all

pub returns-in-Err-clause-stopped : goal.returns-in-Err-clause-stopped
returns-in-Err-clause-stopped g c before mounted =
    let items = with_items_is c.args.logs c.open_age.new.logs (as_many g c ∙ c.as_mut_slice.ensures.len) in
    rw (items, c.of_unopened.ensures)
    (why_stops g.D.Disk.told g.D.Disk.faults c.args.script.now c.args.part.now before c.args.logs.items
    c.open_age.new.logs c.in-Err.why c.requires.all mounted c.requires.places (why g c))

pub returns-in-Err-clause-lacked : goal.returns-in-Err-clause-lacked
returns-in-Err-clause-lacked g c before mounted same =
    let items = with_items_is c.args.logs c.open_age.new.logs (as_many g c ∙ c.as_mut_slice.ensures.len) in
    rw items (lacked_opening g.D.Disk.told g.D.Disk.faults c.args.script.now c.args.part.now c.args.mode before
    c.args.logs.items c.open_age.new.logs c.in-Err.why c.requires.all mounted c.requires.places
    (why g c) (sym c.of_unopened.ensures ∙ same))

pub returns-in-Err-clause-names : goal.returns-in-Err-clause-names
returns-in-Err-clause-names g c before mounted =
    let items = with_items_is c.args.logs c.open_age.new.logs (as_many g c ∙ c.as_mut_slice.ensures.len) in
    rw (items, c.of_unopened.ensures)
    (why_names g.D.Disk.told g.D.Disk.faults c.args.script.now c.args.part.now.late before c.args.logs.items
    c.open_age.new.logs c.in-Err.why mounted (why g c))

pub returns-in-Err-clause-behind : goal.returns-in-Err-clause-behind
returns-in-Err-clause-behind g c = rw c.of_unopened.ensures (why_behind c.in-Err.why)

pub returns-in-Err-clause-later : goal.returns-in-Err-clause-later
returns-in-Err-clause-later g c =
    let items = with_items_is c.args.logs c.open_age.new.logs (as_many g c ∙ c.as_mut_slice.ensures.len) in
    rw items (gone_on g.D.Disk.told g.D.Disk.faults c.args.script.now c.args.part.now.late c.args.logs.items
    c.open_age.new.logs c.in-Err.why (why g c))

pub returns-in-Err-clause-places : goal.returns-in-Err-clause-places
returns-in-Err-clause-places g c =
    let items = with_items_is c.args.logs c.open_age.new.logs (as_many g c ∙ c.as_mut_slice.ensures.len) in
    rw items (why_places g.D.Disk.told g.D.Disk.faults c.args.script.now c.args.part.now.late c.args.logs.items
    c.open_age.new.logs c.in-Err.why (why g c))

pub returns-in-Err-clause-tried : goal.returns-in-Err-clause-tried
returns-in-Err-clause-tried g c before mounted tell unlike =
    let items = with_items_is c.args.logs c.open_age.new.logs (as_many g c ∙ c.as_mut_slice.ensures.len) in
    rw items (why_tried g.D.Disk.told g.D.Disk.faults c.args.script.now c.args.part.now.missing c.args.part.now.late
    before c.args.logs.items c.open_age.new.logs c.in-Err.why c.requires.ranges.group c.requires.all
    c.requires.places tell mounted (why g c))

-- ---- an age that was played

-- the start was chosen of the logs that came, and the age opened on them
chosen : (g : Over) (c : After-play_age-ended g)
    → IsChosenOf (first_group_of c.args.script.now).opening (contents_of c.args.logs.items) c.in-Ok.start
chosen g c = subst (λ (l : Logs g). IsChosenOf (first_group_of c.args.script.now).opening
    (contents_of l) c.in-Ok.start) c.as_mut_slice.ensures.value c.in-Ok.ensures.chosen

began : (g : Over) (c : After-play_age-ended g)
    → WereOpened g.D.Disk.told g.D.Disk.faults c.in-Ok.start c.args.logs.items c.open_age.new.logs
began g c = subst (λ (l : Logs g). WereOpened g.D.Disk.told g.D.Disk.faults c.in-Ok.start l c.open_age.new.logs)
    c.as_mut_slice.ensures.value c.in-Ok.ensures.opened

-- as many logs came of it
same_logs : (g : Over) (c : After-play_age-ended g) → length c.open_age.new.logs ≡ length c.as_mut_slice.result.now
same_logs g c = (opened_places g.D.Disk.told g.D.Disk.faults c.in-Ok.start c.as_mut_slice.result.now
    c.open_age.new.logs c.in-Ok.ensures.opened).all

-- the opening on them
on : (g : Over) (c : After-play_age-ended g) (before : YardState)
    → AreMounted g.D.Disk.told g.D.Disk.faults before c.args.logs.items
    → IsOpeningOn g.D.Disk.told g.D.Disk.faults c.args.script.now c.args.part.now before c.in-Ok.start c.args.logs.items
on g c before mounted = record {
  all = c.requires.all;
  mounted = mounted;
  but = c.requires.places;
  chosen = chosen g c;
  members = c.in-Ok.ensures.members;
}

pub returns-in-Ok-ended-clause-age : goal.returns-in-Ok-ended-clause-age
returns-in-Ok-ended-clause-age g c before mounted =
    let told = g.D.Disk.told in
    let faults = g.D.Disk.faults in
    let script = c.args.script.now in
    let start = c.in-Ok.start in
    let mids : Logs g = c.open_age.new.logs in
    let news : Logs g = c.play_age-ended.result.1.items in
    let a = (goal.at.returns-in-Ok-ended-clause-age g c).After-play_age-ended in
    let age = c.in-Ok-ended.age in
    is_age told faults script c.args.part.now c.args.mode c.args.nth before start c.args.logs.items mids news age
    c.requires.ranges (on g a before mounted) (began g a)
    (subst (λ (l : Logs g). IsAgeOn (IsPlayed c.args.mode) told faults script start c.args.nth l news age)
    (with_items_is c.args.logs mids (same_logs g a ∙ c.as_mut_slice.ensures.len))
    (ok_at _ c.play_age-ended.result.0 age c.in-Ok-ended.is c.play_age-ended.ensures.age))

pub returns-in-Ok-ended-clause-watched : goal.returns-in-Ok-ended-clause-watched
returns-in-Ok-ended-clause-watched g c =
    let script = c.args.script.now in
    let ended = c.play_age-ended.result.0 in
    let age = c.in-Ok-ended.age in
    let a = (goal.at.returns-in-Ok-ended-clause-watched g c).After-play_age-ended in
    let is = ok_at _ ended age c.in-Ok-ended.is c.play_age-ended.ensures.age in
    subst (λ (start : Start). HasSeen g.W.Watcher.opens g.W.Watcher.sees g.W.Watcher.closes c.args.mode script
    start c.args.nth c.args.watcher.now c.play_age-ended.new.watcher age)
    (same_start c.args.mode script c.args.part.now (contents_of c.args.logs.items) c.in-Ok.start c.args.nth age
    c.requires.ranges.group.lists
    (λ m l. contents_there c.args.logs.items m ∙ c.requires.places m (subst (λ (n : ℕ). m < n) (sym c.requires.all) l))
    (chosen g a) c.in-Ok.ensures.members is.played)
    (ok_at _ ended age c.in-Ok-ended.is c.play_age-ended.ensures.watched)

-- a log is later behind the opening and the age
both : (g : Over) (c : After-play_age-ended g) → HaveGoneOn g.D.Disk.told g.D.Disk.faults c.args.script.now
    (contents_of c.args.logs.items) c.args.logs.items c.play_age-ended.result.1.items
both g c =
    let told = g.D.Disk.told in
    let faults = g.D.Disk.faults in
    let start = c.in-Ok.start in
    let starts = start.entries ∷ [] in
    let same = with_items_is c.args.logs c.open_age.new.logs (same_logs g c ∙ c.as_mut_slice.ensures.len) in
    let news : Logs g = c.play_age-ended.result.1.items in (
      starts,
      inr (start, chosen g c, refl),
      later_on told faults starts c.args.logs.items c.open_age.new.logs news
          (opened_places told faults start c.args.logs.items c.open_age.new.logs (began g c))
          (opened_on told faults start c.args.logs.items c.open_age.new.logs (began g c))
          (λ m old new there here. later_by_all told faults starts old new
          (subst (λ (l : Logs g). AreLater told faults [] l news) same c.play_age-ended.ensures.later m old new there
          here)),
    )

-- in the same places
same_places : (g : Over) (c : After-play_age-ended g)
    → HaveSamePlaces c.args.logs.items c.play_age-ended.result.1.items
same_places g c =
    let same = with_items_is c.args.logs c.open_age.new.logs (same_logs g c ∙ c.as_mut_slice.ensures.len) in
    places_both c.args.logs.items c.open_age.new.logs c.play_age-ended.result.1.items
    (opened_places g.D.Disk.told g.D.Disk.faults c.in-Ok.start c.args.logs.items c.open_age.new.logs (began g c))
    (subst (λ (l : Logs g). HaveSamePlaces l c.play_age-ended.result.1.items) same c.play_age-ended.ensures.places)

pub returns-in-Ok-ended-clause-later : goal.returns-in-Ok-ended-clause-later
returns-in-Ok-ended-clause-later g c = both g (goal.at.returns-in-Ok-ended-clause-later g c).After-play_age-ended

pub returns-clause-later : goal.returns-clause-later
returns-clause-later g c = both g (goal.at.returns-clause-later g c).After-play_age-ended

pub returns-in-Ok-ended-clause-places : goal.returns-in-Ok-ended-clause-places
returns-in-Ok-ended-clause-places g c =
    same_places g (goal.at.returns-in-Ok-ended-clause-places g c).After-play_age-ended

pub returns-clause-places : goal.returns-clause-places
returns-clause-places g c = same_places g (goal.at.returns-clause-places g c).After-play_age-ended

-- no end of it is told, as memory was wanting
pub returns-clause-lacked : goal.returns-clause-lacked
returns-clause-lacked g c before mounted same =
    let told = g.D.Disk.told in
    let faults = g.D.Disk.faults in
    let script = c.args.script.now in
    let start = c.in-Ok.start in
    let olds : Logs g = c.args.logs.items in
    let mids : Logs g = c.open_age.new.logs in
    let news : Logs g = c.play_age-ended.result.1.items in
    let a = (goal.at.returns-clause-lacked g c).After-play_age-ended in
    let items = with_items_is c.args.logs mids (same_logs g a ∙ c.as_mut_slice.ensures.len) in
    lacked_age told faults script c.args.part.now c.args.mode before start olds mids news (on g a before mounted)
    (began g a) (subst (λ (l : Logs g). AreLater told faults [] l news) items c.play_age-ended.ensures.later)
    (subst (λ (l : Logs g). HaveSamePlaces l news) items c.play_age-ended.ensures.places)
    (err_at _ c.play_age-ended.result.0 _ c.in-Err-ended.is
    (subst (λ (l : Logs g). OnErr c.play_age-ended.result.0 (c.args.mode ≡ Sim
    → AreAsBefore l news × AreCalm told faults l news)) items c.play_age-ended.ensures.still))
