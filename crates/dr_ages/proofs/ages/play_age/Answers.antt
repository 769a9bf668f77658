use Rattle.std.proofs.{Common.{◌∙◌, subst, sym, List, Option, refl}, lemmas.List.with_items_is}
use Rattle.dr_play.specs.Logged.{AreOpened}
use Rattle.dr_log.specs.State.{LogState}
use Rattle.dr_restart.specs.Groups.{group_of}
use Rattle.dr_ages.specs.declared.mode.Mode.TheVariants.{Sim, Run}
use Rattle.dr_ages.proofs.Played.{later_by_longer, later_by_result, later_by_run, still_by_result}
use Rattle.dr_ages.proofs.ages.play_age.Goals as goal

pub returns-in-Sim-clause-age : goal.returns-in-Sim-clause-age
returns-in-Sim-clause-age g c =
    let items = with_items_is c.args.logs c.watch_age.new.logs
    (c.watch_age.ensures.places.all ∙ c.as_mut_slice.ensures.len) in
    rw (c.in-Sim.is, items, ← c.as_mut_slice.ensures.value) c.watch_age.ensures.age

pub returns-in-Ok-clause-age : goal.returns-in-Ok-clause-age
returns-in-Ok-clause-age g c = rw c.in-Run.is c.in-Ok.ensures.age

pub returns-in-Sim-clause-watched : goal.returns-in-Sim-clause-watched
returns-in-Sim-clause-watched g c = rw c.in-Sim.is c.watch_age.ensures.watched

pub returns-in-Ok-clause-watched : goal.returns-in-Ok-clause-watched
returns-in-Ok-clause-watched g c = rw c.in-Run.is refl

pub returns-in-Sim-clause-later : goal.returns-in-Sim-clause-later
returns-in-Sim-clause-later g c =
    let items = with_items_is c.args.logs c.watch_age.new.logs
    (c.watch_age.ensures.places.all ∙ c.as_mut_slice.ensures.len) in
    let opened = subst (λ (l : List (Option (LogState g.row.D.Denot))).
    AreOpened (group_of c.args.script.now c.args.start.now) l) (sym c.as_mut_slice.ensures.value) c.requires.logs in
    rw (items, ← c.as_mut_slice.ensures.value)
    (later_by_result g.D.Disk.told g.D.Disk.faults c.args.script.now c.args.start.now c.args.nth Sim
    c.as_mut_slice.result.now c.watch_age.new.logs c.watch_age.result c.requires.ranges c.requires.group opened
    c.watch_age.ensures.age c.watch_age.ensures.kept c.watch_age.ensures.calm)

pub returns-in-Sim-clause-still : goal.returns-in-Sim-clause-still
returns-in-Sim-clause-still g c =
    let items = with_items_is c.args.logs c.watch_age.new.logs
    (c.watch_age.ensures.places.all ∙ c.as_mut_slice.ensures.len) in
    rw (items, ← c.as_mut_slice.ensures.value)
    (still_by_result g.D.Disk.told g.D.Disk.faults c.args.mode c.as_mut_slice.result.now c.watch_age.new.logs
    c.watch_age.result c.watch_age.ensures.kept c.watch_age.ensures.calm)

pub returns-in-Err-clause-still : goal.returns-in-Err-clause-still
returns-in-Err-clause-still g c simulated = absurd (cc (simulated, c.in-Run.is))

pub returns-in-Sim-clause-places : goal.returns-in-Sim-clause-places
returns-in-Sim-clause-places g c =
    let items = with_items_is c.args.logs c.watch_age.new.logs
    (c.watch_age.ensures.places.all ∙ c.as_mut_slice.ensures.len) in
    rw (items, ← c.as_mut_slice.ensures.value) c.watch_age.ensures.places

pub returns-in-Ok-clause-places : goal.returns-in-Ok-clause-places
returns-in-Ok-clause-places g c = c.in-Ok.ensures.age.places

pub returns-in-Err-clause-places : goal.returns-in-Err-clause-places
returns-in-Err-clause-places g c = c.in-Err.ensures.logs.places

pub returns-in-Ok-clause-later : goal.returns-in-Ok-clause-later
returns-in-Ok-clause-later g c =
    later_by_run g.D.Disk.told g.D.Disk.faults c.args.script.now c.args.start.now c.args.nth c.in-Ok.age Run
    c.args.logs.items c.in-Ok.logs.items c.requires.ranges c.requires.group c.requires.logs c.in-Ok.ensures.age

pub returns-in-Err-clause-later : goal.returns-in-Err-clause-later
returns-in-Err-clause-later g c =
    later_by_longer g.D.Disk.told g.D.Disk.faults c.args.logs.items c.in-Err.logs.items c.in-Err.ensures.logs
