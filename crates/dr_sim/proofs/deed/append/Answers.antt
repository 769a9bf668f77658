use Rattle.std.proofs.{Common.{refl, sym, ap, ◌∙◌, subst}, lemmas.Option.same_Some}
use Rattle.dr_program.specs.Running.{broken_off, next_deed}
use Rattle.dr_served.{specs.Served.{HasServed, IsReady}, proofs.Appends.failed_due}
use Rattle.dr_served.proofs.Serving.{appended_ready, appended_served, failed_ready}
use Rattle.dr_member.proofs.Deeds.{an_append}
use Rattle.dr_play.proofs.Deeds.{due_now}
use Rattle.dr_sim.proofs.{Deeds.{append_taken, failure_taken}, Places.{here_ready, no_ready}}
use Rattle.dr_sim.proofs.deed.append.Goals as goal

pub unreachable-requires : goal.unreachable-requires
unreachable-requires g c = no_ready c.args.place.now c.args.member.now c.in_default.is c.requires.ready

pub append_due-requires-clause-ready : goal.append_due-requires-clause-ready
append_due-requires-clause-ready g c = λ κs within.
    here_ready c.args.place.now c.in-Some.log c.args.member.now c.in-Some.is c.requires.ready

pub returns-in-Ok-clause-taken : goal.returns-in-Ok-clause-taken
returns-in-Ok-clause-taken g c = λ table posts. append_taken table posts c.args.member.now _ c.appended.new.self
    (an_append (next_deed c.args.member.now) c.requires.due).1 c.appended.ensures.after

pub returns-in-Ok-clause-ready : goal.returns-in-Ok-clause-ready
returns-in-Ok-clause-ready g c =
    let due = due_now c.args.member.now c.requires.form c.requires.due in (
      c.append_due.new.log,
      refl,
      subst (IsReady c.append_due.new.log) (sym (c.appended.ensures.after 0))
          (appended_ready c.in-Some.log c.append_due.new.log 0 c.args.member.now due (here_ready c.args.place.now
          c.in-Some.log c.args.member.now c.in-Some.is c.requires.ready) c.in-Ok.ensures.ok.made),
    )

pub returns-in-Ok-clause-served : goal.returns-in-Ok-clause-served
returns-in-Ok-clause-served g c = λ base served new there.
    let due = due_now c.args.member.now c.requires.form c.requires.due in
    let did = c.in-Ok.ensures.ok in
    subst (λ log. HasServed g.D.Disk.told g.D.Disk.faults base log c.appended.new.self) (same_Some _ new there)
    (subst (HasServed g.D.Disk.told g.D.Disk.faults base c.append_due.new.log) (sym (c.appended.ensures.after 0))
    (appended_served _ _ base c.in-Some.log c.append_due.new.log 0 c.args.member.now due.due
    (served c.in-Some.log c.in-Some.is) did.made did.fits did.goes did.lasting did.safe did.calm))

pub returns-in-Err-clause-taken : goal.returns-in-Err-clause-taken
returns-in-Err-clause-taken g c = λ table posts.
    failure_taken table posts c.args.member.now _ _ c.append_failed.new.self
    (an_append (next_deed c.args.member.now) c.requires.due).1 c.append_failed.ensures.after

pub returns-in-Err-clause-ready : goal.returns-in-Err-clause-ready
returns-in-Err-clause-ready g c = (
  c.append_due.new.log,
  refl,
  subst (IsReady c.append_due.new.log) (sym c.append_failed.ensures.after)
      (failed_ready c.append_due.new.log _ c.args.member.now),
)

pub returns-in-Err-clause-served : goal.returns-in-Err-clause-served
returns-in-Err-clause-served g c = λ base served new there.
    let due = due_now c.args.member.now c.requires.form c.requires.due in
    subst (λ log. HasServed g.D.Disk.told g.D.Disk.faults base log c.append_failed.new.self) (same_Some _ new there)
    (subst (HasServed g.D.Disk.told g.D.Disk.faults base c.append_due.new.log)
    (sym (c.append_failed.ensures.after ∙ ap (λ why. broken_off why c.args.member.now) c.why_of.ensures))
    (failed_due _ _ _ base c.in-Some.log c.append_due.new.log c.args.member.now c.in-Err.fault due
    c.in-Err.ensures.fault c.in-Err.ensures.full (served c.in-Some.log c.in-Some.is)))
