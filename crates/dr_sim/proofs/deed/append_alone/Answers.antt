use Rattle.std.{specs.Prelude.Some, proofs.{Common.{refl, sym, ◌∙◌, subst, inl, inr, ◌≡◌, ◌<◌, arith, length}, lemmas.{List.length-drop, Option.same_Some}}}
use Rattle.dr_machine.specs.declared.step.Step.TheVariants.{Append}
use Rattle.dr_member.proofs.Deeds.{an_append}
use Rattle.dr_play.proofs.{Deeds.due_now, Persisting.all_logged}
use Rattle.dr_program.specs.{Running.{next_deed, next_step}, Steps.IsAppend}
use Rattle.dr_served.specs.{Appended.{HasLoggedAll, MayLog}, Served.{HasServed, IsReady, entries_due}}
use Rattle.dr_served.proofs.{Grouped.{all_failed, all_ready, all_served}, Serving.failed_ready}
use Rattle.dr_sim.{specs.Places.HasServedAt, proofs.{Deeds.failure_taken, Places.{here_ready, no_ready}}}
use Rattle.dr_sim.proofs.deed.append_alone.Goals as goal

pub unreachable-requires : goal.unreachable-requires
unreachable-requires g c = no_ready c.args.place.now c.args.member.now c.in_default.is c.requires.ready

pub append_together-requires-clause-ready : goal.append_together-requires-clause-ready
append_together-requires-clause-ready g c = λ κs within.
    here_ready c.args.place.now c.in-Some.log c.args.member.now c.in-Some.is c.requires.ready

pub persist-requires-clause-due : goal.persist-requires-clause-due
persist-requires-clause-due g c = c.in-Appended.ensures.due (λ e. cc (e))

pub returns-in-Appended-clause-goes : goal.returns-in-Appended-clause-goes
returns-in-Appended-clause-goes g c = λ posts.
    let r = c.args.member.now in
    let due = due_now r c.requires.form c.requires.due in
    let may = subst (MayLog r) (c.in-Appended.ensures.due (λ e. cc (e))) due.due in
    inr (
      length (entries_due r.replica),
      omega (arith, may, length-drop r.replica.logged r.replica.history),
      c.persist.ensures.persisted,
      c.persist.ensures.words,
    )

pub returns-in-Appended-clause-ready : goal.returns-in-Appended-clause-ready
returns-in-Appended-clause-ready g c =
    let r = c.args.member.now in
    let is : next_step r ≡ Append = c.in-Appended.ensures.due (λ e. cc (e)) in (
      c.append_together.new.log,
      refl,
      all_ready g.D.Disk.told g.D.Disk.faults c.in-Some.log c.append_together.new.log r c.persist.new.member
          (due_now r c.requires.form c.requires.due) is (c.in-Appended.ensures.appended refl)
          (all_logged r c.persist.new.member c.requires.form.replica (subst IsAppend (sym is) tt)
          c.persist.ensures.persisted)
          (here_ready c.args.place.now c.in-Some.log r c.in-Some.is c.requires.ready),
    )

pub returns-in-Appended-clause-served : goal.returns-in-Appended-clause-served
returns-in-Appended-clause-served g c = λ base served new there.
    let r = c.args.member.now in
    let is : next_step r ≡ Append = c.in-Appended.ensures.due (λ e. cc (e)) in
    subst (λ log. HasServed g.D.Disk.told g.D.Disk.faults base log c.persist.new.member) (same_Some _ new there)
    (all_served g.D.Disk.told g.D.Disk.faults base c.in-Some.log c.append_together.new.log r c.persist.new.member
    (due_now r c.requires.form c.requires.due).due (c.in-Appended.ensures.appended refl)
    (all_logged r c.persist.new.member c.requires.form.replica (subst IsAppend (sym is) tt)
    c.persist.ensures.persisted) (served c.in-Some.log c.in-Some.is))

pub returns-in-Failed-clause-goes : goal.returns-in-Failed-clause-goes
returns-in-Failed-clause-goes g c = λ posts.
    inl (failure_taken c.args.table.now posts c.args.member.now _ _ c.append_failed.new.self
    (an_append (next_deed c.args.member.now) c.requires.due).1 c.append_failed.ensures.after)

pub returns-in-Failed-clause-ready : goal.returns-in-Failed-clause-ready
returns-in-Failed-clause-ready g c = (
  c.append_together.new.log,
  refl,
  subst (IsReady c.append_together.new.log) (sym c.append_failed.ensures.after)
      (failed_ready c.append_together.new.log _ c.args.member.now),
)

pub returns-in-Failed-clause-served : goal.returns-in-Failed-clause-served
returns-in-Failed-clause-served g c = λ base served new there.
    subst (λ log. HasServed g.D.Disk.told g.D.Disk.faults base log c.append_failed.new.self) (same_Some _ new there)
    (subst (HasServed g.D.Disk.told g.D.Disk.faults base c.append_together.new.log)
    (sym c.append_failed.ensures.after)
    (all_failed g.D.Disk.told g.D.Disk.faults base c.in-Some.log c.append_together.new.log c.args.member.now
    (due_now c.args.member.now c.requires.form c.requires.due).due (c.in-Failed.ensures.failed refl)
    (served c.in-Some.log c.in-Some.is)))

pub append-requires-clause-ready : goal.append-requires-clause-ready
append-requires-clause-ready g c = λ κs within. (
  c.append_together.new.log,
  refl,
  subst (λ log. IsReady log c.args.member.now) (sym (c.in-Apart.ensures.apart refl))
      (here_ready c.args.place.now c.in-Some.log c.args.member.now c.in-Some.is c.requires.ready),
)

pub returns-in-Apart-clause-goes : goal.returns-in-Apart-clause-goes
returns-in-Apart-clause-goes g c = λ posts. inl (c.append.ensures.taken c.args.table.now posts)

pub returns-in-Apart-clause-served : goal.returns-in-Apart-clause-served
returns-in-Apart-clause-served g c = λ base served. c.append.ensures.served base
    (λ log at. subst (λ l. HasServed g.D.Disk.told g.D.Disk.faults base l c.args.member.now)
    (sym (c.in-Apart.ensures.apart refl) ∙ same_Some _ log at) (served c.in-Some.log c.in-Some.is))
