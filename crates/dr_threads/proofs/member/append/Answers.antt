use Rattle.std.{specs.Prelude.None, proofs.Common.{refl, sym, subst, ◌≡◌, true}}
use Rattle.dr_served.specs.{Appended.{HasAppended, HasBroken, IsOver}, Served.{HasServed, AppendsWell, IsReady}}
use Rattle.dr_served.proofs.{Appends.failed_due, Serving.{appended_ready, appended_served, failed_ready}}
use Rattle.dr_program.specs.{Form.IsRunningMember, Running.{after_step, broken_off, next_deed, Running}}
use Rattle.dr_program.proofs.{Fixed.after_told, RunningPrograms.deed_due}
use Rattle.dr_play.proofs.Deeds.{due_now}
use Rattle.dr_member.specs.Deeds.{is_append}
use Rattle.dr_table.proofs.{Cards.reached_form, Deeds.same_number}
use Rattle.dr_threads.{specs.Course.HasGone, proofs.Runs.reached_well}
use Rattle.dr_threads.proofs.member.append.Goals as goal

pub append_due-requires-clause-due : goal.append_due-requires-clause-due
append_due-requires-clause-due g c = λ κs within.
    subst (λ (r : Running). is_append (next_deed r) ≡ true) (sym c.member.ensures.member) c.requires.deed

pub append_due-requires-clause-going : goal.append_due-requires-clause-going
append_due-requires-clause-going g c = λ κs within.
    subst (λ (r : Running). r.replica.end ≡ None) (sym c.member.ensures.member)
    (deed_due is_append (λ end. refl) c.args.seated.now.member c.requires.deed).0

pub append_due-requires-clause-form : goal.append_due-requires-clause-form
append_due-requires-clause-form g c = λ κs within. subst IsRunningMember (sym c.member.ensures.member)
    (reached_form c.args.seated.now.member c.member.ensures.reached)

pub append_due-requires-clause-appends : goal.append_due-requires-clause-appends
append_due-requires-clause-appends g c = λ κs within. subst AppendsWell (sym c.member.ensures.member)
    (reached_well c.args.seated.now.member c.member.ensures.reached)

pub append_due-requires-clause-ready : goal.append_due-requires-clause-ready
append_due-requires-clause-ready g c = λ κs within.
    subst (IsReady c.args.log.now) (sym c.member.ensures.member) c.requires.ready

pub returns-in-Ok-clause-gone : goal.returns-in-Ok-clause-gone
returns-in-Ok-clause-gone g c =
    let r = c.args.seated.now.member in
    let due = due_now r (reached_form r c.member.ensures.reached) c.requires.deed in
    let log = c.args.log.now in
    let new = c.append_due.new.log in
    let did = subst (HasAppended g.D.Disk.told g.D.Disk.faults log new) c.member.ensures.member c.in-Ok.ensures.ok in
    subst (λ q. HasGone g.D.Disk.told g.D.Disk.faults r log q new) (sym c.appended.ensures.member) (record {
      same = same_number r (after_step 0 r) (after_told 0 r);
      ready = λ ready. appended_ready log new 0 r due ready did.made;
      served = λ base served. appended_served _ _ base log new 0 r due.due served did.made did.fits did.goes
          did.lasting did.safe did.calm;
    })

pub returns-in-Err-clause-gone : goal.returns-in-Err-clause-gone
returns-in-Err-clause-gone g c =
    let r = c.args.seated.now.member in
    let due = due_now r (reached_form r c.member.ensures.reached) c.requires.deed in
    let log = c.args.log.now in
    let new = c.append_due.new.log in
    subst (λ q. HasGone g.D.Disk.told g.D.Disk.faults r log q new) (sym c.append_failed.ensures.member) (record {
      same = refl;
      ready = λ ready. failed_ready new c.why_of.result r;
      served = λ base served. subst (λ why. HasServed g.D.Disk.told g.D.Disk.faults base new (broken_off why r))
          (sym c.why_of.ensures) (failed_due _ _ _ base log new r c.in-Err.fault due
          (λ is. subst (HasBroken g.D.Disk.told g.D.Disk.faults log new) c.member.ensures.member
          (c.in-Err.ensures.fault is)) (λ len is. let full = c.in-Err.ensures.full len is in
          (full.0, subst (IsOver log len) c.member.ensures.member full.1)) served);
    })
