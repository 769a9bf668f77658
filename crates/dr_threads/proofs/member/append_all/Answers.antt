use Rattle.std.{specs.Prelude.{All, None}, proofs.Common.{refl, sym, ap, ◌∙◌, subst, ◌≡◌, true}}
use Rattle.dr_entry.specs.Spelling.{IsValidEntry}
use Rattle.dr_machine.specs.declared.step.Step.TheVariants.{Append}
use Rattle.dr_member.specs.Deeds.{is_append}
use Rattle.dr_play.proofs.{Deeds.due_now, Persisting.{all_logged, is_persisted}}
use Rattle.dr_program.specs.{Form.IsRunningMember, Running.{Running, next_deed, next_step}, Steps.IsAppend}
use Rattle.dr_program.proofs.RunningPrograms.{deed_due}
use Rattle.dr_served.specs.{Appended.{HasAppendedAll, HasBrokenAll}, Served.IsReady}
use Rattle.dr_served.proofs.{Grouped.{all_failed, all_ready, all_served}, Serving.failed_ready}
use Rattle.dr_table.proofs.{Cards.{reached_entries, reached_form}, Deeds.same_number}
use Rattle.dr_threads.specs.Course.{HasGone}
use Rattle.dr_threads.proofs.member.append_all.Goals as goal

pub append_together-requires-clause-going : goal.append_together-requires-clause-going
append_together-requires-clause-going g c = λ κs within.
    subst (λ (r : Running). r.replica.end ≡ None) (sym c.member.ensures.member)
    (deed_due is_append (λ end. refl) c.args.seated.now.member c.requires.deed).0

pub append_together-requires-clause-form : goal.append_together-requires-clause-form
append_together-requires-clause-form g c = λ κs within. subst IsRunningMember (sym c.member.ensures.member)
    (reached_form c.args.seated.now.member c.member.ensures.reached)

pub append_together-requires-clause-valid : goal.append_together-requires-clause-valid
append_together-requires-clause-valid g c = λ κs within.
    subst (λ (r : Running). All IsValidEntry r.replica.history) (sym c.member.ensures.member)
    (reached_entries c.args.seated.now.member c.member.ensures.reached)

pub append_together-requires-clause-ready : goal.append_together-requires-clause-ready
append_together-requires-clause-ready g c = λ κs within.
    subst (IsReady c.args.log.now) (sym c.member.ensures.member) c.requires.ready

pub persist-requires-clause-going : goal.persist-requires-clause-going
persist-requires-clause-going g c = (deed_due is_append (λ end. refl) c.args.seated.now.member c.requires.deed).0

pub persist-requires-clause-due : goal.persist-requires-clause-due
persist-requires-clause-due g c = subst (λ (r : Running). next_step r ≡ Append) c.member.ensures.member
    (c.in-Appended.ensures.due (λ e. cc (e)))

pub returns-in-Appended-clause-gone : goal.returns-in-Appended-clause-gone
returns-in-Appended-clause-gone g c =
    let r = c.args.seated.now.member in
    let q = c.persist.new.seated.member in
    let log = c.args.log.now in
    let new = c.append_together.new.log in
    let form = reached_form r c.member.ensures.reached in
    let due = due_now r form c.requires.deed in
    let is = subst (λ (x : Running). next_step x ≡ Append) c.member.ensures.member
    (c.in-Appended.ensures.due (λ e. cc (e))) in
    let did = subst (HasAppendedAll g.D.Disk.told g.D.Disk.faults log new) c.member.ensures.member
    (c.in-Appended.ensures.appended refl) in
    let now = all_logged r q form.replica (subst IsAppend (sym is) tt) c.persist.ensures.persisted in
    record {
      same = same_number r q (is_persisted _ r q c.persist.ensures.persisted).same;
      ready = λ ready. all_ready _ _ log new r q due is did now ready;
      served = λ base served. all_served _ _ base log new r q due.due did now served;
    }

pub returns-in-Failed-clause-gone : goal.returns-in-Failed-clause-gone
returns-in-Failed-clause-gone g c =
    let r = c.args.seated.now.member in
    let log = c.args.log.now in
    let new = c.append_together.new.log in
    let due = due_now r (reached_form r c.member.ensures.reached) c.requires.deed in
    subst (λ q. HasGone g.D.Disk.told g.D.Disk.faults r log q new) (sym c.append_failed.ensures.member) (record {
      same = refl;
      ready = λ ready. failed_ready new _ r;
      served = λ base served. all_failed _ _ base log new r due.due
          (subst (HasBrokenAll g.D.Disk.told g.D.Disk.faults log new) c.member.ensures.member
          (c.in-Failed.ensures.failed refl)) served;
    })

pub append-requires-clause-ready : goal.append-requires-clause-ready
append-requires-clause-ready g c = λ κs within.
    subst (λ log. IsReady log c.args.seated.now.member) (sym (c.in-Apart.ensures.apart refl)) c.requires.ready

pub returns-in-Apart-clause-gone : goal.returns-in-Apart-clause-gone
returns-in-Apart-clause-gone g c =
    subst (λ log. HasGone g.D.Disk.told g.D.Disk.faults c.args.seated.now.member log c.append.new.seated.member
    c.append.new.log) (c.in-Apart.ensures.apart refl) c.append.ensures.gone
