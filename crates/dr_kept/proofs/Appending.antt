-- A member an append of which has begun: what it may bring.
use Rattle.std.proofs.{Common.{◌≡◌, refl, sym, subst, ◌<◌, arith, true, inl, inr, length}, lemmas.Bool.and_parts}
use Rattle.std.proofs.lemmas.{Bool.Decides.nat_tests, Option.slice_get-get_or}
use Rattle.dr_entry.specs.{declared.entry.Entry.TheVariants.View, declared.record.Record.Record}
use Rattle.dr_entry.specs.declared.record.Record.TheVariants as records
use Rattle.dr_served.{specs.Served.IsRecordDue, proofs.Served.{IsAppendOf, IsToAppend, to_append}}
use Rattle.dr_machine.specs.declared.step.Step.{Step}
use Rattle.dr_machine.specs.declared.step.Step.TheVariants as steps
use Rattle.dr_program.{specs.{Form.IsRunningMember, Steps.allows, Turn.part_of}, proofs.Replicas.MayCome}
use Rattle.dr_program.specs.{Replica.{may_append, may_vote, value_due}, Running.{Running, asks, next_step}}
use Rattle.dr_kept.specs.Leaving.{HasBegunAppend}

pub may_come : (r : Running) (next : Record) → IsRunningMember r → HasBegunAppend r next → MayCome r.replica next
may_come r next form (inl due) = by (next_step r) allowed at.step
  where
    at : IsToAppend r next
    at = to_append r next due

    allowed : allows r.replica (next_step r) ≡ true
    allowed = (and_parts (asks r (part_of r.place) r.place.row r.place.column) _ (form.due at.none)).1

    by : (s : Step) → allows r.replica s ≡ true → IsAppendOf r s next → MayCome r.replica next
    by steps.Append may is =
        let more : r.replica.logged < length r.replica.history =
        grind (arith, nat_tests, (and_parts _ (may_append r.replica) may).1) in
        subst (MayCome r.replica) (sym is) (slice_get-get_or r.replica.history r.replica.logged (View 0 0 0) more)
    by (steps.LogVote v) may is =
        subst (MayCome r.replica) (sym is) (v, (and_parts _ (may_vote r.replica v) may).1, refl)
    by s may is = absurd is
may_come r next form (inr had) = by next had.1
  where
    by : (x : Record) → IsRecordDue r.replica x → MayCome r.replica x
    by (records.Entry e) due = due
    by (records.Vote v) due = (value_due r.replica, due.may, due.is)
    by (records.AgeVote v) due = absurd due
    by (records.Cut keep) due = absurd due
    by records.Upgrade due = absurd due
