use Rattle.std.{specs.Prelude.{None, slice_index_or}, proofs.Common.{◌≡◌, ◌<◌, ap, ap₂, length, ltb-true, sym, ◌∙◌}}
use Rattle.std.proofs.lemmas.List.{get_or_default}
use Rattle.dr_entry.specs.declared.entry.Entry.TheVariants.{View}
use Rattle.dr_entry.specs.declared.record.Record.TheVariants as records
use Rattle.dr_machine.specs.declared.step.Step.TheVariants as steps
use Rattle.dr_program.specs.declared.deed.Deed.TheVariants as deeds
use Rattle.dr_program.specs.{Replica.value_due, Running.{Running, deed, deed_of, next_deed, next_step}}
use Rattle.dr_program.proofs.RunningPrograms.{allowed_inside}
use Rattle.dr_member.{specs.{Deeds.appended_entry, Inside.member_inside, Search.step_by}, proofs.Dues.no_entry}
use Rattle.dr_member.proofs.member.Member.next_entry.Goals as goal

pub returns-in-Append : goal.returns-in-Append
returns-in-Append c =
    let r = member_inside c.self.inside in
    let none : r.replica.end ≡ None = ap (λ (x : Running). x.replica.end) c.self.view_is ∙ c.requires.going in
    let step : steps.Append ≡ next_step r = ap (λ d. step_by d c.self.inside.place (value_due c.self.inside.replica))
    (sym c.in-Append.is) ∙ c.due_at.ensures in
    let within : r.replica.logged < length r.replica.history = ltb-true r.replica.logged (length r.replica.history)
    (allowed_inside r c.self.invariant.form none steps.Append (sym step)) in
    let entry = c.index-history-logged.result in
    let there = c.index-history-logged.is ∙ ap₂ (λ xs i. slice_index_or xs i entry) c.history.ensures c.logged.ensures
    ∙ get_or_default r.replica.history r.replica.logged entry (View 0 0 0) within in
    ap appended_entry (ap (λ e. deeds.Append (records.Entry e)) there ∙ ap (deed_of r) step ∙ ap (deed r) (sym none)
    ∙ ap next_deed c.self.view_is)

pub returns-in_default : goal.returns-in_default
returns-in_default c =
    let none : c.self.inside.replica.end ≡ None =
    ap (λ (r : Running). r.replica.end) c.self.view_is ∙ c.requires.going in
    no_entry (member_inside c.self.inside) c.due_at.result c.self.inside.place (value_due c.self.inside.replica) none
    c.due_at.ensures c.in_default.not-Append ∙ ap (λ (r : Running). appended_entry (next_deed r)) c.self.view_is
