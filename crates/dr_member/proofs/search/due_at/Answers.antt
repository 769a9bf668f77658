use Rattle.std.proofs.Common.{◌≡◌, sym, ap, ◌∙◌, true, false}
use Rattle.dr_machine.specs.declared.step.Step.TheVariants.{Do}
use Rattle.dr_program.{specs.Replica.value_due, proofs.Parts.unless_failed}
use Rattle.dr_program.specs.Running.{append_or_end, crashes_now, push_or_crash, step_at, vote_or_end}
use Rattle.dr_member.specs.{Search.{standing, step_by}, declared.search.Due.Due}
use Rattle.dr_member.proofs.search.due_at.Goals as goal

pub returns-in-Push : goal.returns-in-Push
returns-in-Push c =
    let r = standing c.args.replica.now c.args.fate.now c.args.place in
    let now : crashes_now r ≡ true = cc (c.crashes_now.ensures c.args.replica.now c.args.place c.requires.fate) in
    ap (λ b. push_or_crash b c.args.place.row c.args.place.column) (sym now)
    ∙ ap (λ x. step_at r x c.args.place.row c.args.place.column) (sym c.in-Push.is ∙ c.part_of.ensures)

pub returns-in-Push-2 : goal.returns-in-Push-2
returns-in-Push-2 c =
    let r = standing c.args.replica.now c.args.fate.now c.args.place in
    let later : crashes_now r ≡ false = cc (c.crashes_now.ensures c.args.replica.now c.args.place c.requires.fate) in
    ap (λ b. push_or_crash b c.args.place.row c.args.place.column) (sym later)
    ∙ ap (λ x. step_at r x c.args.place.row c.args.place.column) (sym c.in-Push-2.is ∙ c.part_of.ensures)

pub returns-in-Judge : goal.returns-in-Judge
returns-in-Judge c =
    let r = standing c.args.replica.now c.args.fate.now c.args.place in
    ap Do (c.judged.ensures c.args.place)
    ∙ ap (λ x. step_at r x c.args.place.row c.args.place.column) (sym c.in-Judge.is ∙ c.part_of.ensures)

pub returns-in-Append : goal.returns-in-Append
returns-in-Append c =
    let r = standing c.args.replica.now c.args.fate.now c.args.place in
    let step = λ (d : Due). step_by d c.args.place (value_due r.replica) in
    unless_failed append_or_end r.failed _ (λ e. ap step (c.unless_failed.ensures.none e))
    (λ why e. ap step (c.unless_failed.ensures.some why e))
    ∙ ap (λ x. step_at r x c.args.place.row c.args.place.column) (sym c.in-Append.is ∙ c.part_of.ensures)

pub returns-in-Vote : goal.returns-in-Vote
returns-in-Vote c =
    let r = standing c.args.replica.now c.args.fate.now c.args.place in
    let step = λ (d : Due). step_by d c.args.place (value_due r.replica) in
    unless_failed (λ o. vote_or_end o (value_due r.replica)) r.failed _ (λ e. ap step
    (c.unless_failed-in-Vote.ensures.none e)) (λ why e. ap step (c.unless_failed-in-Vote.ensures.some why e))
    ∙ ap (λ x. step_at r x c.args.place.row c.args.place.column) (sym c.in-Vote.is ∙ c.part_of.ensures)
