use Rattle.std.proofs.Common.{◌≡◌, ◌∙◌, ℕ, List, IfOk, IfSome, Option, Some, map, string_bytes, subst, sym}
use Rattle.dr_intake.specs.{Answer.IsUnread, declared.answer.Answer.Answer}
use Rattle.dr_intake.proofs.Answers.{done_if, unread_if, unread_told}
use Rattle.dr_script.specs.Reading.{reading_of}
use Rattle.dr_tools.specs.{SweepAnswer.{IsSaidFor, sweep_usage}, SweepWords.{AreFit, task_in}}
use Rattle.dr_tools.specs.declared.sweeps.words.Task.{Task}
use Rattle.dr_tools.proofs.sweeps.top.answer_to.Goals as goal

pub answer_for-requires-clause-fit : goal.answer_for-requires-clause-fit
answer_for-requires-clause-fit g c κs h = subst (λ (t : Option Task). IfSome t
    (λ (task : Task). AreFit task.runs)) c.in-Ok.ensures.asked c.in_ok-task.ensures.fit

pub returns-in-Ok-clause-answer : goal.returns-in-Ok-clause-answer
returns-in-Ok-clause-answer g c =
    let asked : task_in (map string_bytes c.args.words.now) ≡ Some c.in-Ok.task =
    sym c.in_ok-task.ensures.task ∙ c.in-Ok.ensures.asked in
    done_if sweep_usage
    (λ task bytes said. IsSaidFor task (reading_of bytes) said) (task_in (map string_bytes c.args.words.now))
    (g.S.Source.left c.args.source.now) (g.S.Source.left c.read_for.new.source) (g.S.Source.faults c.args.source.now)
    (g.S.Source.faults c.read_for.new.source) c.answer_for.result c.in-Ok.task c.in-Ok.bytes.items asked
    c.in-Ok.ensures.bytes (subst (λ (l : List ℕ). IfOk c.answer_for.result
    (λ (a : Answer). IsSaidFor c.in-Ok.task (reading_of l) (string_bytes a.text, a.status)))
    c.deref.ensures.value c.answer_for.ensures.answer)

pub returns-in-Err-clause-answer : goal.returns-in-Err-clause-answer
returns-in-Err-clause-answer g c =
    let old = g.S.Source.left c.args.source.now in
    let new = g.S.Source.left c.read_for.new.source in
    let failed = g.S.Source.faults c.args.source.now in
    let fails = g.S.Source.faults c.read_for.new.source in
    unread_if sweep_usage (λ task bytes said. IsSaidFor task (reading_of bytes) said)
    (task_in (map string_bytes c.args.words.now)) old new failed fails c.of_unread.result c.in-Err.why
    (subst (λ (asked : Option Task). IsUnread asked old new failed fails c.in-Err.why)
    c.in_ok-task.ensures.task c.in-Err.ensures.unread) c.of_unread.ensures

pub returns-in-Err-clause-told : goal.returns-in-Err-clause-told
returns-in-Err-clause-told g c =
    unread_told sweep_usage c.of_unread.result c.in-Err.why (g.S.Source.faults c.args.source.now)
    (g.S.Source.faults c.read_for.new.source) c.in-Err.ensures.told c.of_unread.ensures
