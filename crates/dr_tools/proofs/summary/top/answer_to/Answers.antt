use Rattle.std.proofs.Common.{◌≡◌, ◌∙◌, ℕ, List, IfOk, Option, Some, map, string_bytes, subst, sym}
use Rattle.dr_intake.specs.{Answer.IsUnread, declared.answer.Answer.Answer}
use Rattle.dr_intake.proofs.Answers.{done_if, unread_if, unread_told}
use Rattle.dr_script.specs.Reading.{reading_of}
use Rattle.dr_tools.specs.{SummaryAnswer.{IsAnswerFor, summary_usage}, SummaryWords.asked_of}
use Rattle.dr_tools.specs.declared.summary.words.Asked.{Asked}
use Rattle.dr_tools.proofs.summary.top.answer_to.Goals as goal

pub returns-in-Ok-clause-answer : goal.returns-in-Ok-clause-answer
returns-in-Ok-clause-answer g c =
    let asked : asked_of (map string_bytes c.args.words.now) ≡ Some c.in-Ok.asked =
    sym c.asked_of.ensures ∙ c.in-Ok.ensures.asked in
    done_if summary_usage
    (λ asked bytes said. IsAnswerFor asked (reading_of bytes) said) (asked_of (map string_bytes c.args.words.now))
    (g.S.Source.left c.args.source.now) (g.S.Source.left c.read_for.new.source) (g.S.Source.faults c.args.source.now)
    (g.S.Source.faults c.read_for.new.source) c.answer_for.result c.in-Ok.asked c.in-Ok.bytes.items asked
    c.in-Ok.ensures.bytes (subst (λ (l : List ℕ). IfOk c.answer_for.result
    (λ (a : Answer). IsAnswerFor c.in-Ok.asked (reading_of l) (string_bytes a.text, a.status)))
    c.deref.ensures.value c.answer_for.ensures.answer)

pub returns-in-Err-clause-answer : goal.returns-in-Err-clause-answer
returns-in-Err-clause-answer g c =
    let old = g.S.Source.left c.args.source.now in
    let new = g.S.Source.left c.read_for.new.source in
    let failed = g.S.Source.faults c.args.source.now in
    let fails = g.S.Source.faults c.read_for.new.source in
    unread_if summary_usage (λ asked bytes said. IsAnswerFor asked (reading_of bytes) said)
    (asked_of (map string_bytes c.args.words.now)) old new failed fails c.of_unread.result c.in-Err.why
    (subst (λ (asked : Option Asked). IsUnread asked old new failed fails c.in-Err.why) c.asked_of.ensures
    c.in-Err.ensures.unread) c.of_unread.ensures

pub returns-in-Err-clause-told : goal.returns-in-Err-clause-told
returns-in-Err-clause-told g c =
    unread_told summary_usage c.of_unread.result c.in-Err.why (g.S.Source.faults c.args.source.now)
    (g.S.Source.faults c.read_for.new.source) c.in-Err.ensures.told c.of_unread.ensures
