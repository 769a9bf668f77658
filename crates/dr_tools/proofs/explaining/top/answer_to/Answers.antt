use Rattle.std.{specs.Prelude.{⊤}, proofs.Common.{◌≡◌, ◌∙◌, ℕ, List, IfOk, Option, Some, string_bytes, subst, sym}}
use Rattle.dr_intake.specs.{Answer.{IsUnread, wordless}, declared.answer.Answer.Answer}
use Rattle.dr_intake.proofs.Answers.{done_if, unread_if, unread_told}
use Rattle.dr_script.specs.Reading.{reading_of}
use Rattle.dr_tools.specs.Explained.{IsAnswerFor, explain_usage}
use Rattle.dr_tools.proofs.explaining.top.answer_to.Goals as goal

pub returns-in-Ok-clause-answer : goal.returns-in-Ok-clause-answer
returns-in-Ok-clause-answer g c =
    let asked : wordless c.args.words.now ≡ Some tt = sym c.wordless.ensures ∙ c.in-Ok.ensures.asked in
    done_if explain_usage (λ command bytes said. IsAnswerFor (reading_of bytes) said.0 said.1)
    (wordless c.args.words.now) (g.S.Source.left c.args.source.now)
    (g.S.Source.left c.read_for.new.source) (g.S.Source.faults c.args.source.now)
    (g.S.Source.faults c.read_for.new.source) c.answer_for.result tt c.in-Ok.bytes.items asked c.in-Ok.ensures.bytes
    (subst (λ (l : List ℕ). IfOk c.answer_for.result
    (λ (a : Answer). IsAnswerFor (reading_of l) (string_bytes a.text) a.status))
    c.deref.ensures.value c.answer_for.ensures)

pub returns-in-Err-clause-answer : goal.returns-in-Err-clause-answer
returns-in-Err-clause-answer g c =
    let old = g.S.Source.left c.args.source.now in
    let new = g.S.Source.left c.read_for.new.source in
    let failed = g.S.Source.faults c.args.source.now in
    let fails = g.S.Source.faults c.read_for.new.source in
    unread_if explain_usage (λ command bytes said. IsAnswerFor (reading_of bytes) said.0 said.1)
    (wordless c.args.words.now) old new failed fails c.of_unread.result c.in-Err.why
    (subst (λ (asked : Option ⊤). IsUnread asked old new failed fails c.in-Err.why) c.wordless.ensures
    c.in-Err.ensures.unread) c.of_unread.ensures

pub returns-in-Err-clause-told : goal.returns-in-Err-clause-told
returns-in-Err-clause-told g c =
    unread_told explain_usage c.of_unread.result c.in-Err.why (g.S.Source.faults c.args.source.now)
    (g.S.Source.faults c.read_for.new.source) c.in-Err.ensures.told c.of_unread.ensures
