use Rattle.std.proofs.Common.{ℕ, List, IfOk, string_bytes, subst}
use Rattle.dr_intake.specs.declared.answer.Answer.{Answer}
use Rattle.dr_script.specs.Reading.{reading_of}
use Rattle.dr_tools.{specs.Judged.IsJudged, proofs.JudgeAnswers.judged_told}
use Rattle.dr_tools.proofs.judging.top.judge_report.Goals as goal

pub returns-clause-judged : goal.returns-clause-judged
returns-clause-judged g c =
    let said = c.answer_for.result in
    judged_told said c.in-Ok.bytes.items c.in-Ok-read_all.bytes.items
    (g.S.Source.left c.args.script.now) (g.S.Source.left c.read_all.new.source)
    (g.R.Source.left c.args.report.now) (g.R.Source.left c.read_all-2.new.source) (g.K.Sink.held c.args.sink.now)
    (g.K.Sink.held c.tell.new.sink) (g.S.Source.faults c.args.script.now) (g.S.Source.faults c.read_all.new.source)
    (g.R.Source.faults c.args.report.now) (g.R.Source.faults c.read_all-2.new.source)
    (g.K.Sink.faults c.args.sink.now) (g.K.Sink.faults c.tell.new.sink) c.tell.result c.in-Ok.ensures.bytes
    c.in-Ok-read_all.ensures.bytes (subst (λ (l : List ℕ). IfOk said
    (λ (a : Answer). IsJudged (reading_of l) c.in-Ok-read_all.bytes.items (string_bytes a.text, a.status)))
    c.deref.ensures.value (subst (λ (l : List ℕ). IfOk said
    (λ (a : Answer). IsJudged (reading_of c.deref.result.now) l (string_bytes a.text, a.status)))
    c.deref-2.ensures.value c.answer_for.ensures)) c.tell.ensures.wrote c.tell.ensures.wanting
