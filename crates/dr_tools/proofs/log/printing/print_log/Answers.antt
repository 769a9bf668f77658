use Rattle.std.proofs.Common.{ℕ, List, IfOk, string_bytes, subst}
use Rattle.dr_intake.specs.declared.answer.Answer.{Answer}
use Rattle.dr_tools.{specs.LogText.IsSaid, proofs.LogAnswers.log_told}
use Rattle.dr_tools.proofs.log.printing.print_log.Goals as goal

pub returns-clause-printed : goal.returns-clause-printed
returns-clause-printed g c = log_told c.answer_for.result c.in-Ok.bytes.items (g.S.Source.left c.args.source.now)
    (g.S.Source.left c.read_all.new.source) (g.K.Sink.held c.args.sink.now) (g.K.Sink.held c.tell.new.sink)
    (g.S.Source.faults c.args.source.now) (g.S.Source.faults c.read_all.new.source)
    (g.K.Sink.faults c.args.sink.now) (g.K.Sink.faults c.tell.new.sink) c.tell.result c.in-Ok.ensures.bytes
    (subst (λ (l : List ℕ). IfOk c.answer_for.result (λ (a : Answer). IsSaid l (string_bytes a.text) a.status))
    c.deref.ensures.value c.answer_for.ensures) c.tell.ensures.wrote c.tell.ensures.wanting
