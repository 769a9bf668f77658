use Rattle.dr_progress.proofs.Besides.{quiet}
use Rattle.dr_intake.proofs.Answers.{fault_told, told_by}
use Rattle.dr_tools.specs.SweepAnswer.{IsSweepAnswer}
use Rattle.dr_tools.proofs.sweeps.top.sweep.Goals as goal

pub returns-clause-told : goal.returns-clause-told
returns-clause-told g c = told_by c.answer_to-answer.result
    (g.K.Sink.held c.args.sink.now) (g.K.Sink.held c.tell.new.sink) (g.K.Sink.faults c.args.sink.now)
    (g.K.Sink.faults c.tell.new.sink) c.tell.result c.tell.ensures.wrote c.tell.ensures.wanting
    (IsSweepAnswer c.args.words.now (g.S.Source.left c.args.source.now) (g.S.Source.left c.answer_to-answer.new.source)
    (g.S.Source.faults c.args.source.now) (g.S.Source.faults c.answer_to-answer.new.source)) c.answer_to-answer.ensures.answer

pub returns-clause-read_fault_told : goal.returns-clause-read_fault_told
returns-clause-read_fault_told g c = fault_told c.answer_to-answer.result
    (g.K.Sink.held c.args.sink.now) (g.K.Sink.held c.tell.new.sink) (g.K.Sink.faults c.args.sink.now)
    (g.K.Sink.faults c.tell.new.sink) c.tell.result c.tell.ensures.wrote c.tell.ensures.wanting
    (g.S.Source.faults c.args.source.now) (g.S.Source.faults c.answer_to-answer.new.source) c.answer_to-answer.ensures.told

pub returns-clause-quiet : goal.returns-clause-quiet
returns-clause-quiet g c = quiet c.args.progress.now c.begin.new.self c.answer_to-answer.new.progress c.end.new.self
    c.begin.ensures c.answer_to-answer.ensures.waits c.end.ensures
