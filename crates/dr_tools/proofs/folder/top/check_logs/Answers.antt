use Rattle.dr_intake.proofs.Answers.{told_by}
use Rattle.dr_tools.specs.Folder.{IsCheckAnswer}
use Rattle.dr_tools.proofs.folder.top.check_logs.Goals as goal

pub returns-clause-told : goal.returns-clause-told
returns-clause-told g c = told_by c.answer_for.result
    (g.K.Sink.held c.args.sink.now) (g.K.Sink.held c.tell.new.sink) (g.K.Sink.faults c.args.sink.now)
    (g.K.Sink.faults c.tell.new.sink) c.tell.result c.tell.ensures.wrote c.tell.ensures.wanting
    (IsCheckAnswer c.args.words.now (g.S.Source.left c.args.source.now) (g.S.Source.left c.answer_for.new.source)
    (g.S.Source.faults c.args.source.now) (g.S.Source.faults c.answer_for.new.source)) c.answer_for.ensures
