use Rattle.std.proofs.Common.{Option, subst}
use Rattle.dr_text.specs.declared.last.Last.{Last}
use Rattle.dr_tools.proofs.Traces.{HasRun, picture_wrote}
use Rattle.dr_tools.proofs.tracing.top.trace_picture.Goals as goal

pub returns-in-Some-clause-wrote : goal.returns-in-Some-clause-wrote
returns-in-Some-clause-wrote g c = λ from to held fell told.
    let outcome = c.watch_with_progress-outcome.result in
    picture_wrote from to c.args.script.now c.args.part.now outcome.ages outcome.stop c.in-Some.last held (g.K.Sink.held
    c.hang.result.sink) fell (g.K.Sink.faults c.hang.result.sink) c.hang.result.status c.as_str.result.now
    (subst (λ (l : Option Last). HasRun c.args.script.now c.args.part.now outcome.ages outcome.stop l) c.in-Some.is
    c.watch_with_progress-outcome.ensures.ran) (c.hang.ensures held fell told)
