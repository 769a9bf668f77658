use Rattle.std.proofs.Common.{sym, subst}
use Rattle.dr_ages.specs.{Watched.AreWatched, declared.mode.Mode.TheVariants.Sim}
use Rattle.dr_seeing.specs.Output.{Written}
use Rattle.dr_tools.proofs.Traces.{ClosesSome, OpensSome, SeesSome, chart_wrote}
use Rattle.dr_tools.proofs.tracing.top.trace_chart.Goals as goal

pub returns : goal.returns
returns g c = λ held fell told.
    let outcome = c.watch_in_memory-outcome.result in
    chart_wrote c.args.script.now c.args.part.now outcome.ages outcome.stop outcome.last held (g.K.Sink.held
    c.end.result.sink) fell
    (g.K.Sink.faults c.end.result.sink) c.end.result.status c.args.drawing c.drawing.inside.output
    c.watch_in_memory-outcome.ensures.ran
    (subst (λ (w : Written). AreWatched OpensSome SeesSome ClosesSome Sim c.args.script.now c.args.part.now 0
    outcome.ages c.args.drawing w) (sym c.drawing.view_is) c.watch_in_memory-outcome.ensures.watched)
    told (c.end.ensures.wrote held fell)
