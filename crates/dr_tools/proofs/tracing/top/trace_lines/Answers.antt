use Rattle.std.proofs.Common.{sym, subst}
use Rattle.dr_ages.specs.{Watched.AreWatched, declared.mode.Mode.TheVariants.Sim}
use Rattle.dr_tools.{specs.Following.Followed, proofs.Traces.{Closes, Opens, Sees, lines_wrote}}
use Rattle.dr_tools.proofs.tracing.top.trace_lines.Goals as goal

pub returns : goal.returns
returns g c = λ held fell told.
    let outcome = c.watch_in_memory-outcome.result in
    let new : Followed = record { output = c.lines.inside.output; told = c.lines.inside.told } in
    lines_wrote c.args.script.now c.args.part.now outcome.ages outcome.stop outcome.last held (g.K.Sink.held
    c.end.result.sink) fell (g.K.Sink.faults c.end.result.sink) c.end.result.status c.args.lines new
    c.watch_in_memory-outcome.ensures.ran
    (subst (λ (f : Followed). AreWatched Opens Sees Closes Sim c.args.script.now c.args.part.now 0 outcome.ages c.args.lines f)
    (sym c.lines.view_is) c.watch_in_memory-outcome.ensures.watched) told (c.end.ensures.wrote held fell)
