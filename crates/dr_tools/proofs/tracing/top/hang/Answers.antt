use Rattle.std.{specs.Prelude.{codes, Some}, proofs.Common.{ℕ, ◌++◌, subst}}
use Rattle.dr_text.specs.Report.{last_text}
use Rattle.dr_tools.specs.Trace.{Wrote, picture_ending}
use Rattle.dr_seeing.proofs.Traces.{hung}
use Rattle.dr_tools.proofs.tracing.top.hang.Goals as goal

pub returns : goal.returns
returns g c = λ held fell told.
    subst (λ (due : ℕ). Wrote held (g.K.Sink.held c.finish.result.sink) fell (g.K.Sink.faults
    c.finish.result.sink) c.finish.result.status due
    (c.args.drawn.now ++ picture_ending (Some c.args.last.now))) c.status_of.ensures
    (c.finish.ensures.wrote held fell (c.args.drawn.now ++ picture_ending (Some c.args.last.now))
    (hung c.args.drawn.now (last_text c.args.last.now) (codes "</text>\n</svg>\n") held fell
    c.args.output c.tell.new.self c.tell_last.new.self c.tell-2.new.self told c.tell.ensures
    c.tell_last.ensures c.tell-2.ensures))
