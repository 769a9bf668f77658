use Rattle.std.proofs.Common.{[], inl, refl, sym, subst}
use Rattle.dr_seeing.specs.Output.{HasTold, Written}
use Rattle.dr_tools.specs.{Trace.{IsRunTold, WroteOne}, declared.tracing.words.Form.Form}
use Rattle.dr_tools.proofs.tracing.top.trace_run.Goals as goal

pub returns-in-Lines-clause-wrote : goal.returns-in-Lines-clause-wrote
returns-in-Lines-clause-wrote g c = λ held fell told. subst (λ (f : Form). WroteOne
    (IsRunTold f c.args.script.now c.args.part.now) held (g.K.Sink.held c.trace_lines.result.sink) fell
    (g.K.Sink.faults c.trace_lines.result.sink) c.trace_lines.result.status)
    (sym c.in-Lines.is) (c.trace_lines.ensures held fell (subst (λ (w : Written). HasTold held fell [] w) (sym c.new.ensures) told))

pub returns-in-Ok-clause-wrote : goal.returns-in-Ok-clause-wrote
returns-in-Ok-clause-wrote g c = λ held fell told. subst (λ (f : Form). WroteOne
    (IsRunTold f c.args.script.now c.args.part.now) held (g.K.Sink.held c.trace_chart.result.sink) fell
    (g.K.Sink.faults c.trace_chart.result.sink) c.trace_chart.result.status)
    (sym c.in-Chart.is) (c.trace_chart.ensures held fell told)

pub returns-in-Err-clause-wrote : goal.returns-in-Err-clause-wrote
returns-in-Err-clause-wrote g c = λ held fell told. record {
  text = [];
  due = 10;
  is = inl (refl, refl);
  wrote = c.end.ensures.wrote held fell [] told;
}

pub returns-in-Ok-new-clause-wrote : goal.returns-in-Ok-new-clause-wrote
returns-in-Ok-new-clause-wrote g c = λ held fell told. subst (λ (f : Form). WroteOne
    (IsRunTold f c.args.script.now c.args.part.now) held (g.K.Sink.held c.trace_picture.result.sink) fell
    (g.K.Sink.faults c.trace_picture.result.sink) c.trace_picture.result.status)
    (sym c.in-Picture.is) (c.trace_picture.ensures.wrote c.in-Picture.from c.in-Picture.to held fell told)

pub returns-in-Err-new-clause-wrote : goal.returns-in-Err-new-clause-wrote
returns-in-Err-new-clause-wrote g c = λ held fell told. record {
  text = [];
  due = 10;
  is = inl (refl, refl);
  wrote = c.end-in-Err-new.ensures.wrote held fell [] told;
}
