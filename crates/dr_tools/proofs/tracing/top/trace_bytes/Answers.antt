use Rattle.std.proofs.Common.{Err, ap, sym, subst}
use Rattle.dr_script.specs.Reading.{Reading, reading_of}
use Rattle.dr_tools.{specs.Trace.{IsTracedFor, WroteOne}, proofs.Traces.refused_wrote}
use Rattle.dr_tools.proofs.tracing.top.trace_bytes.Goals as goal

pub returns-in-Ok-clause-wrote : goal.returns-in-Ok-clause-wrote
returns-in-Ok-clause-wrote g c = λ held fell told.
    subst (λ (r : Reading). WroteOne (IsTracedFor c.args.asked r) held (g.K.Sink.held c.trace_script.result.sink)
    fell (g.K.Sink.faults c.trace_script.result.sink) c.trace_script.result.status) (sym c.in-Ok.ensures.script)
    (c.trace_script.ensures.wrote held fell told)

pub returns-in-Err-clause-wrote : goal.returns-in-Err-clause-wrote
returns-in-Err-clause-wrote g c = λ held fell told.
    refused_wrote c.args.asked (reading_of c.args.bytes.now) c.in-Err.line held (g.K.Sink.held c.end.result.sink)
    fell (g.K.Sink.faults c.end.result.sink) c.end.result.status (λ l is. c.in-Err.ensures.refusal l (ap Err is))
    (c.end.ensures.wrote held fell _ told)
