use Rattle.std.{specs.List.concat, proofs.Common.take}
use Rattle.dr_text.proofs.Sinks.{HasWritten}
use Rattle.dr_text.proofs.long_text.write_parts.Given as goal

abbrev pub invariant-loop-part : goal.invariant-loop-part
invariant-loop-part g l = HasWritten (g.K.Sink.held l.initial.sink) (g.K.Sink.held l.sink)
    (g.K.Sink.faults l.initial.sink) (g.K.Sink.faults l.sink) (concat (take l.part-index l.parts))
