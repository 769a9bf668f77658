use Rattle.std.{specs.Io.KnownBytes.Keeps, proofs.Common.{◌≡◌}}
use Rattle.dr_io.proofs.output_sink.OutputSinkSink.write.Given as goal

abbrev pub invariant-loop : goal.invariant-loop
invariant-loop g l = record {
  faults : l.self-inside.faults ≡ l.fn.self.faults;
  kept : Keeps (g.W.Write.contents l.fn.self.inner) (g.W.Write.contents l.self-inside.inner);
}
