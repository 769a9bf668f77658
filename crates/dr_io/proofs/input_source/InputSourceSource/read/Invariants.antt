use Rattle.std.{specs.Io.KnownBytes.Keeps, proofs.Common.{◌≡◌}}
use Rattle.dr_io.proofs.input_source.InputSourceSource.read.Given as goal

abbrev pub invariant-loop : goal.invariant-loop
invariant-loop g l = record {
  faults : l.self-inside.faults ≡ l.fn.self.faults;
  kept : Keeps (g.R.Read.remaining l.fn.self.inner) (g.R.Read.remaining l.self-inside.inner);
}
