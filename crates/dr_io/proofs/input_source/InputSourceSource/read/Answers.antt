use Rattle.std.{specs.Io.KnownBytes.Keeps, proofs.Common.{ap, subst}}
use Rattle.dr_io.{specs.Adapters.Adapter, proofs.KnownLemmas.{keeps_same, keeps_more, consumes_behind}}
use Rattle.dr_io.proofs.input_source.InputSourceSource.read.Goals as goal

pub loop-init : goal.loop-init
loop-init g c = record {
  faults = ap (λ (a : Adapter g.row.R.Denot). a.faults) c.self.view_is;
  kept = subst (λ (a : Adapter g.row.R.Denot). Keeps (g.R.Read.remaining a.inner)
      (g.R.Read.remaining c.self.inside.inner)) c.self.view_is (keeps_same _);
}

pub returns-in-Ok-clause-relayed : goal.returns-in-Ok-clause-relayed
returns-in-Ok-clause-relayed g c =
    (consumes_behind _ _ _ _ c.loop.invariant.kept c.in-Ok.ensures.bytes.0, c.in-Ok.ensures.bytes.1)

pub loop-preserved : goal.loop-preserved
loop-preserved g c = record {
  faults = c.loop.invariant.faults;
  kept = keeps_more _ _ _ c.loop.invariant.kept c.in-Err.ensures.bytes;
}
