use Rattle.std.{specs.Io.KnownBytes.Keeps, proofs.Common.{ap, subst}}
use Rattle.dr_io.{specs.Adapters.Adapter, proofs.KnownLemmas.{keeps_same, keeps_more, appends_behind}}
use Rattle.dr_io.proofs.output_sink.OutputSinkSink.write.Goals as goal

pub loop-init : goal.loop-init
loop-init g c = record {
  faults = ap (λ (a : Adapter g.row.W.Denot). a.faults) c.self.view_is;
  kept = subst (λ (a : Adapter g.row.W.Denot). Keeps (g.W.Write.contents a.inner)
      (g.W.Write.contents c.self.inside.inner)) c.self.view_is (keeps_same _);
}

pub returns-in-Ok-clause-relayed : goal.returns-in-Ok-clause-relayed
returns-in-Ok-clause-relayed g c = appends_behind _ _ _ _ c.loop.invariant.kept c.in-Ok.ensures.bytes

pub loop-preserved : goal.loop-preserved
loop-preserved g c = record {
  faults = c.loop.invariant.faults;
  kept = keeps_more _ _ _ c.loop.invariant.kept c.in-Err.ensures.bytes;
}
