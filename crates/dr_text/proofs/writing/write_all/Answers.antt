use Rattle.std.proofs.Common.{◌∙◌, arith, length-drop, length-take}
use Rattle.dr_io.proofs.KnownLemmas.{gains_front}
use Rattle.dr_text.proofs.writing.write_all.Goals as goal

pub loop-at-preserved : goal.loop-at-preserved
loop-at-preserved g c = record {
  gained = gains_front (g.K.Sink.held c.args.sink.now) (g.K.Sink.held c.loop-at.sink)
      (g.K.Sink.held c.write.new.self) c.args.text.now c.loop-at.at c.in_ok-at.field-0 c.loop-at.invariant.gained
      c.in_ok-at.ensures.bytes;
  within =
      let bound = simp (length-take, length-drop) at c.in_ok-at.ensures.bound in omega (arith, bound);
  calm = c.in_ok-at.ensures.cause.calm ∙ c.loop-at.invariant.calm;
}
