use Rattle.std.{specs.List.concat, proofs.Common.{◌∙◌, sym, subst, take}}
use Rattle.dr_entry.proofs.{ListFacts.concat_more, OptionFacts.on_err_anyway}
use Rattle.dr_io.{specs.Sink.Gains, proofs.KnownLemmas.gains_more}
use Rattle.dr_text.proofs.Sinks.{front_of_texts}
use Rattle.dr_text.proofs.long_text.write_parts.Goals as goal

pub returns-in_err-write_to-clause-err : goal.returns-in_err-write_to-clause-err
returns-in_err-write_to-clause-err g c = on_err_anyway c.from_residual.result
    (front_of_texts c.args.parts.now c.loop-part.part-index c.part-item.result
    (g.K.Sink.held c.args.sink.now) (g.K.Sink.held c.loop-part.sink) (g.K.Sink.held c.write_to.new.sink)
    c.loop-part-test.true c.part-item.is c.loop-part.invariant.gained c.in_err-write_to.ensures.err)

pub loop-part-preserved : goal.loop-part-preserved
loop-part-preserved g c = record {
  gained = subst (Gains (g.K.Sink.held c.args.sink.now) (g.K.Sink.held c.write_to.new.sink))
      (sym (concat_more c.args.parts.now c.loop-part.part-index c.part-item.result c.loop-part-test.true
      c.part-item.is)) (gains_more (g.K.Sink.held c.args.sink.now) (g.K.Sink.held c.loop-part.sink)
      (g.K.Sink.held c.write_to.new.sink) (concat (take c.loop-part.part-index c.args.parts.now))
      c.part-item.result c.loop-part.invariant.gained c.in_ok-write_to.ensures.ok);
  calm = c.in_ok-write_to.ensures.cause.calm ∙ c.loop-part.invariant.calm;
}
