use Rattle.std.proofs.Common.{◌++◌, ◌∙◌, ap, arith}
use Rattle.dr_summary.proofs.Texts.{names_as_far, names_pushed}
use Rattle.dr_summary.proofs.undelivered.push_rest.Goals as goal

pub loop-index-preserved : goal.loop-index-preserved
loop-index-preserved c = record {
  names = names_pushed c.args.sender c.args.had c.loop-index.index c.args.names.now.items
      c.loop-index.names.items c.push.new.self.items c.loop-index.auto.index c.loop-index.invariant.names
      c.in_ok-push.ensures.items;
  within = omega (arith, c.loop-index-test.true);
}

pub returns : goal.returns
returns c = c.loop-index.invariant.names ∙ ap (λ l. c.args.names.now.items ++ l)
    (names_as_far c.args.sender c.args.had c.loop-index.index c.args.count c.loop-index.invariant.within
    c.loop-index-test.false)
