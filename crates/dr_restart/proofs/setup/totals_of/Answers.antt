use Rattle.std.proofs.{Common.{ap, ◌∙◌, [], length, arith, length-set}, lemmas.List.get_or_default}
use Rattle.dr_entry.proofs.{ListFacts.rest_more, ListPlaces.{counted_more, all_counted}}
use Rattle.dr_restart.proofs.setup.totals_of.Goals as goal

pub loop-i-preserved : goal.loop-i-preserved
loop-i-preserved c = record {
  size = length-set c.loop-i.totals c.loop-i.i (length c.as_slice.result.now) ∙ c.loop-i.invariant.size;
  counted = counted_more c.loop-i.totals c.args.lists.now c.loop-i.i (length c.as_slice.result.now)
      (omega (arith, c.loop-i.invariant.size, c.loop-i-test.true, c.requires.members))
      (ap length (c.as_slice.ensures ∙ c.index-lists-i.is
      ∙ get_or_default c.args.lists.now c.loop-i.i c.index-lists-i.result [] c.loop-i-test.true))
      c.loop-i.invariant.counted;
  rest = rest_more c.loop-i.totals c.loop-i.i (length c.as_slice.result.now) c.loop-i.invariant.rest;
}

pub returns : goal.returns
returns c = all_counted c.loop-i.totals c.args.lists.now c.loop-i.invariant.size
    (λ k l. c.loop-i.invariant.counted k (omega (arith, l, c.loop-i-test.false)))
    (λ k l. c.loop-i.invariant.rest k (omega (arith, l, c.loop-i.auto.i-end)))
