use Rattle.std.{specs.List.range_with_len, proofs.Common.{[], All, arith, map, rules, subst, sym}}
use Rattle.std.proofs.lemmas.List.Elements.{All-nil}
use Rattle.dr_script.specs.Ranges.{HasFaultRanges}
use Rattle.dr_entry.proofs.ListFacts.{numbered_texts_more}
use Rattle.dr_tools.specs.Crashes.{crash_at}
use Rattle.dr_tools.proofs.sweeps.crashes.crashes_by.Goals as goal

pub loop-behind-init : goal.loop-behind-init
loop-behind-init c = (
  c.new-crashes.ensures.items,
  subst (All (HasFaultRanges c.args.script.now)) (sym c.new-crashes.ensures.items)
      (All-nil (HasFaultRanges c.args.script.now)),
)

pub push_crashes-requires-clause-turn : goal.push_crashes-requires-clause-turn
push_crashes-requires-clause-turn c = omega (arith, c.requires.turns)

pub push_crashes-requires-clause-before : goal.push_crashes-requires-clause-before
push_crashes-requires-clause-before c = c.loop-behind.invariant.1

pub loop-behind-preserved : goal.loop-behind-preserved
loop-behind-preserved c = (
  numbered_texts_more (λ t. map (crash_at c.args.member c.args.script.now.turns t.0) (range_with_len 0 t.1))
      c.args.points.now c.loop-behind.behind _ [] c.loop-behind.crashes.items c.push_crashes.new.crashes.items
      (omega arith) (search rules) c.loop-behind.invariant.0 c.in_ok-push_crashes.ensures.crashes,
  c.in_ok-push_crashes.ensures.ranges,
)
