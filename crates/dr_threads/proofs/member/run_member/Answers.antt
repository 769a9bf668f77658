use Rattle.std.proofs.Common.{ap, not, ◌∙◌, subst}
use Rattle.dr_table.{specs.Cards.IsAtEnd, proofs.Cards.ended_by}
use Rattle.dr_threads.proofs.Runs.{gone_more}
use Rattle.dr_threads.proofs.member.run_member.Goals as goal

pub loop-seated-preserved-then-is_between_turns : goal.loop-seated-preserved-then-is_between_turns
loop-seated-preserved-then-is_between_turns g c = record {
  table = c.take.ensures.table ∙ c.loop-seated.invariant.table;
  gone = gone_more _ _ _ _ _ _ _ _ c.loop-seated.invariant.gone c.take.ensures.gone;
}

pub loop-seated-preserved : goal.loop-seated-preserved
loop-seated-preserved g c = record {
  table = c.take.ensures.table ∙ c.loop-seated.invariant.table;
  gone = gone_more _ _ _ _ _ _ _ _ c.loop-seated.invariant.gone c.take.ensures.gone;
}

pub returns-clause-ended : goal.returns-clause-ended
returns-clause-ended g c = subst IsAtEnd c.member.ensures.member (ended_by c.member.result.now c.end.result
    c.end.ensures.end (c.is_none.ensures ∙ ap not c.loop-seated-test.false))
