use Rattle.std.proofs.{Common.{rules, All, subst}, lemmas.List.take_all}
use Rattle.dr_summary.{specs.Marks.IsMarkUntil, proofs.Stretch.alike_more}
use Rattle.dr_summary.proofs.marks.last_alike.Goals as goal

pub loop-member-preserved : goal.loop-member-preserved
loop-member-preserved c = (
  search rules,
  alike_more c.args.members.now c.loop-member.member-index c.args.number c.loop-member.last
      c.last_with_mark.result c.min-last.result c.member-item.result (search rules) c.member-item.is
      (search rules) (search rules) c.loop-member.invariant.1 c.last_with_mark.ensures.same,
)

pub returns-clause-same : goal.returns-clause-same
returns-clause-same c = subst (All (IsMarkUntil c.args.number c.loop-member.last))
    (take_all c.loop-member.member-index c.args.members.now (search rules)) c.loop-member.invariant.1
