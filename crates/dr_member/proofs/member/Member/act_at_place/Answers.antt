use Rattle.std.proofs.Common.{ap, sym, ◌∙◌}
use Rattle.dr_program.specs.{Replica.value_due, Running.next_step}
use Rattle.dr_member.proofs.Dues.{act_by, act_step, step_is}
use Rattle.dr_member.proofs.member.Member.act_at_place.Goals as goal

pub act-requires-clause-step : goal.act-requires-clause-step
act-requires-clause-step c = ap next_step (sym c.self.view_is) ∙ step_is _ c.due_at.result c.self.inside.place
    (value_due c.self.inside.replica) c.in-Act.act c.due_at.ensures c.in-Act.is

pub returns-in_default : goal.returns-in_default
returns-in_default c =
    let t = act_step c.args.self.now c.requires in
    absurd (c.in_default.not-Act t.0 (act_by c.due_at.result c.self.inside.place
    (value_due c.self.inside.replica) t.0 (c.due_at.ensures ∙ ap next_step c.self.view_is ∙ t.1)))
