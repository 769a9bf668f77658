use Rattle.std.proofs.Common.{ap, ◌∙◌}
use Rattle.dr_program.specs.Replica.{Replica, acted, finished, is_inside, may_finish}
use Rattle.dr_program.proofs.{Finishing.finished_form, Keeps.acted_keeps, Replicas.form_to}
use Rattle.dr_replica.proofs.replica.Replica.leave.Goals as goal

pub finish-requires-clause-may : goal.finish-requires-clause-may
finish-requires-clause-may c = ap (λ (r : Replica). may_finish r r.committed) c.stamp.ensures ∙ c.requires.may

pub finish-requires-clause-inside : goal.finish-requires-clause-inside
finish-requires-clause-inside c = ap is_inside c.stamp.ensures ∙ c.requires.inside

pub returns-clause-after : goal.returns-clause-after
returns-clause-after c = c.finish.ensures ∙ ap finished c.stamp.ensures

pub returns-clause-form : goal.returns-clause-form
returns-clause-form c = form_to c.finish.new.self _ (c.finish.ensures ∙ ap finished c.stamp.ensures)
    (finished_form (acted c.args.self.now) (acted_keeps c.args.self.now c.me.ensures.form) c.requires.inside
    c.requires.may c.requires.free)
