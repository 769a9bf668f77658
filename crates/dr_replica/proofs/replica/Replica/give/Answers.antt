use Rattle.std.proofs.Common.{sym, ap, subst}
use Rattle.dr_program.{specs.Form.HasForm, proofs.Finishing.gave_form}
use Rattle.dr_replica.{specs.Inside.replica_inside, proofs.Joining.gave_kept}
use Rattle.dr_replica.proofs.replica.Replica.give.Goals as goal

pub invariant_of-self : goal.invariant_of-self
invariant_of-self c = gave_kept c.self.inside c.args.newcomer c.with-self-inside.result c.self.invariant
    c.with-self-inside.ensures.value

pub returns-clause-form : goal.returns-clause-form
returns-clause-form c =
    subst HasForm (sym (ap (λ m. record (replica_inside c.self.inside) { given = m }) c.with-self-inside.ensures.value))
    (gave_form (replica_inside c.self.inside) c.args.newcomer c.self.invariant.form)
