use Rattle.std.proofs.Common.{◌≡◌, ◌<◌, ◌≤◌, refl, le_of_eq, sym, ap, subst}
use Rattle.dr_rows.specs.Words.{Words}
use Rattle.dr_words.specs.declared.column.TheConstants.{RECEIVED_COLUMN}
use Rattle.dr_program.{specs.{Form.HasForm, Replica.{Replica, least_seen, pushed}}, proofs.Keeps.pushed_keeps}
use Rattle.dr_replica.{specs.Inside.replica_inside, proofs.Insides.state_kept}
use Rattle.dr_replica.proofs.replica.Replica.push.Goals as goal

there : (c : goal.After-pushed) → replica_inside (record c.self.inside { rows = c.pushed.new.self })
    ≡ pushed (replica_inside c.self.inside) c.args.to c.args.column
there c = ap (λ (w : Words). record (replica_inside c.self.inside) { rows = w }) c.pushed.ensures.after

form : (c : goal.After-pushed) → HasForm (pushed (replica_inside c.self.inside) c.args.to c.args.column)
form c = pushed_keeps (replica_inside c.self.inside) c.args.to c.args.column c.self.invariant.form
    (subst (λ (r : Replica). c.args.to < r.roster) (sym c.self.view_is) c.requires.to)

pub invariant_of-self : goal.invariant_of-self
invariant_of-self c =
    let a = c.self.inside in
    state_kept a c.pushed.new.self a.logged a.durable a.turns a.acts a.end c.self.invariant
    (ap (λ (w : Words). w.me) c.pushed.ensures.after) (subst HasForm (sym (there c)) (form c))
    (subst (λ (w : Words). least_seen (replica_inside a) RECEIVED_COLUMN
    ≤ least_seen (record (replica_inside a) { rows = w }) RECEIVED_COLUMN) (sym c.pushed.ensures.after)
    (le_of_eq refl))

pub returns-clause-form : goal.returns-clause-form
returns-clause-form c = subst HasForm (sym (there c)) (form c)
