use Rattle.std.proofs.Common.{◌≡◌, ◌-◌, ◌<◌, ◌≤◌, refl, sym, ap, ◌∙◌, subst}
use Rattle.dr_rows.{specs.{Along.{Pushes, pushed_along}, Words.Words}, proofs.Along.pushed_stays}
use Rattle.dr_words.specs.declared.column.TheConstants.{RECEIVED_COLUMN}
use Rattle.dr_program.specs.{Form.HasForm, Replica.{Replica, least_seen}, Steps.NoWordFell}
use Rattle.dr_program.proofs.{Keeps.pushes_keep, Least.grown_received, Replicas.pushes_grow}
use Rattle.dr_replica.{specs.Inside.replica_inside, proofs.Insides.state_kept}
use Rattle.dr_replica.proofs.replica.Replica.push_row.Goals as goal

-- the rows after the pushes
abbrev done : goal.After-slice_known-2-1 → Pushes
done c = pushed_along c.args.to c.args.first
    (record { words = c.self.inside.rows; table = c.args.table.now; count = 0 }) c.args.from
    (c.self.inside.rows.columns - c.args.from)

abbrev new : goal.After-slice_known-2-1 → Replica
new c = record (replica_inside c.self.inside) { rows = (done c).words }

there : (c : goal.After-slice_known-2-1) → replica_inside (record c.self.inside { rows = c.push_row.new.self }) ≡ new c
there c = ap (λ (w : Words). record (replica_inside c.self.inside) { rows = w }) c.push_row.ensures.after.0

keeps : (c : goal.After-slice_known-2-1) → HasForm (new c) × NoWordFell (replica_inside c.self.inside) (new c)
keeps c =
    let r = replica_inside c.self.inside in
    let start : Pushes = record { words = r.rows; table = c.args.table.now; count = 0 } in (
      pushes_keep r c.args.to c.args.first start c.args.from (r.rows.columns - c.args.from)
          (subst (λ (x : Replica). c.args.to < x.roster) (sym c.self.view_is) c.requires.to) c.self.invariant.form,
      pushes_grow r c.args.to c.args.first start c.args.from (r.rows.columns - c.args.from) refl,
    )

pub invariant_of-self : goal.invariant_of-self
invariant_of-self c =
    let a = c.self.inside in
    state_kept a c.push_row.new.self a.logged a.durable a.turns a.acts a.end c.self.invariant
    (ap (λ (w : Words). w.me) (c.push_row.ensures.after.0 ∙ pushed_stays c.args.to c.args.first
    (record { words = a.rows; table = c.args.table.now; count = 0 }) c.args.from (a.rows.columns - c.args.from)))
    (subst HasForm (sym (there c)) (keeps c).0) (subst (λ (w : Words). least_seen (replica_inside a) RECEIVED_COLUMN
    ≤ least_seen (record (replica_inside a) { rows = w }) RECEIVED_COLUMN) (sym c.push_row.ensures.after.0)
    (grown_received (replica_inside a) (new c) a.rows.frozen (new c).rows.frozen refl (keeps c).1))

pub returns-clause-grown : goal.returns-clause-grown
returns-clause-grown c =
    subst (λ (x : Replica). NoWordFell x (replica_inside (record c.self.inside { rows = c.push_row.new.self })))
    c.self.view_is (subst (NoWordFell (replica_inside c.self.inside)) (sym (there c)) (keeps c).1)

pub returns-clause-form : goal.returns-clause-form
returns-clause-form c = subst HasForm (sym (there c)) (keeps c).0
