use Rattle.std.proofs.Common.{◌≡◌, ℕ, ◌<◌, ◌≤◌, true, refl, sym, ap, subst, ◌∙◌}
use Rattle.dr_history.specs.Members.{has}
use Rattle.dr_rows.specs.Words.{Words, seen}
use Rattle.dr_words.specs.{Columns.columns_of, Form.IsInForm, Grown.{Grown, HasGrown}}
use Rattle.dr_words.specs.declared.column.TheConstants.{RECEIVED_COLUMN}
use Rattle.dr_program.specs.{Form.HasForm, Replica.{Replica, is_other, least_seen, looked}}
use Rattle.dr_program.proofs.{Keeps.{looked_keeps, looked_rises}, Least.grown_received, Replicas.grown_to}
use Rattle.dr_replica.{specs.Inside.replica_inside, proofs.Insides.state_kept}
use Rattle.dr_replica.proofs.replica.Replica.look.Goals as goal

there : (c : goal.After-look) → replica_inside (record c.self.inside { rows = c.look.new.self })
    ≡ looked (replica_inside c.self.inside) c.args.row c.args.column c.args.word
there c = ap (λ (w : Words). record (replica_inside c.self.inside) { rows = w }) c.look.ensures.after

other : (c : goal.After-look) → is_other (replica_inside c.self.inside) c.args.row ≡ true
other c = ap (λ (r : Replica). is_other r c.args.row) c.self.view_is ∙ c.requires.other

column : (c : goal.After-look) → c.args.column < columns_of c.self.inside.shape.members c.self.inside.shape.window
column c = subst (λ (n : ℕ). c.args.column < n) c.self.invariant.form.columns
    (subst (λ (r : Replica). c.args.column < r.rows.columns) (sym c.self.view_is) c.requires.column)

form : (c : goal.After-look) → HasForm (looked (replica_inside c.self.inside) c.args.row c.args.column c.args.word)
form c = looked_keeps (replica_inside c.self.inside) c.args.row c.args.column c.args.word c.self.invariant.form
    (other c) (column c)
    (subst (λ (r : Replica). IsInForm r.roster c.args.column c.args.word) (sym c.self.view_is) c.requires.in_form)

rises : (c : goal.After-look) → Grown c.self.inside.shape.members c.self.inside.rows.words
    (looked (replica_inside c.self.inside) c.args.row c.args.column c.args.word).rows.words c.self.inside.rows.frozen
    (looked (replica_inside c.self.inside) c.args.row c.args.column c.args.word).rows.frozen
rises c = looked_rises (replica_inside c.self.inside) c.args.row c.args.column c.args.word c.self.invariant.form
    (other c) (ap (λ (r : Replica). has r.suspects c.args.row) c.self.view_is ∙ c.requires.unsuspected) (column c)
    (subst (λ (r : Replica). HasGrown r.roster c.args.column
    (seen r.rows c.args.row c.args.column) c.args.word) (sym c.self.view_is) c.requires.grown)

pub invariant_of-self : goal.invariant_of-self
invariant_of-self c =
    let a = c.self.inside in
    state_kept a c.look.new.self a.logged a.durable a.turns a.acts a.end c.self.invariant
    (ap (λ (w : Words). w.me) c.look.ensures.after) (subst HasForm (sym (there c)) (form c))
    (subst (λ (w : Words). least_seen (replica_inside a) RECEIVED_COLUMN
    ≤ least_seen (record (replica_inside a) { rows = w }) RECEIVED_COLUMN) (sym c.look.ensures.after)
    (grown_received (replica_inside a) (looked (replica_inside a) c.args.row c.args.column c.args.word) _ _ refl (rises c)))

pub returns-clause-grown : goal.returns-clause-grown
returns-clause-grown c = grown_to c.args.self.now (replica_inside (record c.self.inside { rows = c.look.new.self }))
    (replica_inside c.self.inside) (looked (replica_inside c.self.inside) c.args.row c.args.column c.args.word)
    c.self.view_is (there c) (rises c)

pub returns-clause-form : goal.returns-clause-form
returns-clause-form c = subst HasForm (sym (there c)) (form c)
