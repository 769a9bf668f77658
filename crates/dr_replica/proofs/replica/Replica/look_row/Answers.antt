use Rattle.std.proofs.Common.{◌≡◌, ℕ, ◌+◌, ◌-◌, ◌<◌, ◌≤◌, slice_index, refl, sym, ap, subst, ◌∙◌, arith}
use Rattle.dr_history.specs.Members.{has}
use Rattle.dr_rows.{specs.Words.{Words, seen}, proofs.Along.looked_stays}
use Rattle.dr_words.specs.{Form.IsInForm, Grown.HasGrown, declared.column.TheConstants.RECEIVED_COLUMN}
use Rattle.dr_program.specs.{Form.HasForm, Replica.{Replica, is_other, least_seen}, Steps.NoWordFell}
use Rattle.dr_program.proofs.{Keeps.looks_keep, Least.grown_received, Replicas.{MayLook, looked_on}}
use Rattle.dr_replica.{specs.Inside.replica_inside, proofs.Insides.state_kept}
use Rattle.dr_replica.proofs.replica.Replica.look_row.Goals as goal

-- the replica inside after the looks
abbrev new : goal.After-look_row → Replica
new c = looked_on (replica_inside c.self.inside) c.args.row c.args.table.now c.args.first c.args.from
    (c.self.inside.rows.columns - c.args.from)

there : (c : goal.After-look_row) → replica_inside (record c.self.inside { rows = c.look_row.new.self }) ≡ new c
there c = ap (λ (w : Words). record (replica_inside c.self.inside) { rows = w }) c.look_row.ensures.after

may : (c : goal.After-look_row) → MayLook (replica_inside c.self.inside) c.args.row c.args.table.now c.args.first
    c.args.from (c.self.inside.rows.columns - c.args.from)
may c =
    let r = replica_inside c.self.inside in
    let is = c.self.view_is in
    let from : c.args.from ≤ r.rows.columns =
    subst (λ (x : Replica). c.args.from ≤ x.rows.columns) (sym is) c.requires.from in
    record {
      form = c.self.invariant.form;
      other = ap (λ (x : Replica). is_other x c.args.row) is ∙ c.requires.other;
      unsuspected = ap (λ (x : Replica). has x.suspects c.args.row) is ∙ c.requires.unsuspected;
      within = omega (arith, from, c.self.invariant.form.columns);
      in_form = λ d l h. subst (λ (x : Replica). (k : ℕ) → c.args.from ≤ k → k < x.rows.columns → IsInForm x.roster k
          (slice_index c.args.table.now (c.args.first + k))) (sym is) c.requires.in_form d l (omega (arith, h, from));
      grown = λ d l h. subst (λ (x : Replica). (k : ℕ) → c.args.from ≤ k → k < x.rows.columns
          → HasGrown x.roster k (seen x.rows c.args.row k) (slice_index c.args.table.now (c.args.first + k)))
          (sym is) c.requires.grown d l (omega (arith, h, from));
    }

keeps : (c : goal.After-look_row) → HasForm (new c) × NoWordFell (replica_inside c.self.inside) (new c)
keeps c = looks_keep (replica_inside c.self.inside) c.args.row c.args.table.now c.args.first c.args.from
    (c.self.inside.rows.columns - c.args.from) (may c)

pub invariant_of-self : goal.invariant_of-self
invariant_of-self c =
    let a = c.self.inside in
    state_kept a c.look_row.new.self a.logged a.durable a.turns a.acts a.end c.self.invariant
    (ap (λ (w : Words). w.me) (c.look_row.ensures.after
    ∙ looked_stays c.args.row c.args.table.now c.args.first a.rows c.args.from (a.rows.columns - c.args.from)))
    (subst HasForm (sym (there c)) (keeps c).0) (subst (λ (w : Words). least_seen (replica_inside a) RECEIVED_COLUMN
    ≤ least_seen (record (replica_inside a) { rows = w }) RECEIVED_COLUMN) (sym c.look_row.ensures.after)
    (grown_received (replica_inside a) (new c) a.rows.frozen (new c).rows.frozen refl (keeps c).1))

pub returns-clause-grown : goal.returns-clause-grown
returns-clause-grown c =
    subst (λ (x : Replica). NoWordFell x (replica_inside (record c.self.inside { rows = c.look_row.new.self })))
    c.self.view_is (subst (NoWordFell (replica_inside c.self.inside)) (sym (there c)) (keeps c).1)

pub returns-clause-form : goal.returns-clause-form
returns-clause-form c = subst HasForm (sym (there c)) (keeps c).0
