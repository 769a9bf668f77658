use Rattle.std.proofs.Common.{◌≡◌, ℕ, ◌≤◌, sym, ap, subst, ◌∙◌}
use Rattle.dr_history.specs.Members.{has}
use Rattle.dr_suspect.specs.Suspicion.{Suspicion}
use Rattle.dr_rows.specs.Words.{own}
use Rattle.dr_program.{specs.Replica.{Replica, is_inside, may_suspect, suspected}, proofs.Replicas.may_of}
use Rattle.dr_program.proofs.Wedging.{recv_small, suspected_rises}
use Rattle.dr_words.{specs.{Masks.{least_of, without}, Rewrites.wedged_word}, proofs.Masks.somebody}
use Rattle.dr_replica.{specs.Inside.replica_inside, proofs.Insides.{suspected_after, suspected_kept, voter_read}}
use Rattle.dr_replica.proofs.replica.Replica.suspect.Goals as goal

pub unwrap-requires : goal.unwrap-requires
unwrap-requires c =
    let a = c.self.inside in
    let inside = ap is_inside c.self.view_is ∙ c.requires.inside in
    somebody c.least.result c.unsuspected.result c.add.new.self.me c.least.ensures.least
    (c.unsuspected.ensures.me (ap (λ (s : Suspicion). has s.members s.me)
    (c.add.ensures.rest ∙ ap (λ (s : Suspicion). record s { suspects = c.add.new.self.suspects })
    c.self.invariant.suspicion) ∙ inside))

pub rewrite-requires-clause-recv : goal.rewrite-requires-clause-recv
rewrite-requires-clause-recv c = recv_small (replica_inside c.self.inside) c.self.invariant.form

pub rewrite-requires-clause-rises : goal.rewrite-requires-clause-rises
rewrite-requires-clause-rises c = λ column.
    let a = c.self.inside in
    let voter = voter_read a c.add.new.self c.mask.result c.unwrap.result c.unsuspected.result
    c.self.invariant c.add.ensures.rest c.mask.ensures.value c.unsuspected.ensures.members
    (sym c.least.ensures.first ∙ c.unwrap.ensures) in
    let may = may_of (λ (r : Replica). may_suspect r c.args.other) (replica_inside a) c.args.self.now
    c.self.view_is c.requires.may in
    subst (λ (p : ℕ). own a.rows column ≤ wedged_word a.shape.members a.members c.mask.result p column
    (own a.rows column)) (sym voter) (subst (λ (m : ℕ). own a.rows column
    ≤ wedged_word a.shape.members a.members m (least_of (without a.members m)) column (own a.rows column))
    (sym (c.mask.ensures.value ∙ c.add.ensures.suspects))
    (suspected_rises (replica_inside a) c.args.other column c.self.invariant.form
    (ap is_inside c.self.view_is ∙ c.requires.inside) may))

there : (c : goal.After-freeze)
    → replica_inside (record c.self.inside { rows = c.freeze.new.self; suspects = c.add.new.self })
    ≡ suspected (replica_inside c.self.inside) c.args.other
there c =
    let voter = voter_read c.self.inside c.add.new.self c.mask.result c.unwrap.result c.unsuspected.result
    c.self.invariant c.add.ensures.rest c.mask.ensures.value c.unsuspected.ensures.members
    (sym c.least.ensures.first ∙ c.unwrap.ensures) in
    suspected_after c.self.inside c.add.new.self c.freeze.new.self c.rewrite.new.rows c.args.other
    c.mask.result c.unwrap.result c.self.invariant c.add.ensures.suspects c.mask.ensures.value voter
    c.rewrite.ensures c.freeze.ensures.after

pub invariant_of-self : goal.invariant_of-self
invariant_of-self c =
    let may = may_of (λ (r : Replica). may_suspect r c.args.other) (replica_inside c.self.inside)
    c.args.self.now c.self.view_is c.requires.may in
    suspected_kept c.self.inside c.add.new.self c.freeze.new.self c.args.other c.self.invariant
    (ap is_inside c.self.view_is ∙ c.requires.inside) may c.add.ensures.rest (there c)

pub returns : goal.returns
returns c = there c ∙ ap (λ (r : Replica). suspected r c.args.other) c.self.view_is
