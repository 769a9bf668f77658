use Rattle.std.proofs.Common.{◌∙◌, ap, sym}
use Rattle.dr_history.specs.Members.{has}
use Rattle.dr_words.proofs.Masks.{somebody}
use Rattle.dr_program.{specs.Replica.is_wedged, proofs.Voting.wedged_inside}
use Rattle.dr_replica.{specs.Inside.replica_inside, proofs.Insides.promise_read}
use Rattle.dr_suspect.specs.Suspicion.{Suspicion}
use Rattle.dr_replica.proofs.replica.Replica.promise.Goals as goal

pub unwrap-requires : goal.unwrap-requires
unwrap-requires c =
    let a = c.self.inside in
    let inside = wedged_inside (replica_inside a) c.self.invariant.form
    (ap is_wedged c.self.view_is ∙ sym c.is_wedged.ensures ∙ c.if-is_wedged.true) in
    somebody c.least.result c.unsuspected.result a.suspects.me c.least.ensures.least
    (c.unsuspected.ensures.me (ap (λ (s : Suspicion). has s.members s.me) c.self.invariant.suspicion ∙ inside))

pub returns-then-is_wedged : goal.returns-then-is_wedged
returns-then-is_wedged c =
    promise_read c.self.inside c.args.self.now c.unsuspected.result c.unwrap.result c.self.invariant
    c.self.view_is (sym c.is_wedged.ensures ∙ c.if-is_wedged.true) c.unsuspected.ensures.members
    (sym c.least.ensures.first ∙ c.unwrap.ensures)
