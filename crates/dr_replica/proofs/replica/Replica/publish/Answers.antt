use Rattle.std.proofs.Common.{arith}
use Rattle.dr_words.specs.declared.column.TheConstants.{LOGGED_COLUMN}
use Rattle.dr_program.proofs.Keeps.{published_form}
use Rattle.dr_replica.{specs.Inside.replica_inside, proofs.Insides.word_kept}
use Rattle.dr_replica.proofs.replica.Replica.publish.Goals as goal

pub invariant_of-self : goal.invariant_of-self
invariant_of-self c =
    let a = c.self.inside in
    word_kept a c.set_own.new.self LOGGED_COLUMN a.logged a.acts c.self.invariant c.set_own.ensures.after
    (λ e. omega (arith, e)) (published_form (replica_inside a) c.self.invariant.form)
