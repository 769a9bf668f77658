use Rattle.std.proofs.Common.{arith}
use Rattle.dr_words.specs.declared.column.TheConstants.{DONE_COLUMN}
use Rattle.dr_program.proofs.Keeps.{marked_form}
use Rattle.dr_replica.{specs.Inside.replica_inside, proofs.Insides.word_kept}
use Rattle.dr_replica.proofs.replica.Replica.mark.Goals as goal

pub invariant_of-self : goal.invariant_of-self
invariant_of-self c =
    let a = c.self.inside in
    word_kept a c.set_own.new.self DONE_COLUMN 1 a.acts c.self.invariant c.set_own.ensures.after
    (λ e. omega (arith, e)) (marked_form (replica_inside a) c.self.invariant.form)
