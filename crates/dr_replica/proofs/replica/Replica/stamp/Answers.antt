use Rattle.std.proofs.Common.{arith}
use Rattle.dr_words.specs.declared.column.TheConstants.{BEAT_COLUMN}
use Rattle.dr_program.proofs.Keeps.{acted_keeps}
use Rattle.dr_replica.{specs.Inside.replica_inside, proofs.Insides.word_kept}
use Rattle.dr_replica.proofs.replica.Replica.stamp.Goals as goal

pub invariant_of-self : goal.invariant_of-self
invariant_of-self c = word_kept c.self.inside c.set_own.new.self BEAT_COLUMN c.saturating_add-self-inside.result
    c.saturating_add-self-inside.result c.self.invariant c.set_own.ensures.after (λ e. omega (arith, e))
    (rw c.saturating_add-self-inside.ensures (acted_keeps (replica_inside c.self.inside) c.self.invariant.form))
