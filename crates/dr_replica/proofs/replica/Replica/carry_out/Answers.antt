use Rattle.dr_replica.proofs.Insides.{decided_kept}
use Rattle.dr_replica.proofs.replica.Replica.carry_out.Goals as goal

pub invariant_of-self-in-Commit-1 : goal.invariant_of-self-in-Commit-1
invariant_of-self-in-Commit-1 c = decided_kept c.self-in-Commit.inside c.self-in-Commit.invariant
