use Rattle.dr_seat.specs.Words.{AreTaken}
use Rattle.dr_seat.proofs.run.Run.take.Given as goal

abbrev pub invariant-loop-k : goal.invariant-loop-k
invariant-loop-k l = AreTaken l.self.door l.from l.words l.k
