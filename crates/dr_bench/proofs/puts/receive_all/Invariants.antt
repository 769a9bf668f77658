use Rattle.dr_bench.proofs.Items.{AreReceived}
use Rattle.dr_bench.proofs.puts.receive_all.Given as goal

abbrev pub invariant-loop-row : goal.invariant-loop-row
invariant-loop-row l = AreReceived l.shape l.word l.rows
