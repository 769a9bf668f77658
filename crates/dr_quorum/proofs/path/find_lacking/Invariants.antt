use Rattle.dr_quorum.proofs.Paths.{IsWalked}
use Rattle.dr_quorum.proofs.path.find_lacking.Given as goal

abbrev pub invariant-loop-view : goal.invariant-loop-view
invariant-loop-view l = IsWalked l.lists l.roster l.age l.fn.first l.view l.members
