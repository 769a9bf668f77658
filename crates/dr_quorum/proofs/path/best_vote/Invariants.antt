use Rattle.std.proofs.Common.{◌≡◌}
use Rattle.dr_restart.specs.Choosing.{highest}
use Rattle.dr_quorum.proofs.Votes.{votes_below}
use Rattle.dr_quorum.proofs.path.best_vote.Given as goal

abbrev pub invariant-loop-m : goal.invariant-loop-m
invariant-loop-m l = l.best ≡ highest (votes_below l.lists l.roster l.age l.view l.members l.m)
