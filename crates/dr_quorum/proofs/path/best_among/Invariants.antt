use Rattle.std.proofs.Common.{◌≡◌, List, ◌++◌, filter, take}
use Rattle.dr_entry.specs.declared.record.Vote.{Vote}
use Rattle.dr_restart.specs.Choosing.{highest, names_next}
use Rattle.dr_quorum.proofs.path.best_among.Given as goal

abbrev pub invariant-loop-vote : goal.invariant-loop-vote
invariant-loop-vote l = (before : List Vote) → l.fn.best ≡ highest before
    → l.best ≡ highest (before ++ filter (names_next l.roster l.age l.view l.members) (take l.vote-index l.votes))
