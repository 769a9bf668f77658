use Rattle.std.proofs.Common.{take}
use Rattle.dr_restart.specs.Choosing.{EndsInAge}
use Rattle.dr_quorum.{specs.Knowing.{IsGreatestAge, OfLog}, proofs.Knowing.OfSome}
use Rattle.dr_quorum.proofs.ages.latest_end.Given as goal

abbrev pub invariant-loop-list : goal.invariant-loop-list
invariant-loop-list l = IsGreatestAge (OfSome (OfLog EndsInAge) (take l.list-index l.lists)) l.best
