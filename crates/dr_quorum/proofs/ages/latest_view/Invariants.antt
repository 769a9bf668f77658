use Rattle.std.proofs.Common.{take}
use Rattle.dr_quorum.{specs.Knowing.IsGreatestAge, proofs.Knowing.{IsViewOf, OfSome}}
use Rattle.dr_quorum.proofs.ages.latest_view.Given as goal

abbrev pub invariant-loop-entry : goal.invariant-loop-entry
invariant-loop-entry l = IsGreatestAge (OfSome IsViewOf (take l.entry-index l.entries)) l.best
