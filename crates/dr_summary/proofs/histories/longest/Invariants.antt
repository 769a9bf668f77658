use Rattle.std.proofs.Common.{◌≡◌, drop}
use Rattle.dr_summary.specs.Histories.{longest, longest_from}
use Rattle.dr_summary.proofs.histories.longest.Given as goal

abbrev pub invariant-loop-member : goal.invariant-loop-member
invariant-loop-member l = longest l.members ≡ longest_from l.longest (drop l.member-index l.members)
