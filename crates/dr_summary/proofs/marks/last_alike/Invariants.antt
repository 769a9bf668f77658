use Rattle.std.proofs.Common.{◌≤◌, All, take}
use Rattle.dr_summary.specs.Marks.{IsMarkUntil}
use Rattle.dr_summary.proofs.marks.last_alike.Given as goal

abbrev pub invariant-loop-member : goal.invariant-loop-member
invariant-loop-member l = (l.number ≤ l.last) × All (IsMarkUntil l.number l.last) (take l.member-index l.members)
