use Rattle.std.proofs.Common.{◌≤◌, All, drop, length, take}
use Rattle.dr_text.proofs.age.longest.Given as goal

abbrev pub invariant-loop-member : goal.invariant-loop-member
invariant-loop-member l =
    All (λ m. length (drop l.start m.history) ≤ length l.longest) (take l.member-index l.members)
