use Rattle.std.proofs.Common.{take}
use Rattle.dr_entry.proofs.ListFacts.{KeepBelow}
use Rattle.dr_check.specs.{Clauses.MayStart, Past.IsPast}
use Rattle.dr_check.proofs.starts.keeps_start.Given as goal

abbrev pub invariant-loop-at : goal.invariant-loop-at
invariant-loop-at l = IsPast (take l.at l.age.start) l.past
    × KeepBelow (λ i e. MayStart l.script (take i l.age.start) e) l.age.start l.at
