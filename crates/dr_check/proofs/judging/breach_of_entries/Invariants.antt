use Rattle.std.proofs.Common.{◌-◌, length, take}
use Rattle.dr_entry.proofs.ListFacts.{KeepBelow}
use Rattle.dr_check.specs.{Flaws.{EntryKeeps, own_entries}, Past.IsPast}
use Rattle.dr_check.proofs.judging.breach_of_entries.Given as goal

abbrev pub invariant-loop-at : goal.invariant-loop-at
invariant-loop-at l = IsPast (take l.at l.member.history) l.past
    × KeepBelow (EntryKeeps l.clause l.script l.age l.n l.member) (own_entries l.age l.member)
    (l.at - length l.age.start)
