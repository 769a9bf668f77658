use Rattle.std.proofs.Common.{take}
use Rattle.dr_entry.proofs.Entries.{HasNoFirst}
use Rattle.dr_quorum.proofs.path.first_members.Given as goal

abbrev pub invariant-loop-entry : goal.invariant-loop-entry
invariant-loop-entry l = HasNoFirst l.age (take l.entry-index l.entries)
