use Rattle.std.proofs.Common.{ℕ, ◌<◌, slice_index_or}
use Rattle.dr_entry.specs.{Spelling.IsValidEntry, declared.entry.Entry.Entry}
use Rattle.dr_door.proofs.letters.are_valid.Given as goal

-- all are valid, as far as the loop has come
abbrev pub invariant-loop-i : goal.invariant-loop-i
invariant-loop-i l = (k : ℕ) (d : Entry) → k < l.i → IsValidEntry (slice_index_or l.entries k d)
