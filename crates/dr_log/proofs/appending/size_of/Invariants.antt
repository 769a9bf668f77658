use Rattle.std.proofs.Common.{◌≡◌, ◌<◌, ◌-◌, ◌^◌, ℕ, get_or, min, take}
use Rattle.dr_entry.specs.{Spelling.FitsEntry, declared.entry.Entry.Entry}
use Rattle.dr_log.specs.Standing.{entries_length}
use Rattle.dr_log.proofs.appending.size_of.Given as goal

abbrev pub invariant-loop-i : goal.invariant-loop-i
invariant-loop-i l = record {
  size : l.size ≡ min (entries_length (take l.i l.first)) (2 ^ 64 - 1);
  fits : (k : ℕ) (d : Entry) → k < l.i → FitsEntry (get_or l.first k d);
}
