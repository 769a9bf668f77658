use Rattle.std.proofs.Common.{◌≡◌, take, true}
use Rattle.dr_entry.proofs.ListFacts.{is_free}
use Rattle.dr_check.proofs.reading.line_end.Given as goal

abbrev pub invariant-loop-at : goal.invariant-loop-at
invariant-loop-at l = is_free (take l.at l.bytes) ≡ true
