use Rattle.std.proofs.Common.{◌≡◌, ℕ, ◌<◌, get_or, false}
use Rattle.dr_check.specs.Fields.{is_end}
use Rattle.dr_check.proofs.fields.field_end.Given as goal

abbrev pub invariant-loop-at : goal.invariant-loop-at
invariant-loop-at l = (k : ℕ) → k < l.at → is_end (get_or l.bytes k 0) ≡ false
