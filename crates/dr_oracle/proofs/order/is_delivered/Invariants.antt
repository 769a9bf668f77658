use Rattle.std.proofs.Common.{◌≢◌, ℕ, ◌<◌, List, slice_get, Some}
use Rattle.dr_entry.specs.declared.entry.Entry.TheVariants.{Msg}
use Rattle.dr_oracle.proofs.order.is_delivered.Given as goal

abbrev pub invariant-loop-entry : goal.invariant-loop-entry
invariant-loop-entry l =
    (k : ℕ) (b : List ℕ) → k < l.entry-index → slice_get l.history k ≢ Some (Msg l.member l.sent b)
