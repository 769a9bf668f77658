use Rattle.std.proofs.Common.{◌≡◌, ℕ, ◌<◌, false, slice_get, Some}
use Rattle.dr_entry.specs.declared.entry.Entry.TheVariants.{View}
use Rattle.dr_history.specs.Members.{has}
use Rattle.dr_oracle.proofs.succession.is_in_no_view.Given as goal

abbrev pub invariant-loop-entry : goal.invariant-loop-entry
invariant-loop-entry l = (i : ℕ) → i < l.entry-index → (number members : ℕ)
    → slice_get l.entries i ≡ Some (View l.age number members) → has members l.member ≡ false
