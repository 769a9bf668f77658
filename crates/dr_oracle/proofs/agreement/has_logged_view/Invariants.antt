use Rattle.std.proofs.Common.{◌≡◌, ℕ, ◌<◌, slice_get, Some}
use Rattle.dr_entry.specs.declared.entry.Entry.TheVariants.{View}
use Rattle.dr_history.specs.Agreement.{accounts_of}
use Rattle.dr_oracle.specs.Agreeing.{AllHaveLogged}
use Rattle.dr_oracle.proofs.agreement.has_logged_view.Given as goal

abbrev pub invariant-loop-entry : goal.invariant-loop-entry
invariant-loop-entry l = (i : ℕ) → i < l.entry-index → (number members : ℕ)
    → slice_get l.history i ≡ Some (View l.age number members)
    → AllHaveLogged (accounts_of l.ends) l.durable members → ⊥
