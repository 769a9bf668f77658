use Rattle.std.proofs.Common.{◌≡◌, ℕ, ◌<◌, take, slice_get, Some, IsSomeAnd}
use Rattle.dr_entry.specs.declared.entry.Entry.TheVariants.{View}
use Rattle.dr_history.specs.{History.view_of, Order.IsSucceededBy}
use Rattle.dr_oracle.proofs.order.views_follow.Given as goal

abbrev pub invariant-loop-i : goal.invariant-loop-i
invariant-loop-i l = (i : ℕ) → i < l.i → l.start < i → (age number members : ℕ)
    → slice_get l.history i ≡ Some (View age number members)
    → IsSomeAnd (view_of (take i l.history)) (λ v. IsSucceededBy l.opening (take i l.history) v age number members)
