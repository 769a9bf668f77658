use Rattle.std.proofs.Common.{◌≡◌, ℕ, ◌<◌, List, slice_get, Some, IsSome}
use Rattle.dr_entry.specs.declared.entry.Entry.TheVariants.{Msg}
use Rattle.dr_history.specs.History.{sent_of, place_at}
use Rattle.dr_oracle.proofs.order.messages_are_placed.Given as goal

abbrev pub invariant-loop-i : goal.invariant-loop-i
invariant-loop-i l = (i : ℕ) → i < l.i → l.start < i → (s index : ℕ) (b : List ℕ)
    → slice_get l.history i ≡ Some (Msg s index b) → IsSome (place_at (sent_of l.ends) l.history i)
