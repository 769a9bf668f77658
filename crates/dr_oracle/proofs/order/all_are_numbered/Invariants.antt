use Rattle.std.proofs.Common.{◌≡◌, ℕ, ◌<◌, List, slice_get, Some}
use Rattle.dr_entry.specs.declared.entry.Entry.TheVariants.{Msg}
use Rattle.dr_history.specs.{History.IsPrefixOf, Order.{messages_from, numbered_messages}}
use Rattle.dr_oracle.proofs.order.all_are_numbered.Given as goal

abbrev pub invariant-loop-entry : goal.invariant-loop-entry
invariant-loop-entry l = (i : ℕ) → i < l.entry-index → (s index : ℕ) (b : List ℕ)
    → slice_get l.history i ≡ Some (Msg s index b)
    → IsPrefixOf (messages_from s l.history) (numbered_messages l.opening s)
