-- What a member puts in a view.
use Rattle.std.specs.Prelude.{◌≡◌, ℕ, ◌+◌, ◌<◌, ◌≤◌, List, length, slice_get, Some}
use Rattle.dr_entry.specs.declared.end.SentItem.{SentItem, TheVariants.Index}
use Rattle.dr_history.specs.History.{messages_in}

-- what a member has put in a view: its messages, one by one from the first one on, and nulls once none is
-- left
pub record IsPut (first total : ℕ) (items : List SentItem) : Type 0 where
  pub index : (k : ℕ) → k < messages_in items → slice_get items k ≡ Some (Index (first + k))
  pub left : first + messages_in items ≤ total
  pub nulls : messages_in items < length items → first + messages_in items ≡ total
