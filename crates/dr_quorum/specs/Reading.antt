-- What is known of entries that are read one by one.
use Rattle.std.specs.Prelude.{◌≡◌, ℕ, ◌<◌, List, length, slice_index_or, Option}
use Rattle.dr_entry.specs.declared.entry.Entry.{Entry}
use Rattle.dr_history.specs.{History.{GroupView, view_of}, Order.messages_from}

-- of those that were read the view, and how many messages of each sender there are
pub record IsRead (read : List Entry) (view : Option GroupView) (counts : List ℕ) : Type 0 where
  pub in_view : view ≡ view_of read
  pub places : length counts ≡ 16
  pub counted : (s : ℕ) → s < 16 → slice_index_or counts s 0 ≡ length (messages_from s read)
