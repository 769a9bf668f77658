-- What is known of the entries that were read.
use Rattle.std.specs.Prelude.{◌≡◌, ℕ, ◌<◌, List, length, slice_index_or}
use Rattle.dr_entry.specs.declared.entry.Entry.{Entry}
use Rattle.dr_history.specs.{History.view_of, Order.messages_from}
use Rattle.dr_check.specs.declared.past.Past.{Past}

-- the view that they end in, and how many messages of each sender they have
pub record IsPast (read : List Entry) (past : Past) : Type 0 where
  pub in_view : past.view ≡ view_of read
  pub places : length past.counts ≡ 256
  pub counted : (s : ℕ) → s < 256 → slice_index_or past.counts s 0 ≡ length (messages_from s read)
