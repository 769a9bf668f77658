-- What a word tells of the owner of its row.
-- V gives the members of each view, as a mask, by the view's number.
use Rattle.std.specs.Prelude.{◌≡◌, ◌≢◌, ℕ, ◌+◌, ◌%◌, ◌<◌, ◌≤◌, ◌⊎◌, true, List, length, map, take, slice_index, slice_index_or, []}
use Rattle.dr_entry.specs.declared.{end.SentItem.{SentItem, TheVariants.{Null, Index}}, entry.Entry.Entry}
use Rattle.dr_entry.specs.declared.entry.Item.{Item}
use Rattle.dr_entry.specs.declared.entry.Item.TheVariants as items
use Rattle.dr_history.specs.{History.{Sent, messages_of}, Members.{has, members_of}, Order.messages_from}
use Rattle.dr_history.specs.Places.{front_of}
use Rattle.dr_ring.specs.Pieces.{pieces}
use Rattle.dr_words.specs.{Columns.{recv_column, head_column}, Masks.IsPartOf}
use Rattle.dr_words.specs.{Packing.{accept_promise, is_final, ring_word, recv_count}, Rewrites.is_accept_of}
use Rattle.dr_words.specs.declared.column.TheConstants.{BEAT_COLUMN, SUSPECTED_COLUMN, RECEIVED_COLUMN, LOGGED_COLUMN, DONE_COLUMN, PIECES}
use Rattle.dr_machine.specs.{Group.{Group, roster}, World.{Past, World, own_word}}

-- the members of each view, as a mask, by the view's number
abbrev pub Views : Type 0
Views = ℕ → ℕ

-- the item that an element of what s has put names: a null, or the message of the script with that index
abbrev pub item_named : Group → ℕ → SentItem → Item
item_named g s Null = items.Null
item_named g s (Index i) = items.Text (slice_index_or (messages_of g.opening s) i [])

-- item k that s has put in a view
abbrev pub item_sent : Group → Sent → ℕ → ℕ → ℕ → Item
item_sent g sent s v k = item_named g s (slice_index_or (sent s v) k Null)

-- the word is piece `part` of an item that stands in this slot, one of the `total` items that were put
pub record IsPiece (g : Group) (total : ℕ) (items : ℕ → Item) (slot part word : ℕ) : Type 0 where
  pub number : ℕ
  pub put : number < total
  pub place : number % g.window ≡ slot
  pub needed : part < length (pieces (items number))
  pub made : word ≡ ring_word number (slice_index (pieces (items number)) part)

-- a word of a ring is such a piece, or nothing
abbrev pub TellsPiece : Group → ℕ → (ℕ → Item) → ℕ → ℕ → ℕ → Type 0
TellsPiece g total items slot part word = (word ≡ 0) ⊎ IsPiece g total items slot part word

-- the column of a part of a slot
abbrev pub part_column : Group → ℕ → ℕ → ℕ
part_column g slot part = head_column (roster g) slot + part

-- the entries have all messages that the script gives the members of this mask
abbrev pub HasAll : Group → ℕ → List Entry → Type 0
HasAll g mask entries =
    (s : ℕ) → has mask s ≡ true → length (messages_of g.opening s)
    ≤ length (messages_from s entries)

-- what a word of column c tells of member i, where it stands in i's row in the bank of view v: never more
-- than is true
pub record Tells (g : Group) (V : Views) (past : Past) (i v c word : ℕ) : Type 0 where
  -- how many acts it has done
  pub beat : c ≡ BEAT_COLUMN → word ≤ past.acts i
  -- up to which place it has all items of the view
  pub received : c ≡ RECEIVED_COLUMN → word ≤ front_of (map (past.count i v) (members_of (V v)))
  -- how many entries its log has
  pub logged : c ≡ LOGGED_COLUMN → word ≤ length (past.log i)
  -- whether it has all messages of the view, durably
  pub done : c ≡ DONE_COLUMN → (word ≤ 1)
      × (word ≡ 1 → HasAll g (V v) (take (past.durable i) (past.history i)))
  -- how many items of a sender it has
  pub recv : (s : ℕ) → s < roster g → c ≡ recv_column s → recv_count word ≤ past.count i v s
  -- a piece of an item that it has put
  pub ring : (slot part : ℕ) → slot < g.window → part < PIECES → c ≡ part_column g slot part
      → TellsPiece g (length (past.sent i v)) (item_sent g past.sent i v) slot part word

-- what a word of column c tells of whom member i suspects in a view, and of what that makes final, where it
-- stands in i's row in the bank of that view: it is told of i's own words there, also once i has left the
-- view
pub record TellsSuspicion (g : Group) (past : Past) (i v c word : ℕ) : Type 0 where
  -- whom it suspects
  pub suspected : c ≡ SUSPECTED_COLUMN → IsPartOf word (past.own i v SUSPECTED_COLUMN)
  -- where a count is final, how many items of that sender it has, for good
  pub final : (s : ℕ) → s < roster g → c ≡ recv_column s → is_final word ≡ true
      → (past.own i v c ≡ word) × (past.count i v s ≡ recv_count word)
      × (past.own i v SUSPECTED_COLUMN ≢ 0)
  -- whose proposal it waits for: of that member, or of a greater one by now
  pub promise : accept_promise word ≤ accept_promise (past.own i v c)

-- every word tells that: own words, those of the table, and those that were seen. In the view that it is
-- in, the own words of a member say whom it suspects, and its accept words what it has promised
pub record SuspicionsTold (g : Group) (w : World) : Type 0 where
  pub own : (i v c : ℕ) → TellsSuspicion g w.past i v c (w.past.own i v c)
  pub table : (v j i c : ℕ) → TellsSuspicion g w.past i v c (w.table v j i c)
  pub seen : (m i c : ℕ) → i ≢ m → TellsSuspicion g w.past i (w.past.view m) c (w.seen m i c)
  pub suspects : (i : ℕ) → own_word w i SUSPECTED_COLUMN ≡ w.suspects i
  pub promises : (i c : ℕ) → is_accept_of (roster g) (w.members i) c ≡ true
      → accept_promise (own_word w i c) ≡ w.promise i

-- every word tells: own words, those of the table, and those that were seen
pub record WordsTell (g : Group) (V : Views) (w : World) : Type 0 where
  pub own : (i v c : ℕ) → Tells g V w.past i v c (w.past.own i v c)
  pub table : (v j i c : ℕ) → Tells g V w.past i v c (w.table v j i c)
  pub seen : (m i c : ℕ) → Tells g V w.past i (w.past.view m) c (w.seen m i c)
