-- The slots of a ring: when they can be written and read, and what then.
use Rattle.std.specs.List.{list_all, range_with_len}
use Rattle.std.specs.Prelude.{◌≡◌, ◌≢◌, ℕ, ◌+◌, ◌-◌, ◌%◌, ◌<◌, ◌≤◌, ◌⊎◌, Bool, ◌&&◌, ◌||◌, ◌==◌, nat_lt, if◌then◌else◌, true, List, ◌++◌, length, take, drop, map, slice_set, Option, Some, None}
use Rattle.dr_history.specs.Members.{has, members_of}
use Rattle.dr_entry.specs.declared.{entry.Item.Item, limits.TheConstants.MAX_MESSAGE_LENGTH}
use Rattle.dr_words.specs.{Columns.head_column, Counts.count_of, Packing.{ring_word, ring_tag, ring_low}}
use Rattle.dr_rows.specs.Words.{Words, row_of, seen}
pub use Rattle.dr_words.specs.Shapes.{HasShape}
use Rattle.dr_ring.specs.Pieces.{null_mark, is_head, body_len, pieces, item_of}

-- the column of the head of the slot in which item k stands
abbrev pub slot_column : ℕ → ℕ → ℕ → ℕ
slot_column members window k = head_column members (k % window)

-- the words of the slot of item k in a row: part 0 is the head, and the body follows
abbrev pub slot_of : ℕ → Words → ℕ → ℕ → ℕ → ℕ
slot_of window w row k part = seen w row (slot_column w.members window k + part)

-- ---- writing

-- k is among the first items, or each other member has received the item that stood in its slot before
abbrev pub IsFree : ℕ → Words → ℕ → ℕ → Type 0
IsFree window w members k =
    (k < window) ⊎ ((i : ℕ) → has members i ≡ true → i ≢ w.me
    → k - window < count_of w.me (row_of w.words i))

-- the same, as a test
abbrev pub is_free : ℕ → Words → ℕ → ℕ → Bool
is_free window w members k =
    nat_lt k window || list_all (λ i. i == w.me || nat_lt (k - window) (count_of w.me (row_of w.words i)))
    (members_of members)

-- a row with these words from a column on
abbrev pub written : List ℕ → ℕ → List ℕ → List ℕ
written row column words = take column row ++ words ++ drop (column + length words) row

-- the words of a member whose own slot of item k begins with these pieces of it
abbrev pub with_pieces : ℕ → Words → ℕ → List ℕ → Words
with_pieces window w k list =
    record w {
      words =
          slice_set w.words w.me (written (row_of w.words w.me) (slot_column w.members window k)
          (map (ring_word k) list));
    }

-- the words of a member that has put item k
abbrev pub with_item : ℕ → Words → ℕ → Item → Words
with_item window w k item = with_pieces window w k (pieces item)

-- ---- reading

-- the words that item k needs are there: its head, and as many of the body as that asks for
pub record IsReady (k : ℕ) (slot : ℕ → ℕ) : Type 0 where
  pub head : ring_tag (slot 0) ≡ k + 1
  pub length_or_null : (ring_low (slot 0) ≤ MAX_MESSAGE_LENGTH) ⊎ (ring_low (slot 0) ≡ null_mark)
  pub body : (part : ℕ) → part < body_len (ring_low (slot 0)) → ring_tag (slot (1 + part)) ≡ k + 1

-- the word has the tag of item k
abbrev pub is_of : ℕ → ℕ → Bool
is_of k word = ring_tag word == k + 1

-- item k, where the words that it needs are there
abbrev pub item_in : ℕ → (ℕ → ℕ) → Option Item
item_in k slot =
    let head = ring_low (slot 0) in
    let body = map slot (range_with_len 1 (body_len head)) in
    if is_of k (slot 0) && (is_head head && list_all (is_of k) body) then Some
    (item_of head (map ring_low body)) else None
