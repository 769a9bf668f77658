-- The items that a member has in its view.
use Rattle.std.specs.Prelude.{◌≡◌, ℕ, ◌+◌, ◌*◌, ◌/◌, ◌%◌, ◌<◌, ◌≤◌, List, length, map, replicate, slice_index, slice_index_or, slice_set}
use Rattle.dr_entry.specs.declared.entry.Item.{Item, TheVariants.Null}
use Rattle.dr_history.specs.{Members.members_of, Places.front_of}

-- the view's members, ascending; the number of members of the roster; the greatest number of items of a
-- member; by member
-- how many items it has of it; and the items, of which item k of member s stands at k times the roster plus s
pub record Held : Type 0 where
  pub members : List ℕ
  pub roster : ℕ
  pub most : ℕ
  pub counts : List ℕ
  pub items : List Item

-- no items yet
abbrev pub none_held : ℕ → ℕ → ℕ → Held
none_held mask roster most = record {
  members = members_of mask;
  roster = roster;
  most = most;
  counts = replicate roster 0;
  items = replicate (most * roster) Null;
}

-- the counts by rank, and their front
abbrev pub counts_of : Held → List ℕ
counts_of h = map (slice_index h.counts) h.members

abbrev pub front : Held → ℕ
front h = front_of (counts_of h)

-- one item more of a member
abbrev pub taken : Held → ℕ → Item → Held
taken h s item = let k = slice_index h.counts s in record h {
  counts = slice_set h.counts s (k + 1);
  items = slice_set h.items (k * h.roster + s) item;
}

-- the sender of a place, and the item there
abbrev pub sender_held_at : Held → ℕ → ℕ
sender_held_at h p = slice_index h.members (p % length h.members)

abbrev pub item_held_at : Held → ℕ → Item
item_held_at h p = slice_index_or h.items (p / length h.members * h.roster + sender_held_at h p) Null

-- the members are of the roster, and there is room for the items of each
pub record IsHeld (h : Held) : Type 0 where
  pub roster : h.roster ≤ 16
  pub some : 0 < length h.members
  pub few : length h.members ≤ 16
  pub members : (i : ℕ) → i < length h.members → slice_index h.members i < h.roster
  pub most : h.most ≤ 4096
  pub counts : length h.counts ≡ h.roster
  pub bounded : (s : ℕ) → slice_index h.counts s ≤ h.most
  pub items : length h.items ≡ h.most * h.roster
