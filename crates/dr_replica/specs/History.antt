-- The history of a member, which knows how many messages of each member it has.
use Rattle.std.specs.Prelude.{ℕ, ◌^◌, ◌<◌, ◌≤◌, List, ◌++◌, length}
use Rattle.dr_entry.specs.declared.entry.{Entry.Entry, Item.Item}
use Rattle.dr_machine.specs.Effects.{entries_of}

-- the number of members of the roster, the entries, and how many there is room for
pub record Kept : Type 0 where
  pub roster : ℕ
  pub entries : List Entry
  pub room : ℕ

-- an item of a member was delivered
abbrev pub delivered : Kept → ℕ → Item → Kept
delivered h s item = record h { entries = h.entries ++ entries_of h.entries s item }

-- there is room for the entries
pub record HasEntryRoom (h : Kept) : Type 0 where
  pub roster : h.roster ≤ 16
  pub within : length h.entries ≤ h.room
  pub small : h.room < 2 ^ 32
