-- What is so in every world that is reached: what rings keep, what a member has seen of one, and who shows
-- done.
use Rattle.std.specs.Prelude.{◌≡◌, ℕ, ◌+◌, ◌<◌, ◌≤◌, length, true}
use Rattle.dr_history.specs.Members.{has}
use Rattle.dr_ring.specs.{Pieces.pieces, Slots.slot_column}
use Rattle.dr_words.specs.{Packing.ring_tag, declared.column.TheConstants.{DONE_COLUMN, PIECES}}
use Rattle.dr_machine.specs.{Group.{Group, roster}, Guards.seen_slot, World.{Past, World, items_received}}
use Rattle.dr_faithful.specs.Tells.{item_sent}

-- each member's ring has the pieces of every item that it has put, or pieces of later ones in their place
abbrev pub RingsKeep : Group → Past → Type 0
RingsKeep g past = (s v k part : ℕ) → s < roster g → k < length (past.sent s v)
    → part < length (pieces (item_sent g past.sent s v k))
    → k + 1 ≤ ring_tag (past.own s v (slot_column (roster g) g.window k + part))

-- m has seen the slot of the next item of s as it stands in the ring of s
abbrev pub SeesSlot : Group → World → ℕ → ℕ → Type 0
SeesSlot g w m s = (part : ℕ) → part < PIECES
    → seen_slot g w m s (items_received w m s) part
    ≡ w.past.own s (w.past.view m) (slot_column (roster g) g.window (items_received w m s) + part)

-- every member of a view shows done in it: so its own word says, also once it has left the view
abbrev pub AllShowDone : World → ℕ → ℕ → Type 0
AllShowDone w v members = (i : ℕ) → has members i ≡ true → w.past.own i v DONE_COLUMN ≡ 1
