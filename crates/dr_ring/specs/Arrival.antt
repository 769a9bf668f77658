-- How the words of an item come to another member.
use Rattle.std.specs.List.{list_any, list_all, range_with_len}
use Rattle.std.specs.Prelude.{◌≡◌, ℕ, ◌+◌, ◌<◌, ◌≤◌, Bool, ◌==◌, List, [], ◌∷◌, length, Some, None, if◌then◌else◌}
use Rattle.dr_entry.specs.declared.entry.Item.{Item}
use Rattle.dr_words.specs.{Packing.ring_tag, declared.column.TheConstants.PIECES}
use Rattle.dr_rows.specs.Words.{Words, IsWords, looked, own}
use Rattle.dr_ring.specs.{Pieces.pieces, Slots.{slot_column, slot_of, item_in}}

-- another member of the owner's group, that sees nothing of item k yet: words of earlier items, or none,
-- stand in its slot
pub record Awaits (window : ℕ) (owner : Words) (k : ℕ) (w : Words) : Type 0 where
  pub form : IsWords w
  pub members : w.members ≡ owner.members
  pub columns : w.columns ≡ owner.columns
  pub earlier : (part : ℕ) → part < PIECES → ring_tag (slot_of window w owner.me k part) ≤ k

-- what that member sees once it has looked at these parts of the slot, one after the other
abbrev pub after_looks : ℕ → Words → ℕ → Words → List ℕ → Words
after_looks window owner k w [] = w
after_looks window owner k w (part ∷ parts) =
    let column = slot_column owner.members window k + part in
    after_looks window owner k (looked w owner.me column (own owner column)) parts

-- each word that the item needs is among these parts
abbrev pub has_all : Item → List ℕ → Bool
has_all item parts = list_all (λ needed. list_any (λ part. part == needed) parts)
    (range_with_len 0 (length (pieces item)))

-- whichever parts another member looks at, in any order and any number of times: it sees item k exactly
-- where it has looked
-- at all that the item needs
abbrev pub Arrives : ℕ → Words → ℕ → Item → Type 0
Arrives window owner k item =
    (w : Words) (parts : List ℕ) → Awaits window owner k w
    → item_in k (slot_of window (after_looks window owner k w parts) owner.me k)
    ≡ (if has_all item parts then Some item else None)
