-- The order of the places in a turn.
use Rattle.std.specs.Prelude.{ℕ, ◌+◌, ◌*◌, ◌<◌, nat_lt, if◌then◌else◌, Bool, true, false, List, [], ◌∷◌, length, slice_index_or}
use Rattle.dr_program.specs.declared.place.{Part.Part, Place.Place, TheConstants.{TURN, TURN_ENDS}}
use Rattle.dr_machine.specs.declared.event.Act.TheVariants as acts
use Rattle.dr_program.specs.declared.place.Part.TheVariants as parts

-- the part with which a turn begins, and whether a part is it
abbrev pub turn_begins : Part
turn_begins = parts.Do acts.Beat

abbrev pub is_beat : Part → Bool
is_beat (parts.Do acts.Beat) = true
is_beat part = false

-- the part of a place
abbrev pub part_of : Place → Part
part_of p = slice_index_or TURN p.part turn_begins

-- how many rows and columns a part has, for so many members and columns
abbrev pub rows_in : ℕ → Part → ℕ
rows_in n parts.Look = n
rows_in n parts.Receive = n
rows_in n parts.Push = n
rows_in n parts.Give = n
rows_in n p = 1

abbrev pub columns_in : ℕ → Part → ℕ
columns_in k parts.Look = k
columns_in k parts.Push = k
columns_in k p = 1

-- the place is one of a turn
pub record IsIn (n k : ℕ) (p : Place) : Type 0 where
  pub part : p.part < length TURN
  pub row : p.row < rows_in n (part_of p)
  pub column : p.column < columns_in k (part_of p)

-- the next place
abbrev pub after : ℕ → ℕ → Place → Place
after n k p =
    if nat_lt (p.column + 1) (columns_in k (part_of p)) then record p { column = p.column + 1 }
    else (if nat_lt (p.row + 1) (rows_in n (part_of p)) then record p { row = p.row + 1; column = 0 }
    else record { part = if nat_lt (p.part + 1) (length TURN) then p.part + 1 else 0; row = 0; column = 0 })

-- the place at which the end of a turn begins: the first one that a member comes to behind a take
abbrev pub turn_ends : Place
turn_ends = record { part = TURN_ENDS; row = 0; column = 0 }

-- how many places these parts have
unfoldable pub places_in : ℕ → ℕ → List Part → ℕ
places_in n k [] = 0
places_in n k (p ∷ ps) = rows_in n p * columns_in k p + places_in n k ps
