-- A member wherever in its turn it stands, and how many places of the turn come from there on.
use Rattle.std.specs.Prelude.{◌≡◌, ℕ, ◌+◌, ◌*◌, ◌-◌, ◌<◌, ◌≤◌, drop, false, None}
use Rattle.dr_program.specs.{Form.HasForm, Running.{Running, WaitsAt, members, columns, applies}}
use Rattle.dr_program.specs.Turn.{IsIn, after, part_of, rows_in, columns_in, places_in, turn_begins}
use Rattle.dr_program.specs.declared.place.{Place.Place, TheConstants.TURN}
use Rattle.dr_suspect.specs.Waits.{IsWaits}

-- how many places of the turn come from here on
unfoldable pub left : ℕ → ℕ → Place → ℕ
left n k p = places_in n k (drop (p.part + 1) TURN) + (rows_in n (part_of p) * columns_in k
    (part_of p) - (p.row * columns_in k (part_of p) + p.column))

-- q comes at or after p in the turn, and at none of the places from p up to it is there something to do
pub data Passed (r : Running) : Place → Place → Type 0 where
  here : (p : Place) → Passed r p p
  on : (p q : Place) → applies r p ≡ false → Passed r (after (members r) (columns r) p) q
      → Passed r p q

-- the form of a running member, wherever in its turn it stands
pub record IsUnderway (r : Running) : Type 0 where
  pub replica : HasForm r.replica
  pub place : IsIn (members r) (columns r) r.place
  pub turns : r.replica.turns ≤ r.limit
  pub waits : IsWaits r.waits
  pub free : WaitsAt r (part_of r.place)
  pub left : r.replica.end ≡ None → part_of r.place ≡ turn_begins → r.replica.turns < r.limit
