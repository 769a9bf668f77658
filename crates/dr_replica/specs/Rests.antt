-- What is delivered as a view ends.
use Rattle.std.specs.List.{list_all}
use Rattle.std.specs.Prelude.{◌≡◌, ℕ, ◌+◌, ◌≤◌, ◌++◌, ◌&&◌, Bool, List, fold, length, nat_lt, slice_index}
use Rattle.dr_entry.specs.declared.entry.Entry.{Entry}
use Rattle.dr_history.specs.{Order.messages_from, Places.rest_places}
use Rattle.dr_machine.specs.Effects.{entries_of}
use Rattle.dr_program.specs.Replica.{Replica, count, me, members_in_view, with_place}
use Rattle.dr_replica.specs.Items.{Held, counts_of, item_held_at, sender_held_at}
use Rattle.dr_trim.specs.Trims.{trims_by_rank}

-- these entries with the item of a place
abbrev pub with_item : Held → List Entry → ℕ → List Entry
with_item h es p = es ++ entries_of es (sender_held_at h p) (item_held_at h p)

-- and with those of the places from p on that the trims of the members take
abbrev pub merged_from : Held → List Entry → List ℕ → ℕ → List Entry
merged_from h es trims p = fold (with_item h) es (rest_places trims p)

-- a replica's history so
abbrev pub merged : Replica → List ℕ → List Entry
merged r trim = fold (with_place r) r.history (rest_places (trims_by_rank r.members trim) r.next)

-- there is a trim for each rank, and none takes an item that is not there
pub record AreWithin (h : Held) (trims : List ℕ) : Type 0 where
  pub ranks : length trims ≡ length h.members
  pub taken : (i : ℕ) → slice_index trims i ≤ slice_index (counts_of h) i

abbrev pub has_taken : Replica → List ℕ → Bool
has_taken r trim = list_all (λ s. nat_lt (slice_index trim s) (count r s + 1)) (members_in_view r)

-- there is room for the entries and a View, and they have no more of the member's messages than there are
abbrev pub fits : Replica → List Entry → Bool
fits r es = nat_lt (length es) r.room && nat_lt (length (messages_from (me r) es)) (length r.messages + 1)
