-- What an item that a member puts makes of the world.
use Rattle.std.proofs.Common.{ℕ, ◌+◌, List, [], ◌∷◌, ◌++◌, refl}
use Rattle.dr_entry.specs.declared.{end.SentItem.SentItem, entry.Item.Item}
use Rattle.dr_entry.proofs.NumberFacts.{same_number, other_number}
use Rattle.dr_rows.specs.Words.{own}
use Rattle.dr_ring.specs.{Pieces.pieces, Slots.slot_column}
use Rattle.dr_machine.specs.{Effects.row_with, Group.{Group, roster}, World.World, Writes.at}
use Rattle.dr_program.{specs.Replica.{sent, item}, proofs.{Holdings.{Holding, held, Changes}, Replicas.places}}

-- what a member has with an item put, where these were its own words, its count of its own items, and what
-- it had put in its view
abbrev pub place_from : Group → SentItem → Item → Holding → (ℕ → ℕ) → ℕ → List SentItem → Holding
place_from g name x h own k sent = record h {
  own = at h.own h.view (row_with own (slot_column (roster g) g.window k) k (pieces x));
  sent = at h.sent h.view (sent ++ name ∷ []);
}

abbrev pub place_after : Group → ℕ → SentItem → Item → Holding → Holding
place_after g m name x h = place_from g name x h (h.own h.view) (h.count h.view m) (h.sent h.view)

pub place_changes : (g : Group) (w : World) (m : ℕ) (name : SentItem) (item : Item)
    → Changes w (places g w m name item) m (place_after g m name item (held w m))
place_changes g w m name item = record {
  others = λ k other. rw (other_number k m other) refl;
  here = rw (same_number m) refl;
}
