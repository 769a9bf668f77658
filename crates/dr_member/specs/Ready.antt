-- Which of the next items of another member are there.
use Rattle.std.specs.{Int.bit_at, Prelude.{◌≡◌, ℕ, ◌+◌, ◌<◌, ◌≤◌, ◌↔◌, true}}
use Rattle.dr_ring.specs.Slots.{IsReady, slot_of}
use Rattle.dr_program.specs.declared.place.Part.TheVariants as parts
use Rattle.dr_program.specs.{Replica.{Replica, count, is_other}, Turn.part_of, declared.place.Place.Place}

-- bit i of the mask is set exactly where all words are seen that the item of s needs which is i behind the
-- next one
pub record TellsReady (r : Replica) (s mask : ℕ) : Type 0 where
  pub set : (i : ℕ) → i < r.window → (bit_at mask i ≡ 1)
      ↔ IsReady (count r s + i) (slot_of r.window r.rows s (count r s + i))
  pub clear : (i : ℕ) → r.window ≤ i → bit_at mask i ≡ 0

-- it does so of the member whose items are received at this place, where it is another one
abbrev pub KeepsReady : Replica → Place → ℕ → Type 0
KeepsReady r p mask = part_of p ≡ parts.Receive → is_other r p.row ≡ true → TellsReady r p.row mask
