-- What a crash may leave of a disk by each range that was written since its last sync.
use Rattle.std.specs.Prelude.{◌≡◌, ℕ, ◌+◌, ◌<◌, ◌≤◌, min, List, [], ◌∷◌, length, slice_index, ⊤, ◌⊎◌}
use Rattle.dr_disk.specs.Calls.{Call, Write, FailedWrite, Cut, FailedCut, State, Sync, at_rest, step}

-- so many bytes, from this place on
pub record Range : Type 0 where
  pub at : ℕ
  pub count : ℕ

-- A disk, with what the last sync left, and the ranges that were written since then.
pub record Pending : Type 0 where
  pub disk : State
  pub synced : List ℕ
  pub ranges : List Range

-- these bytes, and nothing pending
abbrev pub settled : List ℕ → Pending
settled bytes = record { disk = at_rest bytes; synced = bytes; ranges = [] }

-- what the last sync left, after one call more
abbrev pub synced_after : Pending → Call → List ℕ
synced_after p Sync = p.disk.content
synced_after p call = p.synced

-- the ranges then; a write that begins past the end counts as one at the end
abbrev pub ranges_after : Pending → Call → List Range
ranges_after p (Write at bytes) =
    record { at = min at (length p.disk.content); count = length bytes } ∷ p.ranges
ranges_after p (FailedWrite at count) = record { at = at; count = count } ∷ p.ranges
ranges_after p (Cut to) = p.ranges
ranges_after p (FailedCut to) = p.ranges
ranges_after p Sync = []

-- the disk after one call more
abbrev pub pend : Pending → Call → Pending
pend p call = record {
  disk = step p.disk call;
  synced = synced_after p call;
  ranges = ranges_after p call;
}

abbrev pub pend_all : Pending → List Call → Pending
pend_all p [] = p
pend_all p (call ∷ calls) = pend_all (pend p call) calls

-- no byte at this place was written
abbrev pub IsUntouched : List Range → ℕ → Type 0
IsUntouched [] i = ⊤
IsUntouched (range ∷ ranges) i = ((i < range.at) ⊎ (range.at + range.count ≤ i)) × IsUntouched ranges i

-- Any bytes may stand in a range that was written, and past the end that was synced. All else stays.
pub record IsLeftByWrites (p : Pending) (image : List ℕ) : Type 0 where
  pub no_shorter : p.disk.least ≤ length image
  pub no_longer : length image ≤ p.disk.greatest
  pub stays : (i : ℕ) → i < length image → i < length p.synced → IsUntouched p.ranges i
      → slice_index image i ≡ slice_index p.synced i

-- a crash may leave these bytes of an empty disk after these calls
abbrev pub IsImageByRanges : List Call → List ℕ → Type 0
IsImageByRanges calls image = IsLeftByWrites (pend_all (settled []) calls) image
