-- One image that a crash may leave of a disk.
use Rattle.std.specs.Prelude.{◌≡◌, ℕ, ◌<◌, ◌≤◌, List, length, slice_index}
use Rattle.dr_disk.specs.Ranges.{IsUntouched, Pending}

-- It is as long as it may be. What was synced stands where no range was written since, and this byte stands in all
-- other places.
pub record IsFilled (fill : ℕ) (p : Pending) (image : List ℕ) : Type 0 where
  pub long : length image ≡ p.disk.greatest
  pub stays : (i : ℕ) → i < length p.synced → IsUntouched p.ranges i
      → slice_index image i ≡ slice_index p.synced i
  pub filled : (i : ℕ) → i < length image → (i < length p.synced → IsUntouched p.ranges i → ⊥)
      → slice_index image i ≡ fill

-- what a read gives of a disk, and such an image of it
pub record IsReplayed (fill : ℕ) (p : Pending) (now image : List ℕ) : Type 0 where
  pub read : now ≡ p.disk.content
  pub fits : length p.synced ≤ p.disk.greatest
  pub filled : IsFilled fill p image
