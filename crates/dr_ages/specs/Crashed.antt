-- Yards behind a crash.
use Rattle.std.specs.Prelude.{◌≡◌, ℕ, ◌<◌, List, IsSomeAnd}
use Rattle.dr_disk.specs.{Calls.at_rest, Disk.{Told, state_of}, Images.IsImage}
use Rattle.dr_yard.specs.Yards.{YardState}

-- a disk that told this reads as one of its images, and nothing is pending
pub record IsLeftOver (old new : Told) : Type 0 where
  pub image : List ℕ
  pub is : IsImage (state_of old) image
  pub rests : state_of new ≡ at_rest image

-- so do the disks of the first n members, which told, and tell: a crash has come
abbrev pub HaveCrashed : ℕ → YardState → YardState → Type 0
HaveCrashed n before after = (m : ℕ) → m < n
    → IsSomeAnd (before.told m) (λ old. IsSomeAnd (after.told m) (IsLeftOver old))
