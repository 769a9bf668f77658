-- How far the loop over a source has come.
use Rattle.std.proofs.Common.{◌≡◌, ℕ, ◌≤◌, List, length, Option}
use Rattle.dr_io.specs.Source.{Loses}

-- these bytes were read so far, and no call failed
pub record ReadsSoFar (most : ℕ) (old new : Option (List ℕ)) (before after : ℕ) (bytes : List ℕ) : Type 0 where
  pub lost : Loses old new bytes
  pub limit : length bytes ≤ most
  pub calm : after ≡ before
