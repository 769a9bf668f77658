-- What a message is.
use Rattle.std.specs.Prelude.{ℕ, ◌<◌, ◌≤◌, List, length, All}
use Rattle.dr_entry.specs.declared.limits.TheConstants.{MAX_MESSAGE_LENGTH}

-- a message is a list of bytes, of which it has not too many
pub record IsMessage (bytes : List ℕ) : Type 0 where
  pub few : length bytes ≤ MAX_MESSAGE_LENGTH
  pub small : All (λ byte. byte < 256) bytes
