-- Lists for letters.
use Rattle.std.specs.Prelude.{ℕ}

-- how many lists are left, each with room for so many entries
pub record Spare : Type 0 where
  pub count : ℕ
  pub room : ℕ
