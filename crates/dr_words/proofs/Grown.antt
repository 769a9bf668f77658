-- What a test of growth decides.
use Rattle.std.{specs.Prelude.{◌↔◌, IsTrue}, proofs.Common.{ℕ, Bool}}
use Rattle.dr_words.specs.Grown.{HasGrown}

abbrev pub IsGrowthTest : ℕ → ℕ → ℕ → ℕ → Bool → Type 0
IsGrowthTest n c old new b = IsTrue b ↔ HasGrown n c old new
