-- Deeds that store a word of the table.
use Rattle.std.specs.Prelude.{◌≡◌, ℕ}
use Rattle.dr_program.specs.declared.deed.Deed.{Deed}
use Rattle.dr_program.specs.declared.deed.Deed.TheVariants as deeds

-- the deed stores this word at this index: it is a push, or an act
abbrev pub IsStore : ℕ → ℕ → Deed → Type 0
IsStore index word (deeds.Push i w) = (i ≡ index) × (w ≡ word)
IsStore index word (deeds.Act i w) = (i ≡ index) × (w ≡ word)
IsStore index word d = ⊥
