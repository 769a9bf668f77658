-- Places as numbers: a place has one item number and one rank.
use Rattle.std.proofs.{Common.{◌≡◌, ℕ, ◌/◌, ◌%◌, ◌<◌}, lemmas.Nat.{div-mul-add, mod-mul-add, div-add-mod'}}
use Rattle.dr_history.specs.Places.{place_of}

-- the item number of a place is that of the item
pub place_of-div : (ranks rank k : ℕ) → rank < ranks → place_of ranks rank k / ranks ≡ k
place_of-div ranks rank k h = div-mul-add k ranks rank h

-- the rank of an item's place is that of the item
pub place_of-mod : (ranks rank k : ℕ) → rank < ranks → place_of ranks rank k % ranks ≡ rank
place_of-mod ranks rank k h = mod-mul-add k ranks rank h

-- a place is that of its item number and its rank
pub place_of-split : (ranks p : ℕ) → place_of ranks (p % ranks) (p / ranks) ≡ p
place_of-split ranks p = div-add-mod' p ranks
