-- A spot is a place, split.
use Rattle.std.proofs.Common.{◌≡◌, ℕ, ◌/◌, ◌%◌, ◌<◌, sym, ap, ◌∙◌, arith}
use Rattle.dr_history.proofs.PlaceLemmas.{place_of-div, place_of-mod}
use Rattle.dr_replica.specs.{Spots.{IsSpot, first_spot}, declared.spot.Spot.Spot}

-- the first spot is a spot of any members
pub first_is_spot : (ranks : ℕ) → 0 < ranks → IsSpot ranks first_spot
first_is_spot ranks some = record { rank = some; place = omega arith }

-- the rank and the number of the place
pub spot_rank : (ranks : ℕ) (s : Spot) → IsSpot ranks s → s.rank ≡ s.place % ranks
spot_rank ranks s is = sym (ap (λ (p : ℕ). p % ranks) is.place ∙ place_of-mod ranks s.rank s.number is.rank)

-- the number of a spot is its place divided by the ranks
pub spot_number : (ranks : ℕ) (s : Spot) → IsSpot ranks s → s.number ≡ s.place / ranks
spot_number ranks s is = sym (ap (λ (p : ℕ). p / ranks) is.place ∙ place_of-div ranks s.rank s.number is.rank)
