-- Places of the round robin, with their ranks and the numbers of their items.
use Rattle.std.specs.Prelude.{◌≡◌, ℕ, ◌<◌}
use Rattle.dr_history.specs.Places.{place_of}
use Rattle.dr_replica.specs.declared.spot.Spot.{Spot}

-- the first place
abbrev pub first_spot : Spot
first_spot = record { place = 0; rank = 0; number = 0 }

-- the place is that of the rank and the number, in a view of so many members
pub record IsSpot (ranks : ℕ) (s : Spot) : Type 0 where
  pub rank : s.rank < ranks
  pub place : s.place ≡ place_of ranks s.rank s.number
