-- What a trim has left, walked spot by spot.
use Rattle.std.proofs.Common.{◌≡◌, ℕ, ◌+◌, ◌*◌, ◌<◌, ◌≤◌, nat_lt, List, length, slice_index, arith, le_refl}
use Rattle.std.proofs.{Math.Nat.{mul_comm, suc-mul}, lemmas.Nat.mul-le}
use Rattle.dr_history.specs.Places.{is_held}
use Rattle.dr_replica.{specs.{Spots.IsSpot, declared.spot.Spot.Spot}, proofs.Spots.{spot_number, spot_rank}}

-- the item at a spot is taken where its number is below the trim of its rank
pub taken_read : (trims : List ℕ) (s : Spot) (trim : ℕ) → IsSpot (length trims) s
    → trim ≡ slice_index trims s.rank → nat_lt s.number trim ≡ is_held trims s.place
taken_read trims s trim is read =
    let number = spot_number (length trims) s is in
    let rank = spot_rank (length trims) s is in cc

-- a spot whose number is below the greatest trim isn't far
pub taken_small : (ranks most : ℕ) (s : Spot) → IsSpot ranks s → s.number < most → s.place < ranks * most
taken_small ranks most s is low =
    let whole : (s.number + 1) * ranks ≤ most * ranks =
    mul-le (s.number + 1) ranks most ranks (omega (arith, low)) (le_refl ranks) in
    omega (arith, whole, is.place, is.rank, suc-mul s.number ranks, mul_comm most ranks)
