use Rattle.std.proofs.Common.{◌≡◌, ◌≤◌, ℕ, ◌<◌, false, [], Some, vec_len, vec_capacity}
use Rattle.dr_disk.specs.{Calls.at_rest, Disk.Now}
use Rattle.dr_yard.specs.Places.{place_lent, place_told}
use Rattle.dr_yard.proofs.calm_yard.CalmYard.new.Given as goal

abbrev pub invariant-loop : goal.invariant-loop
invariant-loop l = (vec_len l.places ≡ l.counter) × (16 ≤ vec_capacity l.places)
    × ((m : ℕ) → m < l.counter → (place_lent l.places.items m ≡ false)
    × (place_told l.places.items m ≡ Some (Now (at_rest []))))
