-- What stands in the places of a yard of calm disks.
use Rattle.std.specs.Prelude.{ℕ, List, [], get_or, Option, Some, None, Bool, true, false}
use Rattle.dr_disk.specs.{Calls.at_rest, Disk.{Told, Now}, Memory.CalmState}

-- what the disk at a place tells; of one that is lent, an empty one
abbrev pub told_in : Option CalmState → Option Told
told_in None = Some (Now (at_rest []))
told_in (Some disk) = Some (Now disk.state)

abbrev pub lent_in : Option CalmState → Bool
lent_in None = true
lent_in (Some disk) = false

abbrev pub place_told : List (Option CalmState) → ℕ → Option Told
place_told places m = told_in (get_or places m None)

abbrev pub place_lent : List (Option CalmState) → ℕ → Bool
place_lent places m = lent_in (get_or places m None)
