-- Which logs a seal refuses.
use Rattle.std.specs.Prelude.{ℕ, ◌==◌, ◌&&◌, ◌||◌, Bool, true, false, not, nat_le, nat_lt, if◌then◌else◌, List, length, take, slice_index, Option, None, Some}
use Rattle.dr_yard.specs.{Checksums.checksum, declared.seal.{Breach.Breach, Seal.Seal, Sealed.Sealed}}
use Rattle.dr_yard.specs.declared.seal.Sealed.TheVariants as sealed
use Rattle.dr_yard.specs.declared.seal.Breach.TheVariants as breaches

-- why a log of these bytes isn't the one that was sealed so: it has no byte behind the sealed ones, it has a record
-- there though no run has it, or one of them is another
abbrev pub breach_in : Seal → List ℕ → Option Breach
breach_in seal bytes =
    if nat_le (length bytes) seal.length then Some (breaches.Shorter seal.length)
    else if not seal.is_open && (slice_index bytes seal.length == 1) then Some (breaches.Longer seal.length)
    else if checksum (take seal.length bytes) == seal.sum then None
    else Some (breaches.Changed seal.length)

-- why what was found isn't the log of which this is known
abbrev pub breach_by : Sealed → Option (List ℕ) → Option Breach
breach_by sealed.Never found = None
breach_by sealed.Unreadable found = Some breaches.Unreadable
breach_by sealed.OfTwoGroups found = Some breaches.OfTwoGroups
breach_by (sealed.As seal) None = Some breaches.Gone
breach_by (sealed.As seal) (Some bytes) = breach_in seal bytes

-- one of these is known of a later time: more bytes are sealed, or as many, and it was lent since
abbrev pub is_later : Sealed → Sealed → Bool
is_later (sealed.As seal) (sealed.As other) =
    nat_lt other.length seal.length || ((seal.length == other.length) && seal.is_open && not other.is_open)
is_later (sealed.As seal) than = true
is_later sealed.Never sealed.Unreadable = true
is_later sealed than = false
