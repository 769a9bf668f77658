-- Last lines behind ages, by what they tell.
use Rattle.std.specs.Prelude.{◌≡◌, ◌⊎◌, ◌<◌, ◌^◌, ℕ, List, None, Some}
use Rattle.dr_text.specs.Report.{last_text}
use Rattle.dr_text.specs.declared.last.Last.TheVariants.{Done, AgesUsedUp, Unfinished, NoMajority, DiskFault, LogFull, Damaged, Foreign, Disagree, NoQuorum}

-- the bytes are one without numbers
abbrev pub IsPlainLast : List ℕ → Type 0
IsPlainLast bytes =
    (last_text Done ≡ bytes) ⊎ ((last_text AgesUsedUp ≡ bytes)
    ⊎ ((last_text Unfinished ≡ bytes) ⊎ (last_text NoMajority ≡ bytes)))

-- they tell of a fault of a disk, and so on
abbrev pub TellsDiskFault : List ℕ → Type 0
TellsDiskFault bytes = (member : ℕ) × (member < 16) × (last_text (DiskFault member) ≡ bytes)

abbrev pub TellsLogFull : List ℕ → Type 0
TellsLogFull bytes = (member : ℕ) × (member < 16) × (last_text (LogFull member) ≡ bytes)

abbrev pub TellsDamaged : List ℕ → Type 0
TellsDamaged bytes =
    (member : ℕ) × (at : ℕ) × (member < 16) × (at < 2 ^ 64) × (last_text (Damaged member at) ≡ bytes)

abbrev pub TellsForeign : List ℕ → Type 0
TellsForeign bytes =
    (member : ℕ) × (place : ℕ) × (member < 16) × (place < 2 ^ 64) × (last_text (Foreign member place) ≡ bytes)

abbrev pub TellsDisagreement : List ℕ → Type 0
TellsDisagreement bytes =
    (a : ℕ) × (b : ℕ) × (place : ℕ) × (a < 16) × (b < 16) × (place < 2 ^ 64)
    × (last_text (Disagree a b place) ≡ bytes)

abbrev pub TellsRosterQuorum : List ℕ → Type 0
TellsRosterQuorum bytes =
    (have : ℕ) × (need : ℕ) × (have < 2 ^ 64) × (need < 2 ^ 64)
    × (last_text (NoQuorum None have need) ≡ bytes)

abbrev pub TellsViewQuorum : List ℕ → Type 0
TellsViewQuorum bytes =
    (view : ℕ) × (have : ℕ) × (need : ℕ) × (view < 2 ^ 8) × (have < 2 ^ 64) × (need < 2 ^ 64)
    × (last_text (NoQuorum (Some view) have need) ≡ bytes)

-- they tell of a log that is not one of this script, or of logs that are wanting
unfoldable pub TellsOfLogs : List ℕ → Type 0
TellsOfLogs bytes =
    TellsDamaged bytes ⊎ (TellsForeign bytes ⊎ (TellsDisagreement bytes
    ⊎ (TellsRosterQuorum bytes ⊎ TellsViewQuorum bytes)))

-- one of these
abbrev pub IsLastLine : List ℕ → Type 0
IsLastLine bytes =
    IsPlainLast bytes ⊎ (TellsDiskFault bytes ⊎ (TellsLogFull bytes ⊎ TellsOfLogs bytes))
