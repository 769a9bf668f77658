-- What the bytes behind the head of a packet say.
use Rattle.std.specs.{Int.w32, Prelude.{◌≡◌, ℕ, ◌-◌, ◌≤◌, List, length, take, drop, Option, Some, None, slice_index}}
use Rattle.dr_entry.specs.Grammar.{number_at}
use Rattle.dr_packet.specs.declared.{Far.Far, Says.Says, Way.Way}
use Rattle.dr_packet.specs.Packets.{Fits, IsShort, body, far_byte, kind_of}

-- behind a head of this kind they say this
pub record IsBody (kind : ℕ) (bytes : List ℕ) (says : Says) : Type 0 where
  pub named : kind ≡ kind_of says
  pub fits : Fits says
  pub short : IsShort says
  pub is : bytes ≡ body says

-- what they say, or nothing where they say nothing
abbrev pub IsReading : ℕ → List ℕ → Option Says → Type 0
IsReading kind bytes None = (says : Says) → ¬ IsBody kind bytes says
IsReading kind bytes (Some says) = IsBody kind bytes says

-- how far a byte says that somebody is
abbrev pub IsFarOf : ℕ → Option Far → Type 0
IsFarOf byte None = 3 ≤ byte
IsFarOf byte (Some far) = byte ≡ far_byte far

-- what bytes that are as long as a packet say behind their head
abbrev pub IsSaidIn : List ℕ → Option Says → Type 0
IsSaidIn bytes None = (says : Says) → slice_index bytes 7 ≡ 0
    → ¬ IsBody (slice_index bytes 4) (take (length bytes - 68) (drop 60 bytes)) says
IsSaidIn bytes (Some says) = (slice_index bytes 7 ≡ 0)
    × IsBody (slice_index bytes 4) (take (length bytes - 68) (drop 60 bytes)) says

-- by whom and for whom they are
abbrev pub way_in : List ℕ → Way
way_in bytes = record { from = slice_index bytes 5; to = slice_index bytes 6; ages = number_at w32 8 bytes }
