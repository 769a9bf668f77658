-- Which words of a packet a door takes.
use Rattle.std.specs.Int.{w32}
use Rattle.std.specs.Prelude.{◌≡◌, ℕ, ◌+◌, ◌*◌, ◌<◌, ◌≤◌, ◌==◌, if◌then◌else◌, List, length, Option, None, Some}
use Rattle.dr_door.specs.{Coming.{refusal, row_in}, Lone.Lone}
use Rattle.dr_door.specs.declared.refused.Refused as doors
use Rattle.dr_door.specs.declared.refused.Refused.TheVariants as unfit
use Rattle.dr_entry.specs.Grammar.{number_at}
use Rattle.dr_packet.specs.Packets.{long_at}
use Rattle.dr_seat.specs.declared.faults.Refused.{Refused}
use Rattle.dr_seat.specs.declared.faults.Refused.TheVariants as why

-- a packet is refused so where a door refuses one of its words so
abbrev pub refused_by : Option doors.Refused → Option Refused
refused_by None = None
refused_by (Some unfit.Place) = Some why.Place
refused_by (Some unfit.Copy) = Some why.Place
refused_by (Some unfit.Row) = Some why.Place
refused_by (Some unfit.Form) = Some why.Form
refused_by (Some unfit.Growth) = Some why.Growth

-- why the door refuses this word of a member for the place of this index, which is to be in that member's row
abbrev pub judged : Lone → ℕ → ℕ → ℕ → Option Refused
judged d from index word =
    if row_in d.member.replica.roster d.member.replica.window index == from then refused_by (refusal d index word)
    else Some why.Place

-- the word at k among those of a packet, and the place that it is for
abbrev pub place_at : List ℕ → ℕ → ℕ
place_at words k = number_at w32 (k * 12) words

abbrev pub word_at : List ℕ → ℕ → ℕ
word_at words k = long_at (k * 12 + 4) words

-- the first so many of them are taken
abbrev pub AreTaken : Lone → ℕ → List ℕ → ℕ → Type 0
AreTaken d from words count = (k : ℕ) → k < count → judged d from (place_at words k) (word_at words k) ≡ None

-- all of them are taken
abbrev pub AreFit : Lone → ℕ → List ℕ → Type 0
AreFit d from words = (k : ℕ) → k * 12 + 12 ≤ length words → judged d from (place_at words k) (word_at words k) ≡ None

-- for this the first of them is refused that is
pub record IsFirstUnfit (d : Lone) (from : ℕ) (words : List ℕ) (fault : Refused) : Type 0 where
  pub k : ℕ
  pub within : k * 12 + 12 ≤ length words
  pub unfit : judged d from (place_at words k) (word_at words k) ≡ Some fault
  pub before : AreTaken d from words k
