-- What comes of a word that comes to a place of the table.
use Rattle.std.specs.Prelude.{ℕ, ◌/◌, ◌%◌, ◌==◌, ◌&&◌, nat_lt, nat_le, not, if◌then◌else◌, length, max, slice_index, slice_set, Option, None, Some}
use Rattle.dr_arrival.specs.Tests.{grown, in_form}
use Rattle.dr_program.specs.Replica.{me}
use Rattle.dr_words.specs.Columns.{columns_of}
use Rattle.dr_door.specs.{Lone.Lone, declared.refused.Refused.Refused}
use Rattle.dr_door.specs.declared.refused.Refused.TheVariants as why

-- whose copy the place of this index is in, for a roster of so many members and a window of so many slots
abbrev pub copy_of : ℕ → ℕ → ℕ → ℕ
copy_of members window index = index / columns_of members window / members % members

-- whose row it is in
abbrev pub row_in : ℕ → ℕ → ℕ → ℕ
row_in members window index = index / columns_of members window % members

-- why it is refused by member m, where this word stands there: the first of these that is the case
abbrev pub refusal_there : ℕ → ℕ → ℕ → ℕ → ℕ → ℕ → Option Refused
refusal_there members window m index stands word =
    let column = index % columns_of members window in
    if not (copy_of members window index == m) then Some why.Copy
    else (if row_in members window index == m then Some why.Row
    else (if not (in_form members column word) then Some why.Form
    else (if nat_lt stands word && not (grown members column stands word) then Some why.Growth
    else None)))

abbrev pub refusal : Lone → ℕ → ℕ → Option Refused
refusal d index word =
    if nat_le (length d.words) index then Some why.Place
    else refusal_there d.member.replica.roster d.member.replica.window (me d.member.replica) index
    (slice_index d.words index) word

-- where it isn't, the greater one of it and the word that stood there stands there then
abbrev pub came_by : Option Refused → Lone → ℕ → ℕ → Lone
came_by None d index word = record {
  member = d.member;
  words = slice_set d.words index (max (slice_index d.words index) word);
}
came_by (Some cause) d index word = d

abbrev pub came_to : Lone → ℕ → ℕ → Lone
came_to d index word = came_by (refusal d index word) d index word
