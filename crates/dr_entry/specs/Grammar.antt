-- The fields of a record in the order in which they are looked at, and the first that is refused.
use Rattle.std.specs.{Int.{Width, w8, w16, w32, byte_len, from_be_bytes}, List.range_with_len}
use Rattle.std.specs.Prelude.{ℕ, ◌+◌, ◌*◌, ◌-◌, ◌^◌, Bool, true, not, ◌&&◌, ◌==◌, nat_lt, nat_le, if◌then◌else◌, List, [], ◌∷◌, ◌++◌, length, take, drop, map, replicate, slice_index, Option, Some, None, Result, Ok, Err}
use Rattle.dr_entry.specs.{declared.entry.Entry.TheVariants.{View, Msg}, declared.record.{Record.Record, Vote.Vote}}
use Rattle.dr_entry.specs.declared.limits.TheConstants.{MAX_MEMBERS, MAX_MESSAGE_LENGTH}
use Rattle.dr_entry.specs.declared.reading.DecodeFault.{DecodeFault, TheVariants.{Short, BadKind, BadField}}
use Rattle.dr_entry.specs.declared.record.Record.TheVariants as records

-- the number of this width that begins at this place, its greatest byte first
abbrev pub number_at : Width → ℕ → List ℕ → ℕ
number_at w at bytes = from_be_bytes w (drop at bytes)

-- a field: the place at which it begins, its width, and the rule that the bytes of a record keep there
pub record Field : Type 0 where
  pub at : ℕ
  pub width : ℕ
  pub rule : List ℕ → Bool

-- a field with no rule
abbrev pub free : ℕ → ℕ → Field
free at width = record { at = at; width = width; rule = λ bytes. true }

-- a number that passes a test
abbrev pub tested : ℕ → Width → (ℕ → Bool) → Field
tested at w test = record { at = at; width = byte_len w; rule = λ bytes. test (number_at w at bytes) }

-- kind 1: age, number and members of a view
abbrev pub view_fields : List Field
view_fields = free 1 2 ∷ free 3 1 ∷ tested 4 w16 (λ members. not (members == 0)) ∷ []

-- kind 2: sender, index, length and bytes of a message, for this length
abbrev pub message_fields : ℕ → List Field
message_fields len =
    tested 1 w8 (λ sender. nat_lt sender MAX_MEMBERS) ∷ free 2 4
    ∷ tested 6 w8 (λ n. nat_le n MAX_MESSAGE_LENGTH) ∷ free 7 len ∷ []

abbrev pub trim_fields : ℕ → List Field
trim_fields members = map (λ s. free (8 + 4 * s) 4) (range_with_len 0 members)

-- kind 3: age, view, ballot, leavers, members and trims of a vote, for this number of members.
-- Ballot and leavers are looked at once more behind the members, by which they are judged
abbrev pub vote_fields : ℕ → List Field
vote_fields members =
    (free 1 2 ∷ free 3 1 ∷ free 4 1 ∷ free 5 2
    ∷ tested 7 w8 (λ n. nat_le 1 n && nat_le n MAX_MEMBERS)
    ∷ tested 4 w8 (λ ballot. nat_lt ballot members)
    ∷ tested 5 w16 (λ leavers. nat_lt leavers (2 ^ members)) ∷ [])
    ++ trim_fields members

-- kind 4: age and members of an age vote
abbrev pub age_vote_fields : List Field
age_vote_fields = free 1 2 ∷ tested 3 w16 (λ members. not (members == 0)) ∷ []

-- kind 5: how many entries a cut keeps
abbrev pub cut_fields : List Field
cut_fields = free 1 4 ∷ []

-- the first of these fields that isn't whole or breaks its rule
abbrev pub first_fault : List Field → List ℕ → Option DecodeFault
first_fault [] bytes = None
first_fault (field ∷ fields) bytes =
    if nat_lt (length bytes) (field.at + field.width) then Some (Short field.at)
    else (if field.rule bytes then first_fault fields bytes else Some (BadField field.at))

abbrev pub fault_by_kind : ℕ → List ℕ → Option DecodeFault
fault_by_kind kind bytes =
    if kind == 1 then first_fault view_fields bytes
    else (if kind == 2 then first_fault (message_fields (slice_index bytes 6)) bytes
    else (if kind == 3 then first_fault (vote_fields (slice_index bytes 7)) bytes
    else (if kind == 4 then first_fault age_vote_fields bytes
    else (if kind == 5 then first_fault cut_fields bytes
    else (if kind == 6 then None
    else Some (BadKind 0 kind))))))

-- what is wrong with the record that begins these bytes
abbrev pub fault_of : List ℕ → Option DecodeFault
fault_of [] = Some (Short 0)
fault_of (kind ∷ rest) = fault_by_kind kind (kind ∷ rest)

-- what the fields of each kind make where none is refused, with the length of the record
abbrev pub view_at : List ℕ → Record × ℕ
view_at bytes = (
  records.Entry (View (number_at w16 1 bytes) (slice_index bytes 3) (number_at w16 4 bytes)),
  6,
)

abbrev pub message_at : List ℕ → Record × ℕ
message_at bytes =
    let len = slice_index bytes 6 in
    (records.Entry (Msg (slice_index bytes 1) (number_at w32 2 bytes) (take len (drop 7 bytes))), 7 + len)

-- the trims of the members, and 0 for whoever is none
abbrev pub trims_at : ℕ → List ℕ → List ℕ
trims_at members bytes = map (λ s. number_at w32 (8 + 4 * s) bytes) (range_with_len 0 members)
    ++ replicate (MAX_MEMBERS - members) 0

abbrev pub vote_of : List ℕ → Vote
vote_of bytes = record {
  age = number_at w16 1 bytes;
  view = slice_index bytes 3;
  ballot = slice_index bytes 4;
  members = slice_index bytes 7;
  value = record { leavers = number_at w16 5 bytes; trim = trims_at (slice_index bytes 7) bytes };
}

abbrev pub vote_at : List ℕ → Record × ℕ
vote_at bytes = (records.Vote (vote_of bytes), 8 + 4 * slice_index bytes 7)

abbrev pub age_vote_at : List ℕ → Record × ℕ
age_vote_at bytes = (
  records.AgeVote (record { age = number_at w16 1 bytes; members = number_at w16 3 bytes }),
  5,
)

abbrev pub cut_at : List ℕ → Record × ℕ
cut_at bytes = (records.Cut (number_at w32 1 bytes), 5)

-- kind 6: an upgrade has no fields
abbrev pub upgrade_at : Record × ℕ
upgrade_at = (records.Upgrade, 1)

abbrev pub found_by_kind : ℕ → List ℕ → Record × ℕ
found_by_kind kind bytes = if kind == 1 then view_at bytes else
    (if kind == 2 then message_at bytes else
    (if kind == 3 then vote_at bytes else
    (if kind == 4 then age_vote_at bytes else
    (if kind == 5 then cut_at bytes else upgrade_at))))

-- the fault, or what is found where there is none
abbrev pub unless : {A : Type 0} → Option DecodeFault → A → Result A DecodeFault
unless None found = Ok found
unless (Some fault) found = Err fault

-- the record that begins these bytes, and its length, or what is wrong with it
abbrev pub decoded : List ℕ → Result (Record × ℕ) DecodeFault
decoded bytes = unless (fault_of bytes) (found_by_kind (slice_index bytes 0) bytes)
