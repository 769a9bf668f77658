-- The own words that a member makes anew: as it suspects or wishes for somebody, and as it accepts a value.
use Rattle.std.specs.Prelude.{ℕ, ◌-◌, ◌==◌, ◌&&◌, ◌||◌, nat_le, nat_lt, true, Bool, if◌then◌else◌}
use Rattle.dr_entry.specs.declared.record.Value.{Value}
use Rattle.dr_history.specs.Members.{has}
use Rattle.dr_words.specs.{Accepts.part_of, Columns.{recv_column, leavers_column, trim_column}}
use Rattle.dr_words.specs.Packing.{recv_count, recv_word, accept_promise, accept_tag, accept_value, accept_word}
use Rattle.dr_words.specs.declared.column.TheConstants.{SUSPECTED_COLUMN}

-- the column is that of the recv word of one of these members of a roster of n
abbrev pub is_recv_of : ℕ → ℕ → ℕ → Bool
is_recv_of n members c =
    nat_le (recv_column 0) c && (nat_lt c (recv_column n) && has members (c - recv_column 0))

-- it is that of the leavers, or of the trim of one of these members
abbrev pub is_accept_of : ℕ → ℕ → ℕ → Bool
is_accept_of n members c =
    c == leavers_column n
    || (nat_le (trim_column n 0) c && (nat_lt c (trim_column n n) && has members (c - trim_column n 0)))

-- the own word of a column, of one that suspects the members of this mask in a view of these members: the
-- suspected word is the mask, the recv words are final, and the accept words have this promise
abbrev pub wedged_word : ℕ → ℕ → ℕ → ℕ → ℕ → ℕ → ℕ
wedged_word n members mask promise c word =
    if c == SUSPECTED_COLUMN then mask
    else (if is_recv_of n members c then recv_word (recv_count word) true
    else (if is_accept_of n members c then accept_word promise (accept_tag word) (accept_value word)
    else word))

-- the own word of a column, of one that has accepted this value by this tag in a view of these members: the
-- accept words have the tag, and each has its part of the value
abbrev pub accepted_word : ℕ → ℕ → ℕ → Value → ℕ → ℕ → ℕ
accepted_word n members tag v c word =
    if is_accept_of n members c then accept_word (accept_promise word) tag (part_of n v c) else word
