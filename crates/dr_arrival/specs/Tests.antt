-- The tests of words that arrive.
use Rattle.std.specs.Prelude.{ℕ, ◌+◌, ◌-◌, ◌^◌, ◌==◌, ◌&&◌, ◌||◌, nat_lt, nat_le, Bool, true, if◌then◌else◌, bit_and}
use Rattle.dr_words.specs.Packing.{accept_promise, accept_tag, accept_value, is_final}

-- an accept word whose value is at most so great is in form
abbrev pub is_accept : ℕ → ℕ → ℕ → Bool
is_accept members most word =
    nat_lt (accept_promise word) members && (nat_le (accept_tag word) members && nat_le (accept_value word) most)

-- a word of this column is in form, for a roster of so many members
abbrev pub in_form : ℕ → ℕ → ℕ → Bool
in_form members column word =
    if column == 1 then nat_le word (2 ^ members - 1)
    else (if column == 4 then nat_le word 1
    else (if nat_lt column 5 || nat_lt (5 + members + members) column then true
    else (if nat_lt column (5 + members) then nat_lt word (2 ^ 33)
    else is_accept members (if column == 5 + members then 2 ^ members - 1 else 2 ^ 32 - 1) word)))

-- a word of this column has grown from an older one
abbrev pub grown : ℕ → ℕ → ℕ → ℕ → Bool
grown members column old new =
    if column == 1 then nat_le old new && (bit_and old new == old)
    else (if nat_le 5 column && (nat_lt column (5 + members) && is_final old) then new == old
    else nat_le old new)
