-- The columns of a row: which word stands where. The columns of the beat, suspected, received, logged
-- and done words are constants.
use Rattle.std.specs.Prelude.{ℕ, ◌+◌, ◌*◌}
use Rattle.dr_words.specs.declared.column.TheConstants.{PIECES}

-- how many columns a row has, where the window is so many slots
abbrev pub columns_of : ℕ → ℕ → ℕ
columns_of members window = 6 + 2 * members + PIECES * window

-- the recv word of a sender
abbrev pub recv_column : ℕ → ℕ
recv_column sender = 5 + sender

-- the accept word that holds the leavers
abbrev pub leavers_column : ℕ → ℕ
leavers_column members = 5 + members

-- the accept word that holds the trim of a sender
abbrev pub trim_column : ℕ → ℕ → ℕ
trim_column members sender = 6 + members + sender

-- the head word of a slot
abbrev pub head_column : ℕ → ℕ → ℕ
head_column members slot = 6 + 2 * members + PIECES * slot

-- a body word of a slot, counted from 0
abbrev pub body_column : ℕ → ℕ → ℕ → ℕ
body_column members slot part = 7 + 2 * members + PIECES * slot + part
