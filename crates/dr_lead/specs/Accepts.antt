-- What the accept words of a row say, of the rows that a member holds.
use Rattle.std.specs.Prelude.{ℕ}
use Rattle.dr_entry.specs.declared.record.Value.{Value}
use Rattle.dr_words.specs.Accepts as accepts
use Rattle.dr_rows.specs.Words.{Words, seen}

-- the accept word of a row that holds the trim of a sender
abbrev pub trim_word : Words → ℕ → ℕ → ℕ
trim_word rows i sender = accepts.trim_word rows.members (seen rows) i sender

-- the promise and the tag of a row
abbrev pub promise_of : Words → ℕ → ℕ
promise_of rows i = accepts.promise_of rows.members (seen rows) i

abbrev pub tag_of : Words → ℕ → ℕ
tag_of rows i = accepts.tag_of rows.members (seen rows) i

-- all accept words of a view have this promise in the row, or this tag
abbrev pub AllPromise : Words → ℕ → ℕ → ℕ → Type 0
AllPromise rows members i promise = accepts.AllPromise rows.members (seen rows) members i promise

abbrev pub AllTag : Words → ℕ → ℕ → ℕ → Type 0
AllTag rows members i tag = accepts.AllTag rows.members (seen rows) members i tag

-- the row shows this value
abbrev pub RowShows : Words → ℕ → ℕ → Value → Type 0
RowShows rows members i v = accepts.Shows rows.members (seen rows) members i v
