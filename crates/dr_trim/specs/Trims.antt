-- What the trim of a view is, by the rows that a member holds.
use Rattle.std.specs.Prelude.{ℕ, List, map, slice_index}
use Rattle.dr_history.specs.Members.{members_of}
use Rattle.dr_words.specs.Changes as changes
use Rattle.dr_rows.specs.Words.{Words, seen}

-- the least count of a sender in the rows of these members
abbrev pub IsLeastReceived : Words → ℕ → ℕ → ℕ → Type 0
IsLeastReceived rows of sender count = changes.IsLeastReceived (seen rows) of sender count

-- the trims of these members, by rank
abbrev pub trims_by_rank : ℕ → List ℕ → List ℕ
trims_by_rank members trim = map (slice_index trim) (members_of members)
