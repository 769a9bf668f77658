-- When a wedged member proposes, accepts and commits the value of a change of the view, and which value, by
-- the rows that it holds and by where it stands.
use Rattle.std.specs.Prelude.{◌≡◌, ℕ, true}
use Rattle.dr_entry.specs.declared.record.Value.{Value}
use Rattle.dr_words.specs.Changes as changes
use Rattle.dr_rows.specs.Words.{Words, seen}
use Rattle.dr_lead.specs.declared.standing.Standing.{Standing}

-- it may propose where its rows allow it, and its history is logged
abbrev pub MayPropose : Words → Standing → Type 0
MayPropose rows s =
    changes.MayPropose rows.members (seen rows) s.members s.suspects s.me × (s.caught_up ≡ true)

-- none of these members' rows has a tag
abbrev pub IsUntagged : Words → ℕ → Type 0
IsUntagged rows of = changes.IsUntagged rows.members (seen rows) of

-- of the rows of these members that have a tag the one with the highest, and the least of those
abbrev pub IsHighest : Words → ℕ → ℕ → Type 0
IsHighest rows of i = changes.IsHighest rows.members (seen rows) of i

-- the value of a member that sees no proposal
abbrev pub IsFirstValue : Words → Standing → Value → Type 0
IsFirstValue rows s v = changes.IsFirstValue (seen rows) s.members s.suspects v

-- the value to propose
abbrev pub IsProposal : Words → Standing → Value → Type 0
IsProposal rows s v = changes.IsProposal rows.members (seen rows) s.members s.suspects v

-- it may accept where its rows allow it, and its history is logged
abbrev pub MayAccept : Words → Standing → Type 0
MayAccept rows s =
    changes.MayAccept rows.members (seen rows) s.members s.suspects s.me × (s.caught_up ≡ true)

-- the members of the view, suspected ones too, whose row has this tag
abbrev pub tagged_members : Words → Standing → ℕ → ℕ
tagged_members rows s tag = changes.tagged_members rows.members (seen rows) s.members tag

-- it may commit where its rows allow it
abbrev pub MayCommit : Words → Standing → Type 0
MayCommit rows s = changes.MayCommit rows.members (seen rows) s.members s.me
