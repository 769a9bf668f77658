-- The better one of two votes.
use Rattle.std.specs.Prelude.{nat_lt, if◌then◌else◌, Option, None, Some}
use Rattle.dr_entry.specs.declared.record.Vote.{Vote}

-- the vote of the higher ballot, and the first one where these are equal
abbrev pub better : Option Vote → Vote → Vote
better None y = y
better (Some x) y = if nat_lt x.ballot y.ballot then y else x
