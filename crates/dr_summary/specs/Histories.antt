-- The histories of members, taken together.
use Rattle.std.specs.Prelude.{nat_lt, if◌then◌else◌, List, [], ◌∷◌, length}
use Rattle.dr_entry.specs.declared.{end.MemberEnd.MemberEnd, entry.Entry.Entry}

-- the longest history, the first one of these: each member's is a front of it, or all of it
abbrev pub longer : List Entry → MemberEnd → List Entry
longer h m = if nat_lt (length h) (length m.history) then m.history else h

abbrev pub longest_from : List Entry → List MemberEnd → List Entry
longest_from h [] = h
longest_from h (m ∷ ms) = longest_from (longer h m) ms

abbrev pub longest : List MemberEnd → List Entry
longest members = longest_from [] members
