-- The text of a report. Every line ends with one line feed, and numbers are decimal without leading zeros.
use Rattle.std.specs.{Fmt.{decimal, digit_glyph}, List.{concat, enumerate_from, flat_map, join_by}}
use Rattle.std.specs.Prelude.{ℕ, ◌/◌, ◌%◌, Bool, true, false, if◌then◌else◌, List, [], ◌∷◌, ◌++◌, length, drop, codes, Option, None, Some}
use Rattle.dr_entry.specs.declared.end.{AgeEnd.AgeEnd, End.End}
use Rattle.dr_entry.specs.declared.end.End.TheVariants.{Done, Crashed, Suspected, Excluded, NoMajority, DiskFault, LogFull, Spent, Absent}
use Rattle.dr_entry.specs.declared.{end.MemberEnd.MemberEnd, entry.Entry.{Entry, TheVariants.{View, Msg}}}
use Rattle.dr_history.specs.Members.{members_of}
use Rattle.dr_text.specs.declared.last.{Clause.Clause, Last.Last}
use Rattle.dr_text.specs.declared.last.Clause.TheVariants as clauses
use Rattle.dr_text.specs.declared.last.Last.TheVariants as lasts

-- the members of a mask, ascending, with commas between them
abbrev pub mask_text : ℕ → List ℕ
mask_text mask = join_by decimal (codes ",") (members_of mask)

-- a byte in lower-case hexadecimal, two digits
abbrev pub hex_text : ℕ → List ℕ
hex_text byte = digit_glyph false (byte / 16) ∷ digit_glyph false (byte % 16) ∷ []

-- the bytes of a message in hexadecimal, or a dash where there are none
abbrev pub message_text : List ℕ → List ℕ
message_text [] = codes "-"
message_text (byte ∷ bytes) = flat_map hex_text (byte ∷ bytes)

-- the line of an entry of a history
abbrev pub entry_text : Entry → List ℕ
entry_text (View age number members) =
    concat
    (codes "  view " ∷ decimal age ∷ codes " " ∷ decimal number ∷ codes " " ∷ mask_text members
    ∷ codes "\n" ∷ [])
entry_text (Msg sender index bytes) =
    concat
    (codes "  msg " ∷ decimal sender ∷ codes " " ∷ decimal index ∷ codes " " ∷ message_text bytes
    ∷ codes "\n" ∷ [])

-- how a member ended, in its line
abbrev pub end_text : End → List ℕ
end_text Done = codes "done"
end_text Crashed = codes "crashed"
end_text (Suspected by) = codes "suspected " ++ decimal by
end_text (Excluded view) = codes "excluded " ++ decimal view
end_text (NoMajority mask) = codes "nomajority " ++ mask_text mask
end_text DiskFault = codes "diskfault"
end_text (LogFull len) = codes "logfull " ++ decimal len
end_text (Spent turns) = codes "spent " ++ decimal turns
end_text Absent = codes "absent"

-- whether it took no part
abbrev pub is_absent : End → Bool
is_absent Absent = true
is_absent end = false

-- how many entries its history has, how many of them are on its log, and how many are durable
abbrev pub counts_text : MemberEnd → List ℕ
counts_text m =
    concat
    (codes " history " ∷ decimal (length m.history)
    ∷ codes " logged " ∷ decimal m.logged ∷ codes " durable " ∷ decimal m.durable ∷ codes "\n" ∷ [])

-- the line of a member with this number
abbrev pub member_line : ℕ → MemberEnd → List ℕ
member_line number m =
    concat (codes "member " ∷ decimal number ∷ codes " " ∷ end_text m.end ∷ [])
    ++ (if is_absent m.end then codes "\n" else counts_text m)

-- a member with this number: its line, and the entries of its history after the age's first `start` ones
abbrev pub member_text : ℕ → ℕ → MemberEnd → List ℕ
member_text start number m = member_line number m ++ flat_map entry_text (drop start m.history)

-- the members of an age that started with so many entries, numbered from 0
abbrev pub members_text : ℕ → List MemberEnd → List ℕ
members_text start ms = flat_map (λ t. member_text start t.0 t.1) (enumerate_from 0 ms)

-- the line of an age, and the entries that it started with
abbrev pub age_head : AgeEnd → List ℕ
age_head a =
    concat
    (codes "age " ∷ decimal a.age ∷ codes " start " ∷ decimal (length a.start) ∷ codes "\n"
    ∷ flat_map entry_text a.start ∷ [])

-- an age: its line, the entries that it started with, and its members
abbrev pub age_text : AgeEnd → List ℕ
age_text a = age_head a ++ members_text (length a.start) a.members

-- the line that names a broken rule and its place
abbrev pub rule_text : ℕ → List ℕ → List ℕ
rule_text rule path = concat (codes "refused: rule " ∷ decimal rule ∷ codes " at " ∷ path
    ∷ codes "\n" ∷ [])

-- whose majority wants logs: that of the roster, or of a view
abbrev pub whole_text : Option ℕ → List ℕ
whole_text None = codes "roster"
whole_text (Some view) = codes "view " ++ decimal view

-- the word for what is asked of a report
abbrev pub clause_word : Clause → List ℕ
clause_word clauses.Start = codes "start"
clause_word clauses.View = codes "view"
clause_word clauses.Sender = codes "sender"
clause_word clauses.Index = codes "index"
clause_word clauses.Bytes = codes "bytes"
clause_word clauses.Prefix = codes "prefix"
clause_word clauses.Durable = codes "durable"
clause_word clauses.Kept = codes "kept"

-- the last line
abbrev pub last_text : Last → List ℕ
last_text lasts.Done = codes "ok\n"
last_text lasts.Usage = codes "usage: derecho (sim|run) [--logs FOLDER]\n"
last_text lasts.TooLong = codes "refused: too long\n"
last_text lasts.NotJson = codes "refused: not json\n"
last_text (lasts.Rule rule path) = rule_text rule path
last_text lasts.SourceFault = codes "fault: source\n"
last_text (lasts.DiskFault member) =
    concat (codes "fault: disk of member " ∷ decimal member ∷ codes "\n" ∷ [])
last_text (lasts.Damaged member at) =
    concat
    (codes "refused: damaged log of member " ∷ decimal member ∷ codes " at " ∷ decimal at
    ∷ codes "\n" ∷ [])
last_text (lasts.Foreign member place) =
    concat
    (codes "refused: foreign log of member " ∷ decimal member ∷ codes " at entry " ∷ decimal place
    ∷ codes "\n" ∷ [])
last_text (lasts.Disagree a b place) =
    concat
    (codes "refused: logs of members " ∷ decimal a ∷ codes " and " ∷ decimal b
    ∷ codes " disagree at entry " ∷ decimal place ∷ codes "\n" ∷ [])
last_text (lasts.NoQuorum view have need) =
    concat
    (codes "refused: quorum of " ∷ whole_text view ∷ codes " has " ∷ decimal have ∷ codes " of "
    ∷ decimal need ∷ codes "\n" ∷ [])
last_text lasts.AgesUsedUp = codes "refused: ages used up\n"
last_text lasts.Unfinished = codes "unfinished\n"
last_text lasts.NoMajority = codes "no majority\n"
last_text (lasts.LogFull member) =
    concat (codes "fault: log full of member " ∷ decimal member ∷ codes "\n" ∷ [])
last_text (lasts.NoShard shards members) =
    concat
    (codes "refused: " ∷ decimal shards ∷ codes " shards of " ∷ decimal members ∷ codes " members\n" ∷ [])
last_text (lasts.ManyAges ages) = concat (codes "refused: " ∷ decimal ages ∷ codes " ages\n" ∷ [])
last_text (lasts.Crosses fault) =
    concat (codes "refused: fault " ∷ decimal fault ∷ codes " crosses shards\n" ∷ [])
last_text lasts.NotCheck = codes "refused: not a check\n"
last_text (lasts.NoReport line) =
    concat (codes "refused: no report at line " ∷ decimal line ∷ codes "\n" ∷ [])
last_text lasts.Right = codes "yes\n"
last_text (lasts.Wrong clause line) =
    concat (codes "no: " ∷ clause_word clause ∷ codes " at line " ∷ decimal line ∷ codes "\n" ∷ [])

-- the whole text: the ages, and one last line
abbrev pub report_text : List AgeEnd → Last → List ℕ
report_text ages last = flat_map age_text ages ++ last_text last
