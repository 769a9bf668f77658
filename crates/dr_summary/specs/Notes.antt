-- The lines below the table of an age.
use Rattle.std.specs.{Fmt.decimal, List.{concat, enumerate_from, flat_map, list_any, range_with_len}}
use Rattle.std.specs.Prelude.{ℕ, ◌-◌, ◌==◌, ◌&&◌, not, nat_lt, nat_le, if◌then◌else◌, Bool, true, false, List, [], ◌∷◌, ◌++◌, length, map, filter, take, codes, slice_get, Option, None, Some}
use Rattle.dr_entry.specs.declared.{end.{End.{End, TheVariants.Crashed}, MemberEnd.MemberEnd}, entry.Entry.Entry}
use Rattle.dr_entry.specs.declared.entry.Entry.TheVariants.{View, Msg}
use Rattle.dr_script.specs.declared.script.{Fault.Fault, Script.Script, What.{What, TheVariants.{Crash, Suspect}}}
use Rattle.dr_text.specs.Report.{end_text}

-- whether an entry is a message of this sender
abbrev pub is_from : ℕ → Entry → Bool
is_from s (View age number members) = false
is_from s (Msg sender index bytes) = sender == s

-- how many messages of this sender a history has
abbrev pub count_from : ℕ → List Entry → ℕ
count_from s h = length (filter (is_from s) h)

-- the names of a sender's messages, each by its sender and its index, but for the first `had` ones of `count`
abbrev pub names_behind : ℕ → ℕ → ℕ → List (ℕ × ℕ)
names_behind s had count = map (λ index. (s, index)) (range_with_len had (count - had))

-- a sender's messages that are not in a history, which has the first ones
abbrev pub undelivered_of : List Entry → ℕ → List (List ℕ) → List (ℕ × ℕ)
undelivered_of h s messages = names_behind s (count_from s h) (length messages)

-- the messages of the script that are not in a history
abbrev pub undelivered : Script → List Entry → List (ℕ × ℕ)
undelivered script h =
    flat_map (λ t. undelivered_of h t.0 t.1) (enumerate_from 0 script.messages)

-- the name of a message: its sender and its number
abbrev pub message_name : ℕ × ℕ → List ℕ
message_name t = concat (codes " " ∷ decimal t.0 ∷ codes "." ∷ decimal t.1 ∷ [])

-- how many more there are
abbrev pub more_text : ℕ → List ℕ
more_text count = if count == 0 then [] else concat (codes " and " ∷ decimal count ∷ codes " more" ∷ [])

-- at most 16 messages by name, and how many more there are
abbrev pub named_text : List (ℕ × ℕ) → List ℕ
named_text names = flat_map message_name (take 16 names) ++ more_text (length names - 16)

-- the line of messages that nobody has delivered
abbrev pub names_line : List (ℕ × ℕ) → List ℕ
names_line names = concat (codes "delivered by nobody:" ∷ named_text names ∷ codes "\n" ∷ [])

-- no line where there are none
abbrev pub undelivered_text : List (ℕ × ℕ) → List ℕ
undelivered_text names = if length names == 0 then [] else names_line names

-- a crash of this turn before this push
abbrev pub is_sooner : ℕ → ℕ → What → Bool
is_sooner turn push (Crash t p) = (t == turn) && nat_lt p push
is_sooner turn push (Suspect t other) = false

abbrev pub is_crashed : End → Bool
is_crashed Crashed = true
is_crashed end = false

-- whether a member was to crash in this turn of this age before this push
abbrev pub is_forestalled : List Fault → ℕ → ℕ → ℕ → ℕ → Bool
is_forestalled faults age member turn push =
    list_any (λ (f : Fault). (f.age == age) && ((f.member == member) && is_sooner turn push f.what)) faults

-- whether what was planned for a member of this number in this age has come, as it ended so: a crash where it
-- crashed in that turn, and none was planned for an earlier push of it; a suspicion where it came to that turn
abbrev pub has_come : List Fault → ℕ → ℕ → MemberEnd → What → Bool
has_come faults age member e (Crash turn push) =
    is_crashed e.end && ((e.turns == turn) && not (is_forestalled faults age member turn push))
has_come faults age member e (Suspect turn other) = nat_le turn e.turns

-- the line of a fault that never came
abbrev pub never_line : ℕ → ℕ → ℕ → List ℕ
never_line number member turns =
    concat
    (codes "fault " ∷ decimal number ∷ codes " never came: member " ∷ decimal member ∷ codes " ended in turn "
    ∷ decimal turns ∷ codes "\n" ∷ [])

-- the line of a fault of this number, where it was planned for such an end of its member and never came
abbrev pub fault_text : List Fault → ℕ → Fault → Option MemberEnd → List ℕ
fault_text faults number f None = []
fault_text faults number f (Some e) =
    if has_come faults f.age f.member e f.what then [] else never_line number f.member e.turns

-- the same, where it is one of this age of the run
abbrev pub fault_in : List Fault → ℕ → List MemberEnd → ℕ → Fault → List ℕ
fault_in faults nth members number f =
    if f.age == nth then fault_text faults number f (slice_get members f.member) else []

-- the faults of this age of the run that never came
abbrev pub faults_text : List Fault → ℕ → List MemberEnd → List ℕ
faults_text faults nth members =
    flat_map (λ t. fault_in faults nth members t.0 t.1) (enumerate_from 0 faults)

-- whether what was planned for a member that ended so never came
abbrev pub was_missed : List Fault → Fault → Option MemberEnd → Bool
was_missed faults f None = false
was_missed faults f (Some e) = not (has_come faults f.age f.member e f.what)

-- whether a fault is one of this age of the run and never came
abbrev pub never_came : List Fault → ℕ → List MemberEnd → Fault → Bool
never_came faults nth members f = (f.age == nth) && was_missed faults f (slice_get members f.member)

-- the number of a fault, where it is one of those
abbrev pub missed_in : List Fault → ℕ → List MemberEnd → ℕ → Fault → List ℕ
missed_in faults nth members number f = if never_came faults nth members f then number ∷ [] else []

-- the numbers of the faults of this age of the run that never came
abbrev pub missed : List Fault → ℕ → List MemberEnd → List ℕ
missed faults nth members = flat_map (λ t. missed_in faults nth members t.0 t.1) (enumerate_from 0 faults)

-- how a member of this number ended, and in which turn of how many
abbrev pub end_line : ℕ → ℕ → MemberEnd → List ℕ
end_line limit number m =
    concat
    (codes "member " ∷ decimal number ∷ codes " ended as " ∷ end_text m.end ∷ codes " in turn "
    ∷ decimal m.turns ∷ codes " of " ∷ decimal limit ∷ codes "\n" ∷ [])

abbrev pub ends_text : ℕ → List MemberEnd → List ℕ
ends_text limit members = flat_map (λ t. end_line limit t.0 t.1) (enumerate_from 0 members)
