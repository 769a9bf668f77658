-- Messages and scripts as JSON texts.
use Rattle.std.specs.{Fmt.decimal, List.{concat, enumerate_from, flat_map}}
use Rattle.std.specs.{Prelude.{ℕ, ◌==◌, if◌then◌else◌, List, [], ◌∷◌, ◌++◌, codes}, Str.is_utf8}
use Rattle.dr_script.specs.declared.script.{Fault.Fault, Schedule.{Schedule, TheVariants.{Lockstep, Seed}}}
use Rattle.dr_script.specs.declared.script.{Script.Script, What.{What, TheVariants.{Crash, Suspect}}}
use Rattle.dr_text.specs.Report.{hex_text}
use Rattle.serde_json.specs.{Data.string, Written.compact_text}

-- the text that a message is: its bytes, or these in hexadecimal, where they are not UTF-8
abbrev pub shown_text : List ℕ → List ℕ
shown_text bytes = if is_utf8 bytes then bytes else flat_map hex_text bytes

-- a message as a JSON string
abbrev pub json_text : List ℕ → List ℕ
json_text bytes = compact_text (string (shown_text bytes))

-- the comma before an element of a list with this number
abbrev pub comma_before : ℕ → List ℕ
comma_before number = if number == 0 then [] else codes ", "

-- a message with this number
abbrev pub element_json : ℕ → List ℕ → List ℕ
element_json index bytes = comma_before index ++ json_text bytes

-- the messages of a member
abbrev pub list_json : List (List ℕ) → List ℕ
list_json messages = flat_map (λ t. element_json t.0 t.1) (enumerate_from 0 messages)

-- those of the member with this number
abbrev pub member_json : ℕ → List (List ℕ) → List ℕ
member_json member messages = concat (comma_before member ∷ codes "[" ∷ list_json messages ∷ codes "]" ∷ [])

-- the messages of all members
abbrev pub lists_json : List (List (List ℕ)) → List ℕ
lists_json lists = flat_map (λ t. member_json t.0 t.1) (enumerate_from 0 lists)

-- what happens to a member, behind its other keys
abbrev pub what_json : What → List ℕ
what_json (Crash turn push) =
    concat (codes "\"crash\": [" ∷ decimal turn ∷ codes ", " ∷ decimal push ∷ codes "]}" ∷ [])
what_json (Suspect turn other) =
    concat (codes "\"suspect\": [" ∷ decimal turn ∷ codes ", " ∷ decimal other ∷ codes "]}" ∷ [])

-- whose fault it is, before that
abbrev pub whose_json : ℕ → ℕ → List ℕ
whose_json age member =
    concat
    (codes "{\"age\": " ∷ decimal age ∷ codes ", \"member\": " ∷ decimal member ∷ codes ", " ∷ [])

-- the fault with this number
abbrev pub fault_json : ℕ → Fault → List ℕ
fault_json index f = concat (comma_before index ∷ whose_json f.age f.member ∷ what_json f.what ∷ [])

-- all faults
abbrev pub faults_json : List Fault → List ℕ
faults_json faults = flat_map (λ t. fault_json t.0 t.1) (enumerate_from 0 faults)

-- the schedule
abbrev pub schedule_json : Schedule → List ℕ
schedule_json Lockstep = codes "\"lockstep\""
schedule_json (Seed seed) = decimal seed

-- the line of a number of a script
abbrev pub size_json : List ℕ → ℕ → List ℕ
size_json key size = concat (codes "  \"" ∷ key ∷ codes "\": " ∷ decimal size ∷ codes ",\n" ∷ [])

-- the numbers of its group, and those of its runs
abbrev pub group_sizes : Script → List ℕ
group_sizes s = size_json (codes "members") s.members ++ size_json (codes "window") s.window

abbrev pub run_sizes : Script → List ℕ
run_sizes s =
    size_json (codes "turns") s.turns
    ++ (size_json (codes "patience") s.patience ++ size_json (codes "ages") s.ages)

-- the lines of its messages, its faults and its schedule
abbrev pub messages_line : List (List (List ℕ)) → List ℕ
messages_line lists = concat (codes "  \"messages\": [" ∷ lists_json lists ∷ codes "],\n" ∷ [])

abbrev pub faults_line : List Fault → List ℕ
faults_line faults = concat (codes "  \"faults\": [" ∷ faults_json faults ∷ codes "],\n" ∷ [])

abbrev pub schedule_line : Schedule → List ℕ
schedule_line schedule = concat (codes "  \"schedule\": " ∷ schedule_json schedule ∷ codes "\n}\n" ∷ [])

-- a script up to its numbers
abbrev pub script_head : Script → List ℕ
script_head s = codes "{\n" ++ (group_sizes s ++ run_sizes s)

-- its messages and faults
abbrev pub script_lists : Script → List ℕ
script_lists s = messages_line s.messages ++ faults_line s.faults

-- a script, a line for each key
abbrev pub script_json : Script → List ℕ
script_json s = script_head s ++ (script_lists s ++ schedule_line s.schedule)
