-- The summary of an age as a JSON object.
use Rattle.std.specs.{Fmt.decimal, List.{concat, enumerate_from, flat_map}}
use Rattle.std.specs.Prelude.{ℕ, ◌+◌, ◌==◌, if◌then◌else◌, List, [], ◌∷◌, ◌++◌, length, drop, codes}
use Rattle.dr_entry.specs.declared.{end.{AgeEnd.AgeEnd, MemberEnd.MemberEnd}, entry.Entry.Entry}
use Rattle.dr_entry.specs.declared.entry.Entry.TheVariants.{View, Msg}
use Rattle.dr_json.specs.Json.{comma_before, json_text}
use Rattle.dr_script.specs.declared.script.Script.{Script}
use Rattle.dr_text.specs.Report.{end_text, mask_text}
use Rattle.dr_summary.specs.{Histories.longest, Notes.{missed, undelivered}}

-- what begins the line of an element of a list with this number, behind a comma but for the first
abbrev pub line_before : ℕ → List ℕ
line_before number = if number == 0 then codes "\n" else codes ",\n"

-- what stands behind the members of a View: its number in the history, and that of the view
abbrev pub view_tail : ℕ → ℕ → List ℕ
view_tail n view =
    concat (codes "], \"number\": " ∷ decimal n ∷ codes ", \"view\": " ∷ decimal view ∷ codes "}" ∷ [])

-- what stands before the text of a message
abbrev pub message_head : ℕ → ℕ → ℕ → List ℕ
message_head n sender index =
    concat
    (codes "   {\"index\": " ∷ decimal index ∷ codes ", \"number\": " ∷ decimal n ∷ codes ", \"sender\": "
    ∷ decimal sender ∷ codes ", \"text\": " ∷ [])

-- the entry with this number
abbrev pub entry_object : ℕ → Entry → List ℕ
entry_object n (View age number members) =
    codes "   {\"members\": [" ++ (mask_text members ++ view_tail n number)
entry_object n (Msg sender index bytes) =
    message_head n sender index ++ (json_text bytes ++ codes "}")

-- the one at this place of those from number first on
abbrev pub next_entry_object : ℕ → ℕ → Entry → List ℕ
next_entry_object first place entry = line_before place ++ entry_object (first + place) entry

-- entries, the first of which has this number
abbrev pub entry_objects : ℕ → List Entry → List ℕ
entry_objects first entries = flat_map (λ t. next_entry_object first t.0 t.1) (enumerate_from 0 entries)

-- how many entries a member has delivered, and how many it knows to be durable
abbrev pub member_known : MemberEnd → List ℕ
member_known m =
    concat
    (codes "   {\"delivered\": " ∷ decimal (length m.history) ∷ codes ", \"durable\": " ∷ decimal m.durable
    ∷ codes ", \"end\": \"" ∷ [])

-- how many it has on its log, its number, and after how many turns it ended
abbrev pub member_ended : ℕ → MemberEnd → List ℕ
member_ended number m =
    concat
    (codes "\", \"logged\": " ∷ decimal m.logged ∷ codes ", \"member\": " ∷ decimal number
    ∷ codes ", \"turns\": " ∷ decimal m.turns ∷ codes "}" ∷ [])

-- the member with this number, and how it ended
abbrev pub member_object : ℕ → MemberEnd → List ℕ
member_object number m =
    concat (line_before number ∷ member_known m ∷ end_text m.end ∷ member_ended number m ∷ [])

abbrev pub member_objects : List MemberEnd → List ℕ
member_objects members = flat_map (λ t. member_object t.0 t.1) (enumerate_from 0 members)

-- a message that nobody delivered, by its sender and its number
abbrev pub name_array : ℕ → ℕ × ℕ → List ℕ
name_array place name =
    concat (comma_before place ∷ codes "[" ∷ decimal name.0 ∷ codes ", " ∷ decimal name.1 ∷ codes "]" ∷ [])

abbrev pub name_arrays : List (ℕ × ℕ) → List ℕ
name_arrays names = flat_map (λ t. name_array t.0 t.1) (enumerate_from 0 names)

-- an age, and the entries of this history that it added to its start
abbrev pub age_entries : AgeEnd → List Entry → List ℕ
age_entries a history =
    concat
    (codes " {\"age\": " ∷ decimal a.age ∷ codes ",\n  \"entries\": ["
    ∷ entry_objects (length a.start) (drop (length a.start) history) ∷ codes "],\n" ∷ [])

-- its members
abbrev pub age_members : AgeEnd → List ℕ
age_members a =
    concat (codes "  \"members\": [" ∷ member_objects a.members ∷ codes "],\n" ∷ [])

-- how many entries it started with
abbrev pub age_start : AgeEnd → List ℕ
age_start a = concat (codes "  \"start\": " ∷ decimal (length a.start) ∷ codes ",\n" ∷ [])

-- the number of a fault that never came
abbrev pub number_element : ℕ → ℕ → List ℕ
number_element place number = comma_before place ++ decimal number

abbrev pub number_elements : List ℕ → List ℕ
number_elements numbers = flat_map (λ t. number_element t.0 t.1) (enumerate_from 0 numbers)

-- the faults of an age that never came
abbrev pub age_missed : List ℕ → List ℕ
age_missed numbers = concat (codes "  \"never_came\": [" ∷ number_elements numbers ∷ codes "],\n" ∷ [])

-- the messages that nobody has delivered
abbrev pub age_undelivered : List (ℕ × ℕ) → List ℕ
age_undelivered names = concat (codes "  \"undelivered\": [" ∷ name_arrays names ∷ codes "]}" ∷ [])

-- age number nth of a run up to its members, by this history
abbrev pub age_front : ℕ → AgeEnd → List Entry → List ℕ
age_front nth a history = line_before nth ++ (age_entries a history ++ age_members a)

-- what stands behind them
abbrev pub age_back : Script → ℕ → AgeEnd → List Entry → List ℕ
age_back script nth a history =
    age_missed (missed script.faults nth a.members) ++ (age_start a ++ age_undelivered (undelivered script history))

-- age number nth of a run of the script, from 0, by the longest history
abbrev pub age_object : Script → ℕ → AgeEnd → List ℕ
age_object script nth a =
    age_front nth a (longest a.members) ++ age_back script nth a (longest a.members)
