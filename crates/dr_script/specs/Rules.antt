-- The rules that a script keeps, by their numbers. Each gives the places at which it is broken,
-- in the order of the text, where the rules before it are kept.
use Rattle.std.specs.{List.list_all, Option.option_map_or, Str.bytes_eq}
use Rattle.std.specs.Prelude.{ℕ, List, [], ◌∷◌, ◌++◌, length, Bool, not, ◌==◌, ◌&&◌, ◌||◌, nat_le, if◌then◌else◌, codes, Option, Some, None, is_some, option_map, unwrap_or}
use Rattle.dr_entry.specs.declared.limits.TheConstants.{MAX_MEMBERS, MAX_MESSAGE_LENGTH, MAX_MESSAGES}
use Rattle.serde_json.specs.{Data.{Data, number, string}, Find.{get, as_u64, as_str, as_object}}
use Rattle.dr_script.specs.Json.{◌>>=◌, only_if, list_of, list_at, elements_of, has_exactly, within, below, number_at, number_below, pair_at}
use Rattle.dr_script.specs.{Places.{unless, each, broken_at, or_else}, declared.script.{Schedule.Schedule, What.What}}
use Rattle.dr_script.specs.declared.{passage.{Broken.Broken, Passage.Passage}, script.Fault.Fault, sizes.Sizes.Sizes}
use Rattle.dr_script.specs.declared.script.{Schedule.TheVariants.{Lockstep, Seed}, What.TheVariants.{Crash, Suspect}}
use Rattle.dr_script.specs.declared.passage.Passage.TheVariants as places

-- the keys of a script
abbrev pub script_keys : List (List ℕ)
script_keys = codes "members" ∷ codes "window" ∷ codes "turns" ∷ codes "patience" ∷ codes "ages"
    ∷ codes "messages" ∷ codes "faults" ∷ codes "schedule" ∷ []

-- 1: it is an object
abbrev pub object_breaks : Data → List Passage
object_breaks d = unless (is_some (as_object d)) places.Whole

-- 2: its keys are exactly those of a script
abbrev pub keys_breaks : Data → List Passage
keys_breaks d = unless (has_exactly script_keys d) places.Whole

-- members, where it is whole, 1 to 16
abbrev pub members_of : Data → Option ℕ
members_of = number_at (codes "members") 1 MAX_MEMBERS

-- 3: members is whole, 1 to 16
abbrev pub members_breaks : Data → List Passage
members_breaks d = unless (is_some (members_of d)) places.Members

-- window, where it is whole, 1 to 8
abbrev pub window_of : Data → Option ℕ
window_of = number_at (codes "window") 1 8

-- 4: window is whole, 1 to 8
abbrev pub window_breaks : Data → List Passage
window_breaks d = unless (is_some (window_of d)) places.Window

-- turns, where it is whole, 1 to 1000000
abbrev pub turns_of : Data → Option ℕ
turns_of = number_at (codes "turns") 1 1000000

-- 5: turns is whole, 1 to 1000000
abbrev pub turns_breaks : Data → List Passage
turns_breaks d = unless (is_some (turns_of d)) places.Turns

-- patience, where it is 0, or whole, 3 to 1000000
abbrev pub patience_of : Data → Option ℕ
patience_of d = number_at (codes "patience") 0 1000000 d >>= (λ n. only_if (n == 0 || nat_le 3 n) n)

-- 6: patience is 0, or whole, 3 to 1000000
abbrev pub patience_breaks : Data → List Passage
patience_breaks d = unless (is_some (patience_of d)) places.Patience

-- ages, where it is whole, 1 to 16
abbrev pub ages_of : Data → Option ℕ
ages_of = number_at (codes "ages") 1 16

-- 7: ages is whole, 1 to 16
abbrev pub ages_breaks : Data → List Passage
ages_breaks d = unless (is_some (ages_of d)) places.Ages

-- the five numbers, 0 in place of one that breaks its rule
abbrev pub sizes_of : Data → Sizes
sizes_of d = record {
  members = unwrap_or (members_of d) 0;
  window = unwrap_or (window_of d) 0;
  turns = unwrap_or (turns_of d) 0;
  patience = unwrap_or (patience_of d) 0;
  ages = unwrap_or (ages_of d) 0;
}

-- as many arrays as members
abbrev pub are_lists : ℕ → List Data → Bool
are_lists members lists = (length lists == members) && list_all (λ list. is_some (list_of list)) lists

-- the elements of messages, where it is an array of as many arrays as members
abbrev pub lists_of : ℕ → Data → Option (List Data)
lists_of members d = list_at (codes "messages") d >>= (λ lists. only_if (are_lists members lists) lists)

-- 8: messages is an array of as many arrays as members
abbrev pub messages_breaks : Data → List Passage
messages_breaks d = unless (is_some (lists_of (sizes_of d).members d)) places.Messages

-- the arrays in messages, none where that breaks its rule
abbrev pub lists_in : Data → List Data
lists_in d = unwrap_or (lists_of (sizes_of d).members d) []

-- an array has at most 4096 elements
abbrev pub is_short : Data → Bool
is_short list = nat_le (length (elements_of list)) MAX_MESSAGES

-- the arrays that are longer
abbrev pub long_breaks : List Data → List Passage
long_breaks = each (λ member list. unless (is_short list) (places.Texts member))

-- 9: each array in messages has at most 4096 elements
abbrev pub texts_breaks : Data → List Passage
texts_breaks d = long_breaks (lists_in d)

-- a text, where it has at most 64 bytes
abbrev pub text_of : Data → Option (List ℕ)
text_of d = as_str d >>= (λ bytes. only_if (nat_le (length bytes) MAX_MESSAGE_LENGTH) bytes)

-- the elements of a member's array that are no such texts
abbrev pub member_breaks : ℕ → List Data → List Passage
member_breaks member = each (λ index text. unless (is_some (text_of text)) (places.Text member index))

-- those of all members, in order
abbrev pub list_breaks : List Data → List Passage
list_breaks = each (λ member list. member_breaks member (elements_of list))

-- 10: each element of an array in messages is a text of at most 64 bytes
abbrev pub text_breaks : Data → List Passage
text_breaks d = list_breaks (lists_in d)

-- the elements of faults, where it is an array of at most 256
abbrev pub few_faults_of : Data → Option (List Data)
few_faults_of d = list_at (codes "faults") d >>= (λ faults. only_if (nat_le (length faults) 256) faults)

-- an object with exactly age, member and one of crash and suspect
abbrev pub is_fault : Data → Bool
is_fault d = has_exactly (codes "age" ∷ codes "member" ∷ codes "crash" ∷ []) d
    || has_exactly (codes "age" ∷ codes "member" ∷ codes "suspect" ∷ []) d

-- the elements that are none
abbrev pub form_breaks : List Data → List Passage
form_breaks = each (λ index fault. unless (is_fault fault) (places.Fault index))

-- 11: faults is an array of at most 256 such objects
abbrev pub faults_breaks : Data → List Passage
faults_breaks d = option_map_or form_breaks (few_faults_of d) (places.Faults ∷ [])

-- the elements of faults, none where that is no such array
abbrev pub faults_in : Data → List Data
faults_in d = unwrap_or (few_faults_of d) []

-- the age of a fault, where it is whole, below ages
abbrev pub age_of : Sizes → Data → Option ℕ
age_of sizes = number_below (codes "age") sizes.ages

-- the member of a fault, where it is whole, below members
abbrev pub member_of : Sizes → Data → Option ℕ
member_of sizes = number_below (codes "member") sizes.members

-- a fault has such an age and such a member
abbrev pub is_placed : Sizes → Data → Bool
is_placed sizes d = is_some (age_of sizes d) && is_some (member_of sizes d)

-- the elements that have not
abbrev pub place_breaks : Sizes → List Data → List Passage
place_breaks sizes = each (λ index fault. unless (is_placed sizes fault) (places.Fault index))

-- 12: the age of each fault is whole, below ages, and its member whole, below members
abbrev pub placed_breaks : Data → List Passage
placed_breaks d = place_breaks (sizes_of d) (faults_in d)

-- a crash: [turn, push], with a turn from 1 to turns and a push from 0 to 65535
abbrev pub crash_of : Sizes → Data → Option What
crash_of sizes d = do
  pair ← pair_at (codes "crash") d
  turn ← within 1 sizes.turns pair.0
  push ← within 0 65535 pair.1
  Some (Crash turn push)

-- a suspicion: [turn, other], with a turn from 1 to turns and another member below members
abbrev pub suspect_of : Sizes → ℕ → Data → Option What
suspect_of sizes member d = do
  pair ← pair_at (codes "suspect") d
  turn ← within 1 sizes.turns pair.0
  other ← below sizes.members pair.1
  only_if (not (other == member)) (Suspect turn other)

-- the one of them that a fault has
abbrev pub what_of : Sizes → ℕ → Data → Option What
what_of sizes member d = if is_some
    (get (codes "crash") d) then crash_of sizes d else suspect_of sizes member d

-- the fault that an element is
abbrev pub fault_of : Sizes → Data → Option Fault
fault_of sizes d = do
  age ← age_of sizes d
  member ← member_of sizes d
  what ← what_of sizes member d
  Some (record { age = age; member = member; what = what })

-- the elements that are no faults
abbrev pub deed_breaks : Sizes → List Data → List Passage
deed_breaks sizes = each (λ index fault. unless (is_some (fault_of sizes fault)) (places.Fault index))

-- 13: the crash or the suspicion of each fault is one for the script's turns and members
abbrev pub what_breaks : Data → List Passage
what_breaks d = deed_breaks (sizes_of d) (faults_in d)

-- the text `lockstep`, or a whole number, a seed
abbrev pub schedule_in : Data → Option Schedule
schedule_in (number n) = option_map Seed (as_u64 n)
schedule_in (string bytes) = only_if (bytes_eq bytes (codes "lockstep")) Lockstep
schedule_in _ = None

-- schedule, where it is one of these
abbrev pub schedule_of : Data → Option Schedule
schedule_of d = get (codes "schedule") d >>= schedule_in

-- 14: schedule is the text `lockstep`, or whole
abbrev pub schedule_breaks : Data → List Passage
schedule_breaks d = unless (is_some (schedule_of d)) places.Schedule

-- a rule: its number, and the places at which it is broken
abbrev pub Rule : Type 0
Rule = ℕ × (Data → List Passage)

-- the rules on the keys
abbrev pub shape_rules : List Rule
shape_rules = (1, object_breaks) ∷ (2, keys_breaks) ∷ []

-- those on the numbers
abbrev pub size_rules : List Rule
size_rules = (3, members_breaks) ∷ (4, window_breaks) ∷ (5, turns_breaks) ∷ (6, patience_breaks)
    ∷ (7, ages_breaks) ∷ []

-- those on the messages
abbrev pub message_rules : List Rule
message_rules = (8, messages_breaks) ∷ (9, texts_breaks) ∷ (10, text_breaks) ∷ []

-- those on the faults
abbrev pub fault_rules : List Rule
fault_rules = (11, faults_breaks) ∷ (12, placed_breaks) ∷ (13, what_breaks) ∷ []

-- that on the schedule
abbrev pub schedule_rules : List Rule
schedule_rules = (14, schedule_breaks) ∷ []

-- all rules, in their order
abbrev pub rules : List Rule
rules = shape_rules ++ (size_rules ++ (message_rules ++ (fault_rules ++ schedule_rules)))

-- the first of these rules that is broken, at the first of its places
abbrev pub first_broken : List Rule → Data → Option Broken
first_broken [] d = None
first_broken (rule ∷ rest) d = or_else (broken_at rule.0 (rule.1 d)) (first_broken rest d)
