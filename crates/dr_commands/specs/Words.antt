-- What the words of a call ask for.
use Rattle.std.specs.{List.find, Option.option_and_then, declared.alloc.Global.Global}
use Rattle.std.specs.Prelude.{ℕ, ◌^◌, ◌==◌, nat_lt, if◌then◌else◌, Bool, true, false, IsTrue, List, [], ◌∷◌, length, take, drop, map, codes, bytes_eq, Option, None, Some, is_some, option_map, String, string_bytes}
use Rattle.dr_ages.specs.declared.mode.Mode.{Mode, TheVariants.{Sim, Run}}
use Rattle.dr_literals.specs.{Literals.{key_word, number_word}, Options.{option_members, option_of}}
use Rattle.dr_outcome.specs.Playing.{InFolder, play_ends}
use Rattle.dr_commands.specs.{Check.check_ends, Sharding.sharding_of, Shards.shards_ends, declared.words.Verb.Verb}
use Rattle.dr_commands.specs.{Drill.drill_ends, Live.live_ends, Rounds.rounds_of, Store.store_ends}
use Rattle.dr_commands.specs.declared.words.Command.{Command, TheVariants.{Check, Drill, Live, Play, Shards, Store}}
use Rattle.dr_commands.specs.declared.words.Verb.TheVariants as verb

-- ---- commands, by the words behind their verb

-- what is asked, where no word is left
abbrev pub with_no_more : Option Command → List (List ℕ) → Option Command
with_no_more (Some asked) [] = Some asked
with_no_more asked rest = None

-- to play in a mode, over the logs in a folder if there is one, with these members late
abbrev pub played : Mode → Option InFolder → ℕ → Command
played mode folder late = Play (record { mode = mode; folder = folder; late = late })

-- the folder of this name, but for the logs of the members of a mask
abbrev pub in_folder : List ℕ → ℕ → InFolder
in_folder name missing = record { name = name; missing = missing }

-- the folder of this name, but for the logs that the words behind it name as missing, and the words behind these
abbrev pub folder_of : List ℕ → List (List ℕ) → Option (InFolder × List (List ℕ))
folder_of name words =
    option_map (λ found. (in_folder name found.0, found.1)) (option_members (codes "--missing") words)

-- to play in a mode over a folder, if there is one, with those late whom the words behind it name
abbrev pub play_over : Mode → Option InFolder → List (List ℕ) → Option Command
play_over mode folder words =
    option_and_then (λ found. with_no_more (Some (played mode folder found.0)) found.1)
    (option_members (codes "--late") words)

-- to play in a mode, by the words behind the name of a folder, if there is one
abbrev pub play_in : Mode → Option (List ℕ) → List (List ℕ) → Option Command
play_in mode None words = play_over mode None words
play_in mode (Some name) words =
    option_and_then (λ found. play_over mode (Some found.0) found.1) (folder_of name words)

abbrev pub play_of : Mode → List (List ℕ) → Option Command
play_of mode words =
    option_and_then (λ found. play_in mode found.0 found.1) (option_of (codes "--logs") words)

-- to ask for a key at a version, which is below 2^32
abbrev pub asked_at : List ℕ → ℕ → Option Command
asked_at key version = if nat_lt version (2 ^ 32) then Some (Store key version) else None

-- to ask for the key in hexadecimal, at the version in decimal
abbrev pub store_of : List (List ℕ) → Option Command
store_of (key ∷ version ∷ rest) =
    with_no_more
    (option_and_then (λ k. option_and_then (asked_at k) (number_word version)) (key_word key)) rest
store_of words = None

-- to run the drill of the number in decimal
abbrev pub drill_of : List (List ℕ) → Option Command
drill_of [] = None
drill_of (number ∷ rest) = with_no_more (option_map Drill (number_word number)) rest

-- to run the shards of a script
abbrev pub shards_of : List (List ℕ) → Option Command
shards_of words = option_map Shards (sharding_of words)

-- to run a script live in so many rounds
abbrev pub live_of : List (List ℕ) → Option Command
live_of words = option_map Live (rounds_of words)

-- ---- the two tables of words

-- the verbs: the words that name commands
abbrev pub verbs : List (List ℕ × Verb)
verbs = (codes "sim", verb.Sim) ∷ (codes "run", verb.Run) ∷ (codes "store", verb.Store)
    ∷ (codes "drill", verb.Drill) ∷ (codes "shards", verb.Shards)
    ∷ (codes "live", verb.Live) ∷ (codes "check", verb.Check) ∷ []

-- what the words behind a verb ask for
abbrev pub asked_behind : Verb → List (List ℕ) → Option Command
asked_behind verb.Sim = play_of Sim
asked_behind verb.Run = play_of Run
asked_behind verb.Store = store_of
asked_behind verb.Drill = drill_of
asked_behind verb.Shards = shards_of
asked_behind verb.Live = live_of
asked_behind verb.Check = with_no_more (Some Check)

-- the verb that a word is, by a table of them
abbrev pub verb_by : List (List ℕ × Verb) → List ℕ → Option Verb
verb_by table word = option_map (λ row. row.1) (find (λ row. bytes_eq row.0 word) table)

-- what these words ask for, where they are those of a command
abbrev pub command_of : List (List ℕ) → Option Command
command_of [] = None
command_of (word ∷ rest) = option_and_then (λ named. asked_behind named rest) (verb_by verbs word)

-- the same of the words of a call
abbrev pub asked_by : List (String Global) → Option Command
asked_by words = command_of (map string_bytes words)

-- the words are those of a command
abbrev pub IsCommand : List (String Global) → Type 0
IsCommand words = IsTrue (is_some (asked_by words))

-- ---- what is certain of a command

-- whether it reads the source
abbrev pub reads : Command → Bool
reads (Play play) = true
reads (Store key version) = true
reads (Drill number) = false
reads (Shards sharding) = true
reads (Live rounds) = true
reads Check = true

-- the statuses of the last lines that it may come to
abbrev pub ends_of : Command → List ℕ
ends_of (Play play) = play_ends play
ends_of (Store key version) = store_ends
ends_of (Drill number) = drill_ends
ends_of (Shards sharding) = shards_ends
ends_of (Live rounds) = live_ends
ends_of Check = check_ends

-- the statuses that a call may have besides want of memory and a fault of the sink
abbrev pub told_by : Option Command → List ℕ
told_by None = 2 ∷ []
told_by (Some command) = if reads command then 4 ∷ ends_of command else ends_of command

-- all statuses that a call may have
abbrev pub statuses_of : Option Command → List ℕ
statuses_of asked = 10 ∷ 5 ∷ told_by asked
