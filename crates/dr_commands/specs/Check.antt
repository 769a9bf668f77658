-- What is handed in for a check, and what is said of it.
use Rattle.std.specs.Option.{option_map_or}
use Rattle.std.specs.Prelude.{◌≡◌, ⊤, ℕ, ◌<◌, ◌≤◌, ◌==◌, Bool, false, if◌then◌else◌, List, [], ◌∷◌, length, codes, Option, Some, None, option_map}
use Rattle.serde_json.specs.{Data.Data, Find.{as_object, as_str, get}}
use Rattle.dr_check.specs.{Verdicts.{IsVerdict, verdict_line}, declared.verdict.Verdict.Verdict}
use Rattle.dr_intake.specs.Reading.{refusal_in}
use Rattle.dr_script.specs.{Json.{◌>>=◌, json_of, keys}, Reading.{Reading, Reads, reading_of}}
use Rattle.dr_script.specs.declared.script.Script.{Script}
use Rattle.dr_text.specs.declared.last.Last.{Last}
use Rattle.dr_text.specs.declared.last.Last.TheVariants as lasts
use Rattle.dr_outcome.specs.{Outcome.SaysOnly, Playing.InFolder, declared.outcome.Outcome.Outcome}
use Rattle.dr_yard.specs.Yards.{AllTell, YardState}

-- the value is an object with two keys
abbrev pub has_two_keys : Data → Bool
has_two_keys d = option_map_or (λ ms. length (keys ms) == 2) (as_object d) false

-- the string at a key
abbrev pub text_at : List ℕ → Data → Option (List ℕ)
text_at key d = get key d >>= as_str

-- the texts of the script and of the report that a value hands in: an object that has these two keys and no
-- other, each with a string
abbrev pub handed_in : Data → Option (List ℕ × List ℕ)
handed_in d =
    if has_two_keys d
    then text_at (codes "script") d
    >>= (λ script. option_map (λ text. (script, text)) (text_at (codes "text") d))
    else None

-- the last line on the text of a report of a script: that of the verdict on it
abbrev pub TellsVerdict : Script → List ℕ → Last → Type 0
TellsVerdict script text last = (v : Verdict) × IsVerdict script text v × (verdict_line v ≡ last)

-- that on a text, by what is read of the script: of one that is none the line by which it is refused
abbrev pub SaysOfScript : Reading → List ℕ → Last → Type 0
SaysOfScript (Reads script) text last = TellsVerdict script text last
SaysOfScript refused text last = refusal_in refused ≡ Some last

-- The text is judged right, as one of a report of the script that these bytes are: that it is right is said of
-- it, and nothing else.
pub record IsJudgedRight (script text : List ℕ) : Type 0 where
  pub right : SaysOfScript (reading_of script) text lasts.Right
  pub only : (last : Last) → SaysOfScript (reading_of script) text last → last ≡ lasts.Right

-- that on what is handed in
abbrev pub SaysOfStrings : Option (List ℕ × List ℕ) → Last → Type 0
SaysOfStrings None last = last ≡ lasts.NotCheck
SaysOfStrings (Some texts) last = SaysOfScript (reading_of texts.0) texts.1 last

-- that on the value that bytes are
abbrev pub SaysOfValue : Option Data → Last → Type 0
SaysOfValue None last = last ≡ lasts.NotJson
SaysOfValue (Some d) last = SaysOfStrings (handed_in d) last

-- that on bytes that were read for a check
pub record IsChecked (bytes : List ℕ) (last : Last) : Type 0 where
  pub long : 1048576 < length bytes → last ≡ lasts.TooLong
  pub read : length bytes ≤ 1048576 → SaysOfValue (json_of bytes) last

-- bytes hand in these texts of a script and of a report: no more bytes than a script may have, which spell a
-- value that has the two
pub record HandsIn (bytes script text : List ℕ) : Type 0 where
  pub few : length bytes ≤ 1048576
  pub value : Data
  pub spelled : json_of bytes ≡ Some value
  pub texts : handed_in value ≡ Some (script, text)

-- the disks of a script's members tell, those in a folder; in memory they do
abbrev pub DisksTell : Option InFolder → ℕ → YardState → Type 0
DisksTell (Some folder) members yard = AllTell members yard
DisksTell None members yard = ⊤

-- the statuses of its last lines
abbrev pub check_ends : List ℕ
check_ends = 0 ∷ 3 ∷ 13 ∷ []

-- what a check comes to: nothing is run, and the last line is that on what was read
abbrev pub Checks : List ℕ → YardState → YardState → Outcome → Type 0
Checks bytes before after o = (last : Last) × IsChecked bytes last × SaysOnly (Some last) before after o
