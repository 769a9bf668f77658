-- What is read of a source, and by which line a text that is no script is refused.
use Rattle.std.specs.Prelude.{◌≡◌, ℕ, ◌<◌, ◌≤◌, List, length, Option, None, Some}
use Rattle.dr_io.specs.Source.{Loses, IsUsedUp}
use Rattle.dr_script.specs.Reading.{Reading, TooLong, NotJson, Wrong, Reads, reading_of}
use Rattle.dr_script.specs.declared.script.Script.{Script}
use Rattle.dr_text.specs.declared.last.Last.{Last}
use Rattle.dr_text.specs.declared.last.Last.TheVariants as lasts

-- these bytes were read from the front of what was left: all of it, or as many as the limit
pub record WasReadTo (most : ℕ) (old new : Option (List ℕ)) (bytes : List ℕ) : Type 0 where
  pub lost : Loses old new bytes
  pub end : length bytes < most → IsUsedUp new
  pub limit : length bytes ≤ most

-- these bytes were read for a script: all of what was left, or one byte more than a script may have
abbrev pub WasRead : Option (List ℕ) → Option (List ℕ) → List ℕ → Type 0
WasRead = WasReadTo 1048577

-- what was read is this script
abbrev pub IsScript : Option (List ℕ) → Option (List ℕ) → Script → Type 0
IsScript old new s = (bytes : List ℕ) × WasRead old new bytes × (reading_of bytes ≡ Reads s)

-- the last line by which a text that is no script is refused
abbrev pub refusal_in : Reading → Option Last
refusal_in TooLong = Some lasts.TooLong
refusal_in NotJson = Some lasts.NotJson
refusal_in (Wrong rule path) = Some (lasts.Rule rule path)
refusal_in (Reads script) = None
