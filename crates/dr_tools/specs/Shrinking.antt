-- A smaller script that still ends as wanted.
use Rattle.std.specs.Prelude.{◌≡◌, ℕ, ◌-◌, ◌<◌, Bool, true, false, if◌then◌else◌, List, get_or, length, slice_set}
use Rattle.dr_json.specs.Json.{script_json}
use Rattle.dr_script.specs.declared.script.Script.{Script}
use Rattle.dr_tools.specs.{Limits.limited, Outcomes.TextEndsSo, Parts.kept_parts}

-- the script with these of its parts ends so
abbrev pub EndsSoWith : Script → ℕ → List ℕ → List Bool → Type 0
EndsSoWith script late wanted keeps = TextEndsSo (script_json (kept_parts keeps script)) late wanted true

-- the text is that of the script without some of its faults and messages, and ends so
pub record IsSmaller (script : Script) (late : ℕ) (wanted text : List ℕ) : Type 0 where
  pub keeps : List Bool
  pub cut : text ≡ script_json (kept_parts keeps script)
  pub ends : TextEndsSo text late wanted true

-- whether the script of which these limits let no more ends so
abbrev pub EndsUnder : Script → ℕ → List ℕ → List ℕ → Bool → Type 0
EndsUnder script late wanted limits = TextEndsSo (script_json (limited limits script)) late wanted

-- where the limit with this number is 0 instead, or one less, the script doesn't end so
abbrev pub IsLeastAt : Script → ℕ → List ℕ → List ℕ → ℕ → Type 0
IsLeastAt script late wanted limits i =
    0 < get_or limits i 0 → EndsUnder script late wanted (slice_set limits i 0) false
    × EndsUnder script late wanted (slice_set limits i (get_or limits i 0 - 1)) false

-- so it is with each of them
abbrev pub AreLeast : Script → ℕ → List ℕ → List ℕ → Type 0
AreLeast script late wanted limits = (i : ℕ) → i < length limits → IsLeastAt script late wanted limits i

-- the text is that of the script without some of its faults and messages, and under least limits, and ends so
pub record IsLeast (script : Script) (late : ℕ) (wanted text : List ℕ) : Type 0 where
  pub keeps : List Bool
  pub limits : List ℕ
  pub cut : text ≡ script_json (limited limits (kept_parts keeps script))
  pub ends : TextEndsSo text late wanted true
  pub least : AreLeast (kept_parts keeps script) late wanted limits

-- the one or the other
abbrev pub IsLess : Bool → Script → ℕ → List ℕ → List ℕ → Type 0
IsLess true = IsLeast
IsLess false = IsSmaller

-- the text is that of such a script, of the first of so many scripts that ends so
pub record IsShrunk (least : Bool) (scripts : ℕ → Script) (late count : ℕ) (wanted text : List ℕ) : Type 0 where
  pub number : ℕ
  pub below : number < count
  pub whole : TextEndsSo (script_json (scripts number)) late wanted true
  pub less : IsLess least (scripts number) late wanted text
  pub first : (n : ℕ) → n < number → TextEndsSo (script_json (scripts n)) late wanted false

-- none of so many scripts ends so
abbrev pub NoneEndsSo : (ℕ → Script) → ℕ → ℕ → List ℕ → Type 0
NoneEndsSo scripts late count wanted =
    (n : ℕ) → n < count → TextEndsSo (script_json (scripts n)) late wanted false
