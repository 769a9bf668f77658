-- The table of outcomes: for each the number of runs that have it, and the first seed.
use Rattle.std.specs.{Fmt.decimal, List.{concat, flat_map}}
use Rattle.std.specs.Prelude.{◌≡◌, ℕ, ◌+◌, ◌<◌, if◌then◌else◌, false, List, [], ◌∷◌, ◌++◌, AllPairs, bytes_eq, codes, get_or, length, map, slice_get, Option, None, Some}
use Rattle.dr_script.specs.declared.script.{Fault.Fault, Script.Script, What.{What, TheVariants.{Crash, Suspect}}}
use Rattle.dr_summary.specs.Table.{behind_blanks}
use Rattle.dr_tools.specs.{Outcomes.ComesTo, declared.sweeps.{rows.Row.Row, variants.Variants.Variants}}
use Rattle.dr_tools.specs.declared.sweeps.variants.Variants.TheVariants.{Crashes, Seeded}

-- how many of these lines are this one
abbrev pub times : List ℕ → List (List ℕ) → ℕ
times line [] = 0
times line (l ∷ ls) = (if bytes_eq l line then 1 else 0) + times line ls

-- the seed of the first of these lines that is this one, where they are those of seeds from this one on
abbrev pub first_seed : ℕ → List ℕ → List (List ℕ) → Option ℕ
first_seed from line [] = None
first_seed from line (l ∷ ls) = if bytes_eq l line then Some from else first_seed (from + 1) line ls

-- the line of a row
abbrev pub row_line : Row → List ℕ
row_line r = r.line

-- the count that the row of a line has, and 0 where there is none
abbrev pub count_in : List ℕ → List Row → ℕ
count_in line [] = 0
count_in line (r ∷ rs) = if bytes_eq r.line line then r.count else count_in line rs

-- the first seed that the row of a line has, if there is one
abbrev pub first_in : List ℕ → List Row → Option ℕ
first_in line [] = None
first_in line (r ∷ rs) = if bytes_eq r.line line then Some r.first else first_in line rs

-- the rows of runs by seeds from this one on that have these outcomes
pub record AreRows (from : ℕ) (lines : List (List ℕ)) (rows : List Row) : Type 0 where
  -- no outcome has two rows
  pub once : AllPairs (λ line other. bytes_eq line other ≡ false) (map row_line rows)
  -- a count is the number of runs that have the outcome
  pub counts : (line : List ℕ) → count_in line rows ≡ times line lines
  -- a first seed is the least by which a run has it
  pub firsts : (line : List ℕ) → first_in line rows ≡ first_seed from line lines

-- the runs of so many scripts, in which these members are late, have these outcomes
pub record HaveOutcomes (scripts : ℕ → Script) (late count : ℕ) (lines : List (List ℕ)) : Type 0 where
  pub many : length lines ≡ count
  pub each : (i : ℕ) → i < count → ComesTo (scripts i) late (get_or lines i [])

-- the rows of the runs of so many scripts, which are numbered from here on
pub record IsTally (scripts : ℕ → Script) (late from count : ℕ) (rows : List Row) : Type 0 where
  pub lines : List (List ℕ)
  pub have : HaveOutcomes scripts late count lines
  pub are : AreRows from lines rows

-- the rows with one run more
abbrev pub with_run : ℕ → List ℕ → List Row → List Row
with_run seed line [] = record { line = line; count = 1; first = seed } ∷ []
with_run seed line (r ∷ rs) =
    if bytes_eq r.line line then record r { count = r.count + 1 } ∷ rs else r ∷ with_run seed line rs

-- the point of a crash, as a row tells it
abbrev pub point_text : ℕ → What → List ℕ
point_text age (Crash turn push) =
    concat (behind_blanks 9 (decimal age) ∷ codes "  " ∷ behind_blanks 7 (decimal turn) ∷ codes "  "
    ∷ behind_blanks 5 (decimal push) ∷ [])
point_text age (Suspect turn other) = []

-- a crash, if there is one
abbrev pub crash_text : Option Fault → List ℕ
crash_text None = []
crash_text (Some fault) = point_text fault.age fault.what

-- the first run of a row: by its seed, or by its crash
abbrev pub first_text : Variants → ℕ → List ℕ
first_text (Seeded seeds) first = behind_blanks 10 (decimal first)
first_text (Crashes faults) first = crash_text (slice_get faults first)

-- the line of a row
abbrev pub outcome_row : Variants → Row → List ℕ
outcome_row variants r =
    concat
    (behind_blanks 5 (decimal r.count) ∷ codes "  " ∷ first_text variants r.first ∷ codes "  " ∷ r.line ∷ [])

-- the line above the rows
abbrev pub heading : Variants → List ℕ
heading (Seeded seeds) = codes " runs  first seed  outcome\n"
heading (Crashes faults) = codes " runs  first age     turn   push  outcome\n"

-- the table of rows
abbrev pub rows_text : Variants → List Row → List ℕ
rows_text variants rows = heading variants ++ flat_map (outcome_row variants) rows
