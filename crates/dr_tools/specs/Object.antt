-- A summary as a JSON object.
use Rattle.std.specs.{Fmt.decimal, List.{concat, enumerate_from, flat_map}, Prelude.{ℕ, List, [], ◌∷◌, ◌++◌, codes}}
use Rattle.dr_entry.specs.declared.end.AgeEnd.{AgeEnd}
use Rattle.dr_intake.specs.Status.{status_of}
use Rattle.dr_script.specs.declared.script.Script.{Script}
use Rattle.dr_summary.specs.Objects.{age_object}
use Rattle.dr_text.specs.declared.last.Last.{Last}
use Rattle.dr_tools.specs.{Summary.{enough_of, summary_text}, declared.summary.enough.Enough.Enough}
use Rattle.dr_tools.specs.declared.summary.enough.Enough.TheVariants.{ForRun, InLockstep, Unknown}
use Rattle.dr_tools.specs.declared.summary.words.Wording.{Wording, TheVariants.{People, Programs}}

-- the ages of a run
abbrev pub age_objects : Script → List AgeEnd → List ℕ
age_objects script ages = flat_map (λ t. age_object script t.0 t.1) (enumerate_from 0 ages)

-- how many turns would have been enough, as far as that is known
abbrev pub enough_digits : Enough → List ℕ
enough_digits (ForRun turns) = decimal turns
enough_digits (InLockstep turns) = decimal turns
enough_digits Unknown = codes "null"

-- the ages of a run, as a summary begins
abbrev pub ages_part : Script → List AgeEnd → List ℕ
ages_part script ages = codes "{\"ages\": [" ++ age_objects script ages

-- the status, and how many turns the script has
abbrev pub status_part : ℕ → ℕ → List ℕ
status_part status turns =
    concat
    (codes "],\n \"status\": " ∷ decimal status ∷ codes ",\n \"turns\": " ∷ decimal turns
    ∷ codes ",\n \"turns_enough\": " ∷ [])

-- how many would have been enough, as a summary ends
abbrev pub enough_part : Enough → List ℕ
enough_part enough = enough_digits enough ++ codes "}\n"

-- the summary of a run of a script, for which so many turns would have been enough, with its ages, and the status of
-- its last line
abbrev pub summary_object : Script → Enough → List AgeEnd → Last → List ℕ
summary_object script enough ages last =
    ages_part script ages ++ (status_part (status_of last) script.turns ++ enough_part enough)

-- the summary of a run in which these members are late, in a wording
abbrev pub summary_by : Wording → Script → ℕ → List AgeEnd → Last → List ℕ
summary_by People script late ages last = summary_text script (enough_of script late ages) ages last
summary_by Programs script late ages last = summary_object script (enough_of script late ages) ages last
