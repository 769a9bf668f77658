-- What is said of the next run over a folder of logs.
use Rattle.std.specs.{Fmt.decimal, List.{concat, list_all, list_any}}
use Rattle.std.specs.Prelude.{◌≡◌, ℕ, Bool, true, false, not, ◌&&◌, if◌then◌else◌, List, [], ◌∷◌, ◌++◌, codes, length, Result, Ok, Err}
use Rattle.dr_intake.specs.Status.{status_of}
use Rattle.dr_restart.specs.declared.start.Start.{Start}
use Rattle.dr_text.specs.{Report.last_text, declared.last.Last.Last}
use Rattle.dr_folder.specs.declared.survey.Survey.{Survey, TheVariants.Missing}

-- the age that the next run starts with, and how many entries
abbrev pub start_line : ℕ → ℕ → List ℕ
start_line age count = concat
    (codes "the next run: age " ∷ decimal age ∷ codes " start " ∷ decimal count ∷ codes "\n" ∷ [])

-- these, or its last line
abbrev pub next_run_line : Result Start Last → List ℕ
next_run_line (Ok start) = start_line start.age (length start.entries)
next_run_line (Err last) = codes "the next run: " ++ last_text last

-- the line of the next run stands in a text
abbrev pub TellsNext : Result Start Last → List ℕ → Type 0
TellsNext next text = (front : List ℕ) × (rest : List ℕ) × (text ≡ front ++ (next_run_line next ++ rest))

-- there is no file
abbrev pub is_missing : Survey → Bool
is_missing Missing = true
is_missing survey = false

-- some logs are missing, and others are there
abbrev pub lack_some : List Survey → Bool
lack_some surveys = list_any is_missing surveys && not (list_all is_missing surveys)

-- the status that is due: that of the last line; and where a run starts 14 if some logs are missing and others
-- are there, and 0 if not
abbrev pub status_due : List Survey → Result Start Last → ℕ
status_due surveys (Ok start) = if lack_some surveys then 14 else 0
status_due surveys (Err last) = status_of last
