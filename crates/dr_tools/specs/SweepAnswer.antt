-- What a call comes to.
use Rattle.std.specs.Prelude.{◌≡◌, ◌⊎◌, ℕ, nat_lt, Bool, List, length, MatchBool, Option, None, Some, String, codes, map, string_bytes}
use Rattle.std.specs.declared.alloc.Global.{Global}
use Rattle.dr_ages.specs.Ages.{all_with}
use Rattle.dr_intake.specs.Answer.{IsCallAnswer, Said, SaysOf, ToldBy}
use Rattle.dr_outcome.specs.Outcome.{AreAllLate}
use Rattle.dr_script.specs.{Reading.{Reading, reading_of}, declared.script.{Fault.Fault, Script.Script}}
use Rattle.dr_text.specs.declared.last.Last.TheVariants as lasts
use Rattle.dr_text.specs.Report.{last_text}
use Rattle.dr_tools.specs.{Crashes.AreCrashes, OutcomeForms.is_outcome, Rows.{IsTally, rows_text}, SweepWords.task_in}
use Rattle.dr_tools.specs.{Shrinking.{IsShrunk, NoneEndsSo}, Variants.{first_variant, variant, variants_in}}
use Rattle.dr_tools.specs.declared.sweeps.{rows.Row.Row, variants.Variants.{Variants, TheVariants.{Crashes, Seeded}}}
use Rattle.dr_tools.specs.declared.sweeps.words.{Runs.{Runs, TheVariants.{ByCrashes, BySeeds}}, Task.Task}

-- the text is the table of the runs of these variants of a script in which these members are late
pub record IsSweep (variants : Variants) (late : ℕ) (script : Script) (text : List ℕ) : Type 0 where
  pub rows : List Row
  pub tally : IsTally (variant variants script) late (first_variant variants) (variants_in variants) rows
  pub table : text ≡ rows_text variants rows

-- what is said where none of these runs ends so
abbrev pub none_text : Variants → List ℕ
none_text (Seeded seeds) = codes "by none of these seeds\n"
none_text (Crashes faults) = codes "by none of these crashes\n"

-- the text is that of a smaller script, or of a least one, or says that by none of these variants the script ends so
abbrev pub IsShrinking : Bool → Variants → ℕ → Script → List ℕ → Said → Type 0
IsShrinking least variants late script line said =
    (IsShrunk least (variant variants script) late (variants_in variants) line said.0 × (said.1 ≡ 0))
    ⊎ (NoneEndsSo (variant variants script) late (variants_in variants) line
    × (said.0 ≡ none_text variants) × (said.1 ≡ 14))

-- how it is called, and the status then
abbrev pub sweep_usage : List ℕ
sweep_usage = codes "usage: derecho_tools sweep (FROM COUNT|--crashes M) [(--shrink|--shrink-all) OUTCOME] [--late L] < SCRIPT\n"

abbrev pub SaysUsage : Said → Type 0
SaysUsage said = (said.0 ≡ sweep_usage) × (said.1 ≡ 2)

-- which outcomes there are, and the status then
abbrev pub outcomes_text : List ℕ
outcomes_text =
    codes
    "refused: no outcome of the script: one is ok, unfinished or no majority; or how each member ends (done, crashed, spent T, suspected J, excluded V, nomajority M,M), with commas between, bars between ages, and behind a colon one of those three\n"

abbrev pub SaysOutcomes : Said → Type 0
SaysOutcomes said = (said.0 ≡ outcomes_text) × (said.1 ≡ 2)

-- the script has as many faults as a script may have, so that one with a crash more is refused, and the status then
abbrev pub SaysFull : Said → Type 0
SaysFull said = (said.0 ≡ last_text (lasts.Rule 11 (codes "/faults"))) × (said.1 ≡ 3)

-- what is said of these variants of a script: their table; or a smaller script that has the outcome that is wanted
abbrev pub IsSaidOfWanted : Option (List ℕ) → Bool → Variants → ℕ → Script → Said → Type 0
IsSaidOfWanted None least variants late script said = IsSweep variants late script said.0 × (said.1 ≡ 0)
IsSaidOfWanted (Some line) least variants late script said = IsShrinking least variants late script line said

abbrev pub IsSaidOfVariants : Variants → Task → Script → Said → Type 0
IsSaidOfVariants variants task script said = IsSaidOfWanted task.wanted task.least variants task.late script said

-- what is said of the crashes of a member of the script, if it is one, at all points at which it may
abbrev pub IsSaidOfCrashes : ℕ → Task → Script → Said → Type 0
IsSaidOfCrashes member task script said =
    MatchBool (nat_lt member script.members)
    (MatchBool (nat_lt (length script.faults) 256)
    ((faults : List Fault) × AreCrashes script task.late member faults × IsSaidOfVariants (Crashes faults) task script said)
    (SaysFull said)) (SaysUsage said)

-- what is said of the runs that are asked for
abbrev pub IsSaidOfRuns : Runs → Task → Script → Said → Type 0
IsSaidOfRuns (BySeeds seeds) task script said = IsSaidOfVariants (Seeded seeds) task script said
IsSaidOfRuns (ByCrashes member) task script said = IsSaidOfCrashes member task script said

-- the same, unless an outcome is wanted that is none of the script
abbrev pub IsSaidOfOutcome : Option (List ℕ) → Task → Script → Said → Type 0
IsSaidOfOutcome None task script said = IsSaidOfRuns task.runs task script said
IsSaidOfOutcome (Some line) task script said =
    MatchBool (is_outcome script.members script.ages line) (IsSaidOfRuns task.runs task script said)
    (SaysOutcomes said)

-- what is said of a script, and the status: where all members are late nothing is run
abbrev pub IsDone : Task → Script → Said → Type 0
IsDone task script said =
    (AreAllLate script (all_with task.late) × SaysUsage said) ⊎ IsSaidOfOutcome task.wanted task script said

-- what is said of what was read, and the status
abbrev pub IsSaidFor : Task → Reading → Said → Type 0
IsSaidFor task = SaysOf (IsDone task)

-- what a call has to say, and the status that is due, by its words and by what its source had left and then
-- has
abbrev pub IsSweepAnswer : List (String Global) → Option (List ℕ) → Option (List ℕ) → ℕ → ℕ → Said → Type 0
IsSweepAnswer words =
    IsCallAnswer sweep_usage (λ task bytes said. IsSaidFor task (reading_of bytes) said)
    (task_in (map string_bytes words))

-- memory was wanting and nothing was written, or an answer was
abbrev pub SweepTold : List (String Global) → Option (List ℕ) → Option (List ℕ) → ℕ → ℕ → Option (List ℕ)
    → Option (List ℕ) → ℕ → ℕ → ℕ → Type 0
SweepTold words old new failed fails = ToldBy (IsSweepAnswer words old new failed fails)
