-- What is said of a text, and what a call comes to.
use Rattle.std.specs.{Fmt.decimal, List.concat, Option.option_map_or}
use Rattle.std.specs.{Prelude.{◌≡◌, ⊤, ℕ, List, [], ◌∷◌, ◌++◌, codes, Option, String}, declared.alloc.Global.Global}
use Rattle.dr_complete.specs.Enough.{most_messages, turns_enough}
use Rattle.dr_intake.specs.{Answer.{IsCallAnswer, Said, ToldBy, wordless}, Reading.refusal_in, Status.status_of}
use Rattle.dr_script.specs.{Reading.{Reading, Reads, reading_of}, declared.script.Script.Script}
use Rattle.dr_text.specs.Report.{last_text}
use Rattle.dr_tools.specs.Turns.{TakesTurns, calm_group}

-- a text begins with this front
abbrev pub BeginsWith : List ℕ → List ℕ → Type 0
BeginsWith front text = (more : List ℕ) × (text ≡ front ++ more)

-- the first line of what is said of a script
abbrev pub turns_line : Script → List ℕ
turns_line s = concat
    (decimal (turns_enough s) ∷ codes " turns are enough in lockstep without faults; the script has "
    ∷ decimal s.turns ∷ codes "\n" ∷ [])

-- the second line, by the messages of whoever has most, and by the turns that the group takes
abbrev pub taken_line : ℕ → ℕ → List ℕ
taken_line most taken = concat
    (codes "that is 4 * " ∷ decimal most ∷ codes " + 8, as the member with the most messages has " ∷ decimal most
    ∷ codes "; run so, the group takes " ∷ decimal taken ∷ codes "\n" ∷ [])

-- the text begins with how many turns are enough for a script, and how many its group takes
pub record TellsTurns (s : Script) (text : List ℕ) : Type 0 where
  pub taken : ℕ
  pub is : TakesTurns (calm_group s) taken
  pub begins : BeginsWith (turns_line s ++ taken_line (most_messages s) taken) text

-- the first line of what is said of a text: the last line by which it is refused, or that of a script
abbrev pub first_line : Reading → List ℕ
first_line (Reads script) = turns_line script
first_line refused = option_map_or last_text (refusal_in refused) []

-- the status: that of the last line by which the text is refused, or 0
abbrev pub status_in : Reading → ℕ
status_in reading = option_map_or status_of (refusal_in reading) 0

-- of a script its group's turns are told
abbrev pub TellsTurnsOf : Reading → List ℕ → Type 0
TellsTurnsOf (Reads script) text = TellsTurns script text
TellsTurnsOf refused text = ⊤

-- the text begins with the first line of what is said of this reading, and the status is its own
pub record IsAnswerFor (reading : Reading) (text : List ℕ) (status : ℕ) : Type 0 where
  pub begins : BeginsWith (first_line reading) text
  pub turns : TellsTurnsOf reading text
  pub due : status ≡ status_in reading

-- how it is called
abbrev pub explain_usage : List ℕ
explain_usage = codes "usage: derecho_tools explain < SCRIPT\n"

-- what a call has to say, and the status that is due, by its words and by what its source had left and then
-- has
abbrev pub IsExplainAnswer : List (String Global) → Option (List ℕ) → Option (List ℕ) → ℕ → ℕ → Said → Type 0
IsExplainAnswer words =
    IsCallAnswer explain_usage (λ command bytes said. IsAnswerFor (reading_of bytes) said.0 said.1) (wordless words)

-- memory was wanting and nothing was written, or an answer was
abbrev pub ExplainTold : List (String Global) → Option (List ℕ) → Option (List ℕ) → ℕ → ℕ → Option (List ℕ)
    → Option (List ℕ) → ℕ → ℕ → ℕ → Type 0
ExplainTold words old new failed fails = ToldBy (IsExplainAnswer words old new failed fails)
