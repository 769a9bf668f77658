-- What a call comes to.
use Rattle.std.specs.Prelude.{◌≡◌, ◌⊎◌, ℕ, List, Option, Some, String, codes, map, string_bytes}
use Rattle.std.specs.declared.alloc.Global.{Global}
use Rattle.dr_ages.specs.{Ages.all_with, declared.{mode.Mode.TheVariants.Sim, stop.Stop.Stop}}
use Rattle.dr_entry.specs.declared.end.AgeEnd.{AgeEnd}
use Rattle.dr_intake.specs.{Answer.{IsCallAnswer, Said, SaysOf, ToldBy}, Status.status_of}
use Rattle.dr_outcome.specs.{Last.last_of, Outcome.{AreAllLate, IsMemoryRun}}
use Rattle.dr_script.specs.{Reading.{Reading, reading_of}, declared.script.Script.Script}
use Rattle.dr_text.specs.declared.last.Last.{Last}
use Rattle.dr_tools.specs.{Object.summary_by, SummaryWords.asked_of, declared.summary.words.Asked.Asked}

-- how it is called
abbrev pub summary_usage : List ℕ
summary_usage = codes "usage: derecho_tools summary [json] [--late L] < SCRIPT\n"

-- the text is the summary of a simulated run of the script over empty disks, as it is asked for, and the status
-- is that of its last line
pub record IsRunAnswer (asked : Asked) (script : Script) (said : Said) : Type 0 where
  pub ages : List AgeEnd
  pub stop : Option Stop
  pub run : IsMemoryRun script (all_with asked.late) Sim ages stop
  pub last : Last
  pub line : last_of ages stop ≡ Some last
  pub summary : said.0 ≡ summary_by asked.wording script asked.late ages last
  pub due : said.1 ≡ status_of last

-- nothing was run, as all members are late, and the text says how it is called
pub record IsUnrun (late : ℕ) (script : Script) (said : Said) : Type 0 where
  pub all : AreAllLate script (all_with late)
  pub usage : said.0 ≡ summary_usage
  pub due : said.1 ≡ 2

-- what is said of a script
abbrev pub IsScriptAnswer : Asked → Script → Said → Type 0
IsScriptAnswer asked script said = IsRunAnswer asked script said ⊎ IsUnrun asked.late script said

-- what is said of what was read, and the status
abbrev pub IsAnswerFor : Asked → Reading → Said → Type 0
IsAnswerFor asked = SaysOf (IsScriptAnswer asked)

-- what a call has to say, and the status that is due, by its words and by what its source had left and then
-- has
abbrev pub IsSummaryAnswer : List (String Global) → Option (List ℕ) → Option (List ℕ) → ℕ → ℕ → Said → Type 0
IsSummaryAnswer words =
    IsCallAnswer summary_usage (λ asked bytes said. IsAnswerFor asked (reading_of bytes) said)
    (asked_of (map string_bytes words))

-- memory was wanting and nothing was written, or an answer was
abbrev pub SummaryTold : List (String Global) → Option (List ℕ) → Option (List ℕ) → ℕ → ℕ → Option (List ℕ)
    → Option (List ℕ) → ℕ → ℕ → ℕ → Type 0
SummaryTold words old new failed fails = ToldBy (IsSummaryAnswer words old new failed fails)
