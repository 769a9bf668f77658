-- What is said of a script and of the report of a run of it, and what a call comes to.
use Rattle.std.specs.Prelude.{◌≡◌, ◌⊎◌, ℕ, ◌<◌, ◌≤◌, List, [], ◌++◌, length, Option}
use Rattle.dr_check.specs.{Verdicts.{IsVerdict, verdict_line}, declared.report.Report.Report}
use Rattle.dr_check.specs.declared.verdict.Verdict.{Verdict, TheVariants.Wrong}
use Rattle.dr_intake.specs.{Answer.{Said, SaysOf}, Reading.{WasRead, WasReadTo}, Status.{WroteText, status_of}}
use Rattle.dr_io.specs.{Faults.Rose, Sink.Gains}
use Rattle.dr_script.specs.{Reading.{Reading, reading_of}, declared.script.Script.Script}
use Rattle.dr_text.specs.{Report.last_text, declared.last.{Clause.{Clause, TheVariants.Prefix}, Last.Last}}
use Rattle.dr_text.specs.declared.last.Last.TheVariants as lasts
use Rattle.dr_tools.specs.Differing.{ShowsDifference}

-- a line alone is said, with its status
abbrev pub IsAlone : Last → Said → Type 0
IsAlone line said = (said.0 ≡ last_text line) × (said.1 ≡ status_of line)

-- what stands behind the line of a flaw: where that is an entry that an earlier member has otherwise, both entries
abbrev pub StandsBehind : Clause → Report → ℕ → List ℕ → Type 0
StandsBehind Prefix r line text = ShowsDifference r line text
StandsBehind clause r line text = text ≡ []

-- what stands behind the line of a verdict: what does behind that of a flaw, and else nothing
abbrev pub FollowsVerdict : Verdict → List ℕ → Type 0
FollowsVerdict (Wrong r flaw) text = StandsBehind flaw.clause r flaw.line text
FollowsVerdict verdict text = text ≡ []

-- the line of the verdict on the text of a report is said, and what stands behind it
pub record SaysOfText (script : Script) (bytes : List ℕ) (said : Said) : Type 0 where
  pub verdict : Verdict
  pub is : IsVerdict script bytes verdict
  pub more : List ℕ
  pub behind : FollowsVerdict verdict more
  pub text : said.0 ≡ last_text (verdict_line verdict) ++ more
  pub status : said.1 ≡ status_of (verdict_line verdict)

-- what is said of bytes: that they are too many for a report, or what they are
abbrev pub SaysOfBytes : List ℕ → Script → Said → Type 0
SaysOfBytes text script said =
    ((2147483648 < length text) × IsAlone lasts.TooLong said)
    ⊎ ((length text ≤ 2147483648) × SaysOfText script text said)

-- so it is by what is read of the bytes of a script: of one that is none the line by which it is refused is said
abbrev pub IsJudged : Reading → List ℕ → Said → Type 0
IsJudged reading text said = SaysOf (SaysOfBytes text) reading said

-- the bytes of a script and of a report were read, and what is said of them was written
pub record WasJudged (old new before after held holds : Option (List ℕ)) (fell falls status : ℕ) : Type 0 where
  pub script : List ℕ
  pub script_read : WasRead old new script
  pub text : List ℕ
  pub text_read : WasReadTo 2147483649 before after text
  pub said : Said
  pub is : IsJudged (reading_of script) text said
  pub wrote : WroteText held holds fell falls status said.1 said.0

-- What comes of a call, by what the sources of the script and of the report had left and then have, what the sink held
-- and then holds, and how many calls of each had failed and then have.
pub data Judged (old new before after : Option (List ℕ)) (failed fails missed misses : ℕ)
    (held holds : Option (List ℕ)) (fell falls status : ℕ) : Type 0 where
  -- memory was wanting
  no_memory : status ≡ 10 → Gains held holds []
      → Judged old new before after failed fails missed misses held holds fell falls status
  -- a source failed
  no_source : status ≡ 4 → (Rose failed fails ⊎ Rose missed misses) → Gains held holds []
      → Judged old new before after failed fails missed misses held holds fell falls status
  -- the report was judged
  judged : WasJudged old new before after held holds fell falls status
      → Judged old new before after failed fails missed misses held holds fell falls status
