-- What was run, and what is said of it.
use Rattle.std.specs.List.{flat_map}
use Rattle.std.specs.Prelude.{◌≡◌, ◌≢◌, ◌⊎◌, ⊤, ℕ, ◌<◌, true, false, List, [], ◌∷◌, ◌++◌, length, Option, Some, None, Contains, IfSome}
use Rattle.dr_ages.specs.{Ages.{HaveSomebodyPrompt, NamesNobody}, Fit.{AreFit, AreInStep}, Found.AreRoomy}
use Rattle.dr_ages.specs.{Runs.IsRunOf, declared.{mode.Mode.{Mode, TheVariants.Sim}, part.Part.Part, stop.Stop.Stop}}
use Rattle.dr_complete.specs.Time.{HasTime}
use Rattle.dr_entry.specs.declared.end.AgeEnd.{AgeEnd}
use Rattle.dr_history.specs.Members.{has}
use Rattle.dr_intake.specs.{Reading.refusal_in, Status.status_of}
use Rattle.dr_io.specs.Faults.{Rose}
use Rattle.dr_program_laws.specs.Trusting.{SuspectsNobody}
use Rattle.dr_script.specs.{Ranges.HasRanges, Reading.{Reading, Reads, reading_of}, declared.script.Script.Script}
use Rattle.dr_text.specs.{Report.{age_text, last_text}, declared.last.Last.Last}
use Rattle.dr_text.specs.declared.last.Last.TheVariants as lasts
use Rattle.dr_yard.specs.Yards.{YardState, empty_yard}
use Rattle.dr_outcome.specs.{Last.last_of, Playing.{InFolder, Playing, part_in}, declared.outcome.Body.Body}
use Rattle.dr_outcome.specs.declared.outcome.Outcome.{Outcome}
use Rattle.dr_outcome.specs.declared.outcome.Body.TheVariants as bodies

-- ---- the text of an outcome

-- what is said of the ages that ran: their report, or a text of its own
abbrev pub body_text : Body → List AgeEnd → List ℕ
body_text bodies.Report ages = flat_map age_text ages
body_text (bodies.Text text) ages = text

-- the whole text, with this last line
abbrev pub outcome_text : Outcome → Last → List ℕ
outcome_text o last = body_text o.body o.ages ++ last_text last

-- ---- what was run

-- no age was run, the yard is as it was, and nothing is said but this last line, if there is one
pub record SaysOnly (last : Option Last) (before after : YardState) (o : Outcome) : Type 0 where
  pub none : o.ages ≡ []
  pub unstopped : o.stop ≡ None
  pub untouched : after ≡ before
  pub bare : IfSome last (λ line. body_text o.body o.ages ≡ [])
  pub line : o.last ≡ last

-- the ages of a run over empty disks, none of which counts a fault
pub record IsMemoryRun (script : Script) (part : Part) (mode : Mode) (ages : List AgeEnd) (stop : Option Stop) :
    Type 0 where
  pub after : YardState
  pub calm : (m : ℕ) → after.faults m ≡ 0
  pub run : IsRunOf script part mode empty_yard after ages stop

-- the ages of a run over the disks of the yard that are not missing, where a folder is named, and else over
-- disks in memory, and then the yard is as it was
abbrev pub HasRun : Mode → Option InFolder → Part → Script → YardState → YardState → List AgeEnd → Option Stop
    → Type 0
HasRun mode (Some folder) part script before after ages stop = IsRunOf script part mode before after ages stop
HasRun mode None part script before after ages stop =
    (after ≡ before) × IsMemoryRun script part mode ages stop

-- no log of a member of the script is missing: in memory none is
abbrev pub HasAllLogs : Option InFolder → Script → Type 0
HasAllLogs (Some folder) script = NamesNobody script.members folder.missing
HasAllLogs None script = ⊤

-- a run of the script has room for all its ages: over disks in memory, or over disks of the yard of which none
-- is missing, which are in step and leave room, and of which no call failed
abbrev pub LeavesRoom : Option InFolder → Script → YardState → YardState → Type 0
LeavesRoom (Some folder) script before after = NamesNobody script.members folder.missing
    × AreInStep script before × AreRoomy script before
    × ((m : ℕ) → m < script.members → Rose (before.faults m) (after.faults m) → ⊥)
LeavesRoom None script before after = ⊤

-- no call of a disk of the yard has failed
abbrev pub NoneFailed : YardState → YardState → Type 0
NoneFailed before after = (m : ℕ) → after.faults m ≡ before.faults m

-- a disk of which a call failed is told by the last line, if there is one
abbrev pub TellsDisks : YardState → YardState → Option Last → Type 0
TellsDisks before after last = IfSome last (λ line. NoneFailed before after ⊎ (status_of line ≡ 6))

-- a script was played, one with the ranges of a script that was read, and the last line tells how its run ended
pub record HasPlayed (play : Playing) (script : Script) (before after : YardState) (o : Outcome) : Type 0 where
  pub ranges : HasRanges script
  -- somebody who takes part isn't late, where anybody does
  pub prompt : HaveSomebodyPrompt script (part_in play)
  pub run : HasRun play.mode play.folder (part_in play) script before after o.ages o.stop
  pub line : o.last ≡ last_of o.ages o.stop
  -- no script is refused
  pub accepted : IfSome o.last (λ line. status_of line ≢ 3)
  -- a simulation that spends the turns of a member had too few of them, or a log was missing, or somebody late; of
  -- threads nothing is said
  pub untimely : play.mode ≡ Sim → HasAllLogs play.folder script → NamesNobody script.members play.late
      → o.last ≡ Some lasts.Unfinished → HasTime script → ⊥
  -- a member without a majority had a reason to suspect others
  pub untrusting : o.last ≡ Some lasts.NoMajority → SuspectsNobody script → ⊥
  -- a disk that failed is told
  pub told : TellsDisks before after o.last
  -- unless memory was wanting fit disks stay fit, those in step of which none is missing stay so, and a run that has
  -- room for all its ages has them
  pub fit : AreFit script before → IfSome o.last (λ line. AreFit script after)
  pub in_step : HasAllLogs play.folder script → AreInStep script before
      → IfSome o.last (λ line. AreInStep script after)
  pub complete : LeavesRoom play.folder script before after
      → IfSome o.last (λ line. (length o.ages ≡ script.ages) × Contains (0 ∷ 8 ∷ 9 ∷ []) (status_of line))

-- ---- what comes of a command

-- what comes of a text, by what is read of it: of one that is no script the line by which it is refused
abbrev pub OfScript : (Script → Outcome → Type 0) → Reading → YardState → YardState → Outcome → Type 0
OfScript Of (Reads script) before after o = Of script o
OfScript Of refused before after o = SaysOnly (refusal_in refused) before after o

-- somebody takes part, and all who do are late
pub record AreAllLate (script : Script) (part : Part) : Type 0 where
  pub some : (m : ℕ) × (m < script.members) × (has part.missing m ≡ false)
  pub all : (m : ℕ) → m < script.members → has part.missing m ≡ false → has part.late m ≡ true

-- a script was played, and the report of its ages is said, or all who take part in it are late: then nothing was
-- run, and how the program is called is said
abbrev pub WasPlayedOrNot : Playing → Script → YardState → YardState → Outcome → Type 0
WasPlayedOrNot play script before after o =
    (HasPlayed play script before after o × (o.body ≡ bodies.Report))
    ⊎ (AreAllLate script (part_in play) × SaysOnly (Some lasts.Usage) before after o)

-- the text is a script, which was played or not, or it is refused
abbrev pub Plays : Playing → List ℕ → YardState → YardState → Outcome → Type 0
Plays play bytes before after o =
    OfScript (λ script result. WasPlayedOrNot play script before after result) (reading_of bytes) before after o

-- the statuses of last lines that tell of no run
abbrev pub unrun_ends : List ℕ
unrun_ends = 0 ∷ 2 ∷ 3 ∷ 12 ∷ 13 ∷ []

-- the last line is that of the ages that ran, and of what ended the run; or nothing was run, and it tells of
-- no run
pub data IsDue (o : Outcome) : Type 0 where
  by_run : o.last ≡ last_of o.ages o.stop → IsDue o
  unrun : o.ages ≡ [] → o.stop ≡ None → IfSome o.last (λ line. Contains unrun_ends (status_of line)) → IsDue o

-- a command came to this: it did what it does, and the last line, if there is one, is due, with one of these
-- statuses, and tells of a disk that failed
pub record HasDone (Is : YardState → YardState → Outcome → Type 0) (ends : List ℕ) (before after : YardState)
    (o : Outcome) : Type 0 where
  pub does : Is before after o
  pub due : IsDue o
  pub known : IfSome o.last (λ line. Contains ends (status_of line))
  pub told : TellsDisks before after o.last
