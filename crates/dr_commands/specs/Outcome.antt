-- What comes of a call: what each command does, the last line, and the status.
use Rattle.std.specs.Prelude.{◌≡◌, ◌⊎◌, ℕ, List, [], Option, Some, Contains, MatchOption, String}
use Rattle.std.specs.declared.alloc.Global.{Global}
use Rattle.dr_intake.specs.{Answer.IsAnswer, Reading.{IsScript, WasRead}, Status.{WroteText, status_of}}
use Rattle.dr_io.specs.Sink.{Gains}
use Rattle.dr_outcome.specs.Outcome.{AreAllLate, HasDone, Plays, SaysOnly, outcome_text}
use Rattle.dr_outcome.specs.{Playing.{InFolder, Playing, part_in}, declared.outcome.Outcome.Outcome}
use Rattle.dr_script.specs.{Reading.{Reads, reading_of}, declared.script.Script.Script}
use Rattle.dr_yard.specs.Yards.{YardState}
use Rattle.dr_commands.specs.{Check.{Checks, DisksTell, IsJudgedRight}, Drill.Drills, Live.RunsLive}
use Rattle.dr_commands.specs.{Shards.RunsShards, Store.Stores, Words.{asked_by, ends_of, reads}}
use Rattle.dr_commands.specs.declared.words.Command.{Command, TheVariants.{Check, Drill, Live, Play, Shards, Store}}

-- what each command makes of what was read for it, by how the yard was and then is
abbrev pub Does : Command → List ℕ → YardState → YardState → Outcome → Type 0
Does (Play play) = Plays play
Does (Store key version) = Stores key version
Does (Drill number) = Drills number
Does (Shards sharding) = RunsShards sharding
Does (Live rounds) = RunsLive rounds
Does Check = Checks

-- What a call with these words comes to before it is written, by what its source had left and then has, how
-- many of its calls had failed and then have, and how the yard was and then is.
abbrev pub Course : List (String Global) → Option (List ℕ) → Option (List ℕ) → ℕ → ℕ → YardState → YardState
    → Outcome → Type 0
Course words old new failed fails before after =
    IsAnswer reads (λ line. SaysOnly line before after)
    (λ command bytes. HasDone (Does command bytes) (ends_of command) before after) (asked_by words) old new
    failed fails

-- nothing was written, as memory was wanting, or the whole text was, with the status that is due, or a front
-- part of it, where the sink failed
abbrev pub IsWritten : Option (List ℕ) → Option (List ℕ) → ℕ → ℕ → ℕ → ℕ → List ℕ → Type 0
IsWritten old new failed fails status due text =
    ((status ≡ 10) × Gains old new []) ⊎ WroteText old new failed fails status due text

-- the text of an outcome was written, with its last line and the status of that; where there is none nothing
-- was
abbrev pub WroteOrNot : Option (List ℕ) → Option (List ℕ) → ℕ → ℕ → ℕ → Outcome → Type 0
WroteOrNot old new failed fails status o =
    MatchOption o.last ((status ≡ 10) × Gains old new [])
    (λ line. IsWritten old new failed fails status (status_of line) (outcome_text o line))

-- the status comes exactly where the fact holds, but that each of the earlier ones comes before it
pub record Exactly (status due : ℕ) (earlier : List ℕ) (P : Type 0) : Type 0 where
  pub only : status ≡ due → P
  pub unless : P → (status ≡ due) ⊎ Contains earlier status

-- the words ask for a script to be played that was read, and all who take part in it are late
pub record AsksLate (words : List (String Global)) (old new : Option (List ℕ)) : Type 0 where
  pub play : Playing
  pub asked : asked_by words ≡ Some (Play play)
  pub script : Script
  pub read : IsScript old new script
  pub late : AreAllLate script (part_in play)

-- What was written for a script that was read is judged right as a report of that script, where the disks of
-- its members tell.
pub record WasJudgedRight (folder : Option InFolder) (old new held holds : Option (List ℕ)) (before : YardState)
    : Type 0 where
  pub bytes : List ℕ
  pub read : WasRead old new bytes
  pub text : List ℕ
  pub written : Gains held holds text
  pub right : ((script : Script) → reading_of bytes ≡ Reads script → DisksTell folder script.members before)
      → IsJudgedRight bytes text
