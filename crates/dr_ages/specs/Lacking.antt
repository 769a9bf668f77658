-- How far an opening had come when memory was wanting.
use Rattle.std.specs.Prelude.{◌≡◌, ℕ, ◌<◌, ◌≤◌, List, [], ◌∷◌, Option, Some}
use Rattle.dr_disk.specs.Images.{IsLeft}
use Rattle.dr_log.specs.Standing.{LosesNone}
use Rattle.dr_log_bytes.specs.{Content.OnLog, Grammar.StandFor}
use Rattle.dr_opening.specs.{Contents.{IsOpenFor, voted_for}, Tries.{IsChosenOf, content_at}}
use Rattle.dr_restart.specs.{Groups.first_group_of, declared.start.Start.Start}
use Rattle.dr_script.specs.declared.script.Script.{Script}
use Rattle.dr_words.specs.Masks.{without}
use Rattle.dr_yard.specs.Yards.{YardState}
use Rattle.dr_ages.specs.{Found.AreFound, Passing.AreKeptSince, Stops.{AreMountedBelow, HaveNotFailed, IsStuckIn}}
use Rattle.dr_ages.specs.declared.{mode.Mode.{Mode, TheVariants.{Sim, Run}}, part.Part.Part}

-- An age was opened on a log, and no end of it is told. A simulated one hasn't begun: what a crash leaves stands
-- for what the log was opened with. In threads some members may have begun: it has all of that, and maybe more.
abbrev pub IsOpenStill : Mode → OnLog → List ℕ → Type 0
IsOpenStill Sim opened image = StandFor image opened
IsOpenStill Run opened image = LosesNone opened image

-- an age was opened on all logs, and no end of it is told
pub record HasOnlyOpened (script : Script) (part : Part) (mode : Mode) (before after : YardState) : Type 0 where
  pub contents : List (Option OnLog)
  pub found : AreFound script.members part.missing before contents
  pub start : Start
  pub chosen : IsChosenOf (first_group_of script).opening contents start
  pub members : start.members ≡ without start.present part.late
  pub opened : (m : ℕ) (c : OnLog) → content_at contents m ≡ Some c
      → (d : OnLog) × IsOpenFor start (voted_for start c) d × (d.length ≤ 2147483648)
      × IsLeft (after.told m) (IsOpenStill mode d)
  pub since : AreKeptSince script.members part.missing script.members (start.entries ∷ []) before after
  pub calm : mode ≡ Sim → HaveNotFailed before after

-- How far an opening had come when memory was wanting: to the mounting of a log, behind those below it; to the
-- choice of a start, with all of them; to an append, without which its log outlives a crash; or to its end. No
-- call of a disk had failed, but for those of members that had begun.
pub data LackedMemory (script : Script) (part : Part) (mode : Mode) (before after : YardState) : Type 0 where
  to_mount : (k : ℕ) → k < script.members → AreMountedBelow k part.missing before after
      → AreKeptSince script.members part.missing k [] before after → HaveNotFailed before after
      → LackedMemory script part mode before after
  to_choose : AreMountedBelow script.members part.missing before after
      → AreKeptSince script.members part.missing script.members [] before after → HaveNotFailed before after
      → LackedMemory script part mode before after
  to_append : (member : ℕ) → (stuck : IsStuckIn script part before after member (λ now next.
      IsLeft (after.told member) (λ image. StandFor image now)))
      → AreKeptSince script.members part.missing script.members (stuck.start.entries ∷ []) before after
      → HaveNotFailed before after → LackedMemory script part mode before after
  to_begin : HasOnlyOpened script part mode before after → LackedMemory script part mode before after
