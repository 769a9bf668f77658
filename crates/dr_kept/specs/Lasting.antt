-- What an age leaves on the logs of all members, by what was on them as it opened.
use Rattle.std.specs.Prelude.{◌≡◌, ℕ, ◌≤◌, List, length, Option, None, slice_get}
use Rattle.dr_log_bytes.specs.Content.{OnLog}
use Rattle.dr_program.specs.Program.{Program}
use Rattle.dr_restart.specs.declared.{lists.LogLists.LogLists, start.Start.Start}
use Rattle.dr_script.specs.{Ranges.HasGroupRanges, declared.script.Script.Script}
use Rattle.dr_opening.specs.Tries.{AreAmong, content_at}
use Rattle.dr_kept.specs.Leaving.{AreLeftFrom, IsAgeOfChoice}

-- An age of a script began with what was chosen of the logs that were there, of those of all members, and on each of
-- these is now what its member may leave. The others are as before.
pub record HasLeftLogs (script : Script) (start : Start) (nth : ℕ) (p : Program) (before logs : List LogLists)
    : Type 0 where
  pub ranges : HasGroupRanges script
  pub turns : 1 ≤ script.turns
  pub found : List (Option OnLog)
  pub among : AreAmong found before
  pub is : IsAgeOfChoice script start nth found p
  pub after : List (Option OnLog)
  pub left : AreLeftFrom start found p after
  pub long : length logs ≡ script.members
  pub behind : AreAmong after logs
  pub others : (m : ℕ) → content_at found m ≡ None → slice_get logs m ≡ slice_get before m
