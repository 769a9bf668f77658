-- Which lists of entries logs may have together.
use Rattle.std.specs.Prelude.{List}
use Rattle.dr_entry.specs.declared.entry.Entry.{Entry}
use Rattle.dr_history.specs.{Restarting.{AreAllAlong, AreSound}, declared.opening.Opening.Opening}
use Rattle.dr_restart.specs.Groups.{first_group_of}
use Rattle.dr_script.specs.declared.script.Script.{Script}

-- by what the entries of logs are judged: the roster and the messages of the script
abbrev pub judged_by : Script → Opening
judged_by script = (first_group_of script).opening

-- The logs of a group are accepted: each entry may stand where it stands, and of any two logs one is a prefix
-- of the other.
pub record AreAccepted (script : Script) (lists : List (List Entry)) : Type 0 where
  pub sound : AreSound (judged_by script) lists
  pub along : AreAllAlong lists
