-- Starts with which ages open.
use Rattle.std.specs.{List.All, Prelude.{ℕ, ◌<◌, ◌^◌, length}}
use Rattle.dr_entry.specs.Spelling.{IsValidEntry}
use Rattle.dr_machine.specs.Group.{IsGroup, IsPresent}
use Rattle.dr_restart.specs.{Groups.group_of, declared.start.Start.Start}
use Rattle.dr_script.specs.declared.script.Script.{Script}

-- the start makes a group with the script, and logs take its entries
pub record IsOpenable (script : Script) (start : Start) : Type 0 where
  pub group : IsGroup (group_of script start)
  pub valid : All IsValidEntry start.entries
  pub few : length start.entries < 2 ^ 32

-- and this member is there
pub record IsFitStart (script : Script) (me : ℕ) (start : Start) : Type 0 where
  pub opens : IsOpenable script start
  pub present : IsPresent (group_of script start) me
