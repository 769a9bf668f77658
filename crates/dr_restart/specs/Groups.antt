-- The group that a script and a start make.
use Rattle.std.specs.Prelude.{◌-◌, ◌^◌, []}
use Rattle.dr_script.specs.declared.script.Script.{Script}
use Rattle.dr_machine.specs.Group.{Group}
use Rattle.dr_restart.specs.declared.start.Start.{Start}

-- the group of a script in the age of a start
abbrev pub group_of : Script → Start → Group
group_of script start = record {
  opening = record {
    age = start.age;
    members = start.members;
    present = start.present;
    start = start.entries;
    messages = script.messages;
  };
  window = script.window;
}

-- the start of a new group: age 0, the whole roster, and no entries
abbrev pub first_start_of : Script → Start
first_start_of script = record
    { age = 0; members = 2 ^ script.members - 1; present = 2 ^ script.members - 1; entries = [] }

-- the group of a script in its first age
abbrev pub first_group_of : Script → Group
first_group_of script = group_of script (first_start_of script)
