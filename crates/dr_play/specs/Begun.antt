-- The members of an age as it opens.
use Rattle.std.specs.Prelude.{◌≡◌, ℕ, List, map, None, Option, Some, option_map}
use Rattle.dr_script.specs.declared.script.Script.{Script}
use Rattle.dr_program.specs.{Running.{Running, begun_running}, declared.setup.Setup.Setup}
use Rattle.dr_restart.specs.{Groups.group_of, Setups.{AreFirstSetupsOf, IsSetupOf}, declared.start.Start.Start}
use Rattle.dr_machine.specs.Group.{IsPresent}

-- whoever stands at the place of member m as the age opens: the member before its first deed, by its setup, or
-- nobody where it is absent
abbrev pub HasBegunAt : Script → Start → ℕ → ℕ → Option Running → Type 0
HasBegunAt script start nth m None = ¬ IsPresent (group_of script start) m
HasBegunAt script start nth m (Some r) = (s : Setup) × IsSetupOf script start nth m s × (r ≡ begun_running s)

-- those of the first n members that are there, before their first deeds, each by its setup
pub record HaveBegun (script : Script) (start : Start) (nth n : ℕ) (members : List (Option Running))
    : Type 0 where
  pub setups : List (Option Setup)
  pub are : AreFirstSetupsOf script start nth n setups
  pub begun : members ≡ map (option_map begun_running) setups
