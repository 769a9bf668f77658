-- The replicas of a group as its age opens.
use Rattle.std.specs.Prelude.{◌≡◌, ℕ, List, map, None, Option, Some, option_map}
use Rattle.dr_script.specs.declared.script.Script.{Script}
use Rattle.dr_program.specs.{Replica.{Replica, begun_replica}, declared.setup.Setup.Setup}
use Rattle.dr_machine.specs.Group.{IsPresent}
use Rattle.dr_restart.specs.{Groups.group_of, Setups.{AreFirstSetupsOf, IsSetupOf}, declared.start.Start.Start}

-- what stands at the place of member m as the age opens: its replica, by its setup, or nothing where it is absent.
-- Turns and crashes are nothing to a replica, so the setup of the first age will do
abbrev pub HasReplica : Script → Start → ℕ → Option Replica → Type 0
HasReplica script start m None = ¬ IsPresent (group_of script start) m
HasReplica script start m (Some r) = (s : Setup) × IsSetupOf script start 0 m s × (r ≡ begun_replica s)

-- those of the first n members that are there have begun with their setups
abbrev pub HaveBegun : Script → Start → ℕ → List (Option Replica) → Type 0
HaveBegun script start n rs =
    (setups : List (Option Setup)) × AreFirstSetupsOf script start 0 n setups
    × (rs ≡ map (option_map begun_replica) setups)
