-- Runs of the executable world.
use Rattle.std.proofs.Common.{◌≡◌, subst, List}
use Rattle.dr_script.specs.declared.script.Script.{Script}
use Rattle.dr_machine.specs.{Run.Run, World.opening_world, declared.event.Event.Event}
use Rattle.dr_restart.specs.{Groups.group_of, declared.start.Start.Start}
use Rattle.dr_world.specs.Held.{Held, its_group, its_world}

-- a run from a world that has opened is one of its group from the opening
pub from_opening : (script : Script) (start : Start) (h k : Held) (events : List Event) → h.script
    ≡ script → h.start ≡ start → its_world h ≡ opening_world (group_of script start)
    → Run (its_group h) (its_world h) events (its_world k)
    → Run (group_of script start) (opening_world (group_of script start)) events (its_world k)
from_opening script start h k events same likewise opening run =
    subst (λ w. Run (group_of script start) w events (its_world k)) opening
    (subst (λ g. Run g (its_world h) events (its_world k)) (λ z. group_of (same z) (likewise z)) run)
