-- Where a member has ended as done, all members of its view show done.
use Rattle.std.proofs.Common.{Some, ℕ, ◌≡◌}
use Rattle.dr_entry.specs.declared.end.End.TheVariants as ends
use Rattle.dr_machine.specs.{Group.{Group, IsGroup}, Run.IsReached, World.World}
use Rattle.dr_world_laws.proofs.Worlds.{known}
use Rattle.dr_complete.specs.Reached.{AllShowDone}

pub done_shows_all : (g : Group) (w : World) (m : ℕ) → IsGroup g → IsReached g w
    → w.end m ≡ Some ends.Done → AllShowDone w (w.past.view m) (w.members m)
done_shows_all g w m is r = (known g w is r).chosen.complete.shown m
