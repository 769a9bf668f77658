use Rattle.std.proofs.Common.{◌≡◌, take}
use Rattle.dr_commands.proofs.live.running.apps_of.Given as goal

abbrev pub invariant-loop-list : goal.invariant-loop-list
invariant-loop-list l = l.apps.items ≡ take l.list-index l.lists
