use Rattle.std.proofs.Common.{◌≡◌, take}
use Rattle.dr_world.proofs.opening.copy_script.Given as goal

abbrev pub invariant-loop-list : goal.invariant-loop-list
invariant-loop-list l = l.messages.items ≡ take l.list-index l.lists
