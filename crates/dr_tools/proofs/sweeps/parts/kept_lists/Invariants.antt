use Rattle.std.proofs.Common.{◌≡◌, ◌++◌, drop}
use Rattle.dr_tools.specs.Parts.{kept_lists}
use Rattle.dr_tools.proofs.sweeps.parts.kept_lists.Given as goal

abbrev pub invariant-loop-list : goal.invariant-loop-list
invariant-loop-list l = kept_lists l.keeps l.lists ≡ l.out.items ++ kept_lists l.left (drop l.list-index l.lists)
