use Rattle.std.proofs.Common.{◌≡◌, take}
use Rattle.dr_opening.specs.Lists.{all_as_lists, contents_of}
use Rattle.dr_opening.proofs.listing.lists_of.Given as goal

abbrev pub invariant-loop-place : goal.invariant-loop-place
invariant-loop-place g l = l.lists.items ≡ take l.place-index (all_as_lists (contents_of l.logs))
