use Rattle.std.proofs.Common.{◌≡◌, map, slice_index}
use Rattle.dr_history.specs.Members.{members_below}
use Rattle.dr_trim.proofs.rest.trims_by_rank.Given as goal

abbrev pub invariant-loop-member : goal.invariant-loop-member
invariant-loop-member l = l.trims.items ≡ map (slice_index l.trim) (members_below l.members l.member)
