use Rattle.std.proofs.Common.{◌≡◌}
use Rattle.dr_check.specs.Fields.{field}
use Rattle.dr_check.proofs.fields.field.Given as goal

abbrev pub invariant-loop-left : goal.invariant-loop-left
invariant-loop-left l = field l.bytes l.k ≡ field l.rest l.left

abbrev pub decreases-loop-left : goal.decreases-loop-left
decreases-loop-left l = l.left
