use Rattle.std.proofs.Common.{subst}
use Rattle.dr_disk.{specs.{Calls.{Sync, State, content_after}, Images.IsImage}, proofs.Images.image_at_rest}
use Rattle.dr_disk.proofs.Moments.{run-added}
use Rattle.dr_disk.proofs.laws.syncs_leave_the_content.Goals as goal

pub returns : goal.returns
returns c calls image is =
    image_at_rest (content_after calls) image (subst (λ (s : State). IsImage s image) (run-added calls Sync) is)
