use Rattle.dr_disk.proofs.Images.{reads_image}
use Rattle.dr_disk.proofs.laws.content_is_an_image.Goals as goal

pub returns : goal.returns
returns c = reads_image
