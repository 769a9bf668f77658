use Rattle.dr_disk.proofs.Filling.{filled_image}
use Rattle.dr_disk.proofs.laws.filled_is_an_image.Goals as goal

pub returns : goal.returns
returns c = filled_image
