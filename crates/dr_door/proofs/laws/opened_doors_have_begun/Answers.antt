use Rattle.dr_door.proofs.Opened.{doors_opened}
use Rattle.dr_door.proofs.laws.opened_doors_have_begun.Goals as goal

pub returns : goal.returns
returns c = doors_opened
