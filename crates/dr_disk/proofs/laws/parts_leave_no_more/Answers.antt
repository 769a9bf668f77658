use Rattle.dr_disk.proofs.Images.{part_of_write, part_of_failed_write, part_of_cut, part_of_failed_cut}
use Rattle.dr_disk.proofs.laws.parts_leave_no_more.Goals as goal

pub returns-clause-write : goal.returns-clause-write
returns-clause-write c = part_of_write

pub returns-clause-failed_write : goal.returns-clause-failed_write
returns-clause-failed_write c = part_of_failed_write

pub returns-clause-cut : goal.returns-clause-cut
returns-clause-cut c = part_of_cut

pub returns-clause-failed_cut : goal.returns-clause-failed_cut
returns-clause-failed_cut c = part_of_failed_cut
