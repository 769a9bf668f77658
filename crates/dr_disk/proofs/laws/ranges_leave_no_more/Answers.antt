use Rattle.dr_disk.proofs.Ranges.{image_by_ranges}
use Rattle.dr_disk.proofs.laws.ranges_leave_no_more.Goals as goal

pub returns : goal.returns
returns c = image_by_ranges
