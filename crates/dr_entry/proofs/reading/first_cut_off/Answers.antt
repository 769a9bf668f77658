use Rattle.std.proofs.Common.{◌/◌, ◌-◌, length, arith}
use Rattle.dr_entry.proofs.reading.first_cut_off.Goals as goal

pub returns : goal.returns
returns c = ((length c.args.from.now - 8) / 4, omega arith, omega arith, omega arith)
