use Rattle.std.proofs.Common.{◌+◌, ◌-◌, arith}
use Rattle.dr_disk.proofs.DiskCalls.{reaches_less}
use Rattle.dr_log.proofs.appending.put_group.Goals as goal

pub open_gate-requires-clause-inside : goal.open_gate-requires-clause-inside
open_gate-requires-clause-inside g c κs within =
    reaches_less (g.D.Disk.told c.put_entry-2.new.disk) (c.loop-i.end + c.in_ok-put_entry.field-0) (c.args.at - 1)
    (omega (arith, c.loop-i.invariant.begins)) c.in_ok-put_entry.ensures.reaches
