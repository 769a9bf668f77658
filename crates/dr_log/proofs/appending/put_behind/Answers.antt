use Rattle.std.proofs.Common.{◌≡◌, rules}
use Rattle.dr_disk.{specs.{Calls.Write, Disk.added}, proofs.Images.reaches_before}
use Rattle.dr_log.proofs.appending.put_behind.Goals as goal

pub open_gate-requires-clause-inside : goal.open_gate-requires-clause-inside
open_gate-requires-clause-inside g c κs within =
    let told = g.D.Disk.told in
    let is : told c.write_at.new.self ≡ added (Write c.args.at c.args.bytes.now) (told c.args.disk.now) =
    search rules in
    reaches_before (told c.args.disk.now) (told c.write_at.new.self) c.args.at c.args.bytes.now is c.requires.inside
