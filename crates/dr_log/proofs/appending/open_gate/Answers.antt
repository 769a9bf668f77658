use Rattle.std.proofs.Common.{◌≡◌, arith, rules}
use Rattle.dr_disk.{specs.{Calls.Sync, Disk.added}, proofs.Moments.reaches_synced}
use Rattle.dr_log.proofs.appending.open_gate.Goals as goal

pub write_at-requires-clause-inside : goal.write_at-requires-clause-inside
write_at-requires-clause-inside g c =
    let told = g.D.Disk.told in
    let is : told c.sync.new.self ≡ added Sync (told c.args.disk.now) = search rules in
    reaches_synced (told c.args.disk.now) (told c.sync.new.self) c.args.gate c.args.gate is (omega arith)
    c.requires.inside
