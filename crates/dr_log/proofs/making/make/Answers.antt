use Rattle.std.proofs.Common.{◌≡◌, rules}
use Rattle.dr_disk.specs.{Calls.Cut, Disk.added}
use Rattle.dr_log_bytes.specs.Grammar.{newer_magic}
use Rattle.dr_log.{specs.Appending.staged, proofs.Told.reaches_magic}
use Rattle.dr_log.proofs.making.make.Goals as goal

pub write_at-requires-2-clause-inside : goal.write_at-requires-2-clause-inside
write_at-requires-2-clause-inside g c =
    let told = g.D.Disk.told in
    let is : told c.sync.new.self ≡ staged 0 newer_magic (added (Cut 0) (told c.args.disk.now)) = search rules in
    reaches_magic (told c.args.disk.now) (told c.sync.new.self) is
