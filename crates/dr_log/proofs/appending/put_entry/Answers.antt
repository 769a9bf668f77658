use Rattle.std.proofs.Common.{◌≡◌, ap, sym, ◌∙◌, length, rules}
use Rattle.dr_disk.{specs.{Calls.Write, Disk.added}, proofs.Images.reaches_written}
use Rattle.dr_log.proofs.appending.put_entry.Goals as goal

pub returns-clause-reaches : goal.returns-clause-reaches
returns-clause-reaches g c =
    let told = g.D.Disk.told in
    let is : told c.write_at.new.self ≡ added (Write c.args.at c.as_slice.result.now) (told c.args.disk.now) =
    search rules in
    reaches_written (told c.args.disk.now) (told c.write_at.new.self) c.args.at c.len.result
    c.as_slice.result.now is (c.len.ensures.value ∙ ap length (sym c.as_slice.ensures.value)) c.requires.inside
