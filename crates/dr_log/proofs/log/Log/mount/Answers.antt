use Rattle.std.proofs.Common.{subst, sym}
use Rattle.dr_disk.specs.Images.{IsLeft}
use Rattle.dr_log_bytes.specs.{Content.OnLog, Grammar.StandFor}
use Rattle.dr_log.proofs.Told.{images_told}
use Rattle.dr_log.proofs.log.Log.mount.Goals as goal

pub returns-in-Ok-clause-durable : goal.returns-in-Ok-clause-durable
returns-in-Ok-clause-durable g c =
    subst (λ (x : OnLog). IsLeft (g.D.Disk.told c.open.new.disk) (λ image. StandFor image x)) (sym c.of.ensures)
    (images_told c.in-Ok.found (g.D.Disk.told c.open.new.disk) c.in-Ok.ensures.settled)
