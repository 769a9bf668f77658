use Rattle.dr_opening.{specs.{Logs.LacksStart, declared.catching_up.CatchFault.CatchFault}, proofs.Placing.both_by}
use Rattle.dr_opening.proofs.opening.raise_at.Goals as goal

pub raise-requires-clause-ready : goal.raise-requires-clause-ready
raise-requires-clause-ready g c κs h = c.requires.ready c.in-Some.log c.in-Some.is

pub returns-in-Some-clause-stuck : goal.returns-in-Some-clause-stuck
returns-in-Some-clause-stuck g c = both_by (Unit {0}) CatchFault
    (λ why old new. LacksStart g.D.Disk.told g.D.Disk.faults c.args.start.now old new why) c.args.place.now c.in-Some.log
    c.raise.new.log c.raise.result c.in-Some.is c.raise.ensures.stuck
