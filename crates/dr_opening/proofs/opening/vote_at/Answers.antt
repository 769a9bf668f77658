use Rattle.dr_opening.{specs.{Logs.LacksVote, declared.catching_up.CatchFault.CatchFault}, proofs.Placing.both_by}
use Rattle.dr_opening.proofs.opening.vote_at.Goals as goal

pub returns-in-Some-clause-stuck : goal.returns-in-Some-clause-stuck
returns-in-Some-clause-stuck g c = both_by (Unit {0}) CatchFault
    (λ why old new. LacksVote g.D.Disk.told g.D.Disk.faults c.args.start.now old new why) c.args.place.now c.in-Some.log
    c.vote_on.new.log c.vote_on.result c.in-Some.is c.vote_on.ensures.stuck
