use Rattle.std.proofs.Common.{ap, length}
use Rattle.dr_restart.proofs.Choosing.{one_held}
use Rattle.dr_quorum.specs.Handing.{handed_by}
use Rattle.dr_quorum.proofs.holders.held_length.Goals as goal

pub returns-in-Some-clause-held : goal.returns-in-Some-clause-held
returns-in-Some-clause-held c es x = ap length
    (one_held (handed_by c.args.lists.now) c.args.age c.args.member c.in-Some.entries.now es c.in-Some.ensures.some x)

pub returns-in-Some-clause-some : goal.returns-in-Some-clause-some
returns-in-Some-clause-some c _ = (c.in-Some.entries.now, c.in-Some.ensures.some)

pub returns-in-None-clause-held : goal.returns-in-None-clause-held
returns-in-None-clause-held c es x = absurd (c.in-None.ensures.none es x)
