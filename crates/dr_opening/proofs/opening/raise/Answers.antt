use Rattle.dr_opening.proofs.Rising.{raised_on, uncut_by, unraised_on}
use Rattle.dr_opening.proofs.opening.raise.Goals as goal

pub returns-in-Err-clause-stuck : goal.returns-in-Err-clause-stuck
returns-in-Err-clause-stuck g c =
    uncut_by g.D.Disk.told g.D.Disk.faults c.args.start.now c.args.log.now c.cut_back.new.log c.in-Err.why
    c.why_of.result c.requires.ready c.in-Err.ensures.cut c.why_of.ensures.disk c.why_of.ensures.full

pub returns-in-Ok-clause-raised : goal.returns-in-Ok-clause-raised
returns-in-Ok-clause-raised g c =
    raised_on (Unit {0}) g.D.Disk.told g.D.Disk.faults c.args.start.now c.args.log.now c.cut_back.new.log
    c.catch_up.new.log c.in-Ok.field-0 c.of.result c.catch_up.result c.requires.ready c.in-Ok.ensures.cut c.of.ensures
    c.catch_up.ensures.caught c.catch_up.ensures.limit

pub returns-in-Ok-clause-stuck : goal.returns-in-Ok-clause-stuck
returns-in-Ok-clause-stuck g c =
    unraised_on (Unit {0}) g.D.Disk.told g.D.Disk.faults c.args.start.now c.args.log.now c.cut_back.new.log
    c.catch_up.new.log c.in-Ok.field-0 c.of.result c.catch_up.result c.requires.ready c.in-Ok.ensures.cut c.of.ensures
    c.catch_up.ensures.stayed c.catch_up.ensures.left_alone c.catch_up.ensures.failed c.catch_up.ensures.cause
    c.catch_up.ensures.limit
