use Rattle.dr_opening.proofs.Cutting.{common_along, common_before}
use Rattle.dr_opening.proofs.cutting_back.common_length.Goals as goal

pub returns-in-Some-clause-common : goal.returns-in-Some-clause-common
returns-in-Some-clause-common c = common_before c.args.one.now c.args.other.now c.in-Some.at c.in-Some.ensures.some

pub returns-in-None-clause-common : goal.returns-in-None-clause-common
returns-in-None-clause-common c =
    common_along c.args.one.now c.args.other.now c.min.result c.in-None.ensures.none c.min.ensures
