use Rattle.dr_check.proofs.Passes.{passes}
use Rattle.dr_check.proofs.laws.report_passes.Goals as goal

pub returns : goal.returns
returns c = passes c.args._script.now c.args._ages.now c.args._report.now c.requires.ranges c.requires.values
    c.requires.agreed c.requires.kept
