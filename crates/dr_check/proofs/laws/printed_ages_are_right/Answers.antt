use Rattle.dr_check.proofs.Flawless.{printed_right}
use Rattle.dr_check.proofs.laws.printed_ages_are_right.Goals as goal

pub returns : goal.returns
returns c last fits =
    printed_right c.args._script.now c.args._ages.now last c.requires.ranges c.requires.agreed c.requires.kept
    c.requires.small fits
