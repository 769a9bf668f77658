use Rattle.std.proofs.Common.{rules}
use Rattle.dr_opening.proofs.Choosing.{chosen_late}
use Rattle.dr_opening.proofs.age.choose_of.Goals as goal

pub returns-clause-chosen : goal.returns-clause-chosen
returns-clause-chosen g c = chosen_late c.args.script.now c.args.logs.now c.as_slice.result.now c.in_ok-start.start
    c.args.late c.bits.result c.requires.ranges c.requires.all (search rules) c.in_ok-start.ensures.start
    c.in_ok-start.ensures.members c.requires.prompt (search rules)
