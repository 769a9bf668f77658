use Rattle.std.proofs.Common.{arith}
use Rattle.dr_machine.proofs.Runs.{run_reached}
use Rattle.dr_restart.specs.Groups.{group_of}
use Rattle.dr_world_laws.proofs.Worlds.{known}
use Rattle.dr_quorum_laws.proofs.Keeping.{choice-keeps, since-left}
use Rattle.dr_quorum.proofs.keeping.kept_after_choice.Goals as goal

pub returns : goal.returns
returns c w chosen next run choice same is =
    let g = group_of c.args.script.now c.args.start.now in
    choice-keeps g w c.args.choice.now c.args.handed chosen (group_of c.args.script.now next).opening
    (since-left g w c.args.choice.now c.requires.group
    (known g w c.requires.group (run_reached g w c.args.events.now run)) c.requires.majority
    (c.requires.left w run)) choice same (omega (arith, c.requires.later, is))
