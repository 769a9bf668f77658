use Rattle.dr_machine.proofs.Runs.{run_reached}
use Rattle.dr_restart.specs.Groups.{group_of}
use Rattle.dr_world_laws.proofs.Worlds.{known}
use Rattle.dr_quorum_laws.proofs.Keeping.{majority-keeps, since-held}
use Rattle.dr_quorum.proofs.keeping.kept_by_majority.Goals as goal

pub returns : goal.returns
returns c w chosen run choice =
    let g = group_of c.args.script.now c.args.start.now in
    majority-keeps g w c.args.choice.now c.args.logs.now c.args.tries.now c.args.handed chosen
    (since-held g w c.args.choice.now c.args.logs.now c.args.tries.now c.requires.group
    (known g w c.requires.group (run_reached g w c.args.events.now run)) c.requires.majority
    (c.requires.left w run) (c.requires.held w run)) choice
