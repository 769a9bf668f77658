use Rattle.std.proofs.Common.{arith}
use Rattle.dr_history.proofs.Keeping.{longest_keeps}
use Rattle.dr_machine.{specs.Run.accounts_in, proofs.Runs.run_reached}
use Rattle.dr_restart.specs.{Groups.group_of, Left.entries_on_logs}
use Rattle.dr_world_laws.proofs.Worlds.{agreed, known}
use Rattle.dr_agree.proofs.keeping.kept_after.Goals as goal

pub returns : goal.returns
returns c w next run is longest =
    let g = group_of c.args.script.now c.args.start.now in
    longest_keeps g.opening (group_of c.args.script.now next).opening (accounts_in w)
    (entries_on_logs c.args.choice.now)
    (agreed g w c.requires.group (known g w c.requires.group (run_reached g w c.args.events.now run)))
    (c.requires.choice w run) longest (omega (arith, c.requires.later, is))
