use Rattle.dr_restart.specs.Groups.{group_of}
use Rattle.dr_world_laws.proofs.Worlds.{known}
use Rattle.dr_quorum_laws.proofs.{Keeping.{since-held, since-left}, Tried.tried-held}
use Rattle.dr_quorum_laws.proofs.laws.held_by_try.Goals as goal

pub returns : goal.returns
returns c =
    let g = group_of c.args.script.now c.args.start.now in record {
      first = λ w run left. (since-left g w c.args.choice.now c.requires.group (known g w c.requires.group run)
          c.requires.majority left).held;
      tried = λ w run left held try. tried-held g w c.args.choice.now c.args.before.now c.args.after.now
          c.args.tries.now c.args.added.now
          (since-held g w c.args.choice.now c.args.before.now c.args.tries.now c.requires.group
          (known g w c.requires.group run) c.requires.majority left held) try;
    }
