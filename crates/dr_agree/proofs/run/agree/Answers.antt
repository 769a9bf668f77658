use Rattle.std.proofs.Common.{refl}
use Rattle.dr_machine.proofs.Runs.{events_reached}
use Rattle.dr_world.specs.Held.{its_group, its_world}
use Rattle.dr_world_laws.proofs.Worlds.{agreed, known}
use Rattle.dr_agree.proofs.run.agree.Goals as goal

pub returns-then-not-agree_on : goal.returns-then-not-agree_on
returns-then-not-agree_on c = (
  λ t. absurd (cc),
  λ agrees.
      let is = c.agree_on.ensures.1 (λ here there. agrees.prefix c.loop-i.i c.loop-j.j here there) in
      absurd (cc (is, c.if-not-agree_on.true)),
)

pub returns : goal.returns
returns c =
    let g = its_group c.args.world.now in
    let w = its_world c.args.world.now in (
      λ _. agreed g w c.members-members.ensures.group
          (known g w c.members-members.ensures.group (events_reached g w c.members-members.ensures.events)),
      λ _. refl,
    )
