use Rattle.std.proofs.Common.{sym, ◌∙◌}
use Rattle.dr_door.proofs.door.Door.pushed.Goals as goal

pub push-requires : goal.push-requires
push-requires c = sym c.pushes.ensures ∙ c.if-not-pushes.false
