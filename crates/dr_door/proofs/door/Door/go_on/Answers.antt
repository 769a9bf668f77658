use Rattle.std.proofs.Common.{suc, sym, zero}
use Rattle.dr_door.proofs.door.Door.go_on.Goals as goal

pub returns-in-Act-clause-led : goal.returns-in-Act-clause-led
returns-in-Act-clause-led c = (suc zero, (c.requires, sym c.act.ensures.after))
