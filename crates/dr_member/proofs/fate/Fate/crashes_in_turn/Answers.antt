use Rattle.std.proofs.Common.{◌∙◌}
use Rattle.dr_member.proofs.Crashes.{some_in_turn}
use Rattle.dr_member.proofs.fate.Fate.crashes_in_turn.Goals as goal

pub returns : goal.returns
returns c replica place timely = c.is_some.ensures ∙ some_in_turn c.args.self.now replica.turns timely
