use Rattle.std.proofs.Common.{◌∙◌}
use Rattle.dr_member.proofs.Crashes.{some_at_push}
use Rattle.dr_member.proofs.fate.Fate.crashes_now.Goals as goal

pub returns : goal.returns
returns c replica place timely = c.is_push_now.ensures ∙ some_at_push c.args.self.now replica.turns timely
