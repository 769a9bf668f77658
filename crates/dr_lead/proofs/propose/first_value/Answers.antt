use Rattle.std.proofs.{Common.{◌≡◌, ◌<◌, true, arith}, lemmas.Grind.common_steps}
use Rattle.dr_history.{specs.Members.has, proofs.Ranks.some_member}
use Rattle.dr_lead.proofs.propose.first_value.Goals as goal

pub trim_of-requires-clause-some : goal.trim_of-requires-clause-some
trim_of-requires-clause-some c =
    let within : c.args.s.now.me < 16 = grind (arith, common_steps) in
    let member : has c.unsuspected.result c.args.s.now.me ≡ true = grind (arith, common_steps) in
    some_member c.unsuspected.result c.args.s.now.me within member
