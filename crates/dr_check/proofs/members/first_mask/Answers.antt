use Rattle.std.proofs.{Common.{◌≡◌, None, slice_get, length, sym, ap, ◌∙◌, arith}, lemmas.Grind.common_steps}
use Rattle.std.proofs.lemmas.Option.{gets}
use Rattle.dr_history.proofs.Masks.{nobody}
use Rattle.dr_check.specs.Clauses.{members_named}
use Rattle.dr_check.proofs.members.first_mask.Goals as goal

pub returns-in-None : goal.returns-in-None
returns-in-None c =
    let past : slice_get c.args.member.now.history (length c.args.age.now.start) ≡ None =
    grind (arith, common_steps, gets) in
    nobody ∙ sym (ap members_named past)
