use Rattle.std.proofs.{Common.{◌≡◌, slice_get, None, Some, sym, ap, ◌∙◌, arith}, lemmas.Bool.Decides.Decides-eqb}
use Rattle.std.proofs.lemmas.{Grind.common_steps, Option.{gets, none-some, same_Some}, Slice.Eq.slice_eq-Decides}
use Rattle.dr_quorum.proofs.standing.is_scripted.Goals as goal

pub returns-in-Some : goal.returns-in-Some
returns-in-Some c =
    let at : slice_get c.messages_of.result.now c.args.index
    ≡ Some c.in-Some.message.now = grind (arith, common_steps, gets) in
    let here = sym (ap (λ xs. slice_get xs c.args.index) c.messages_of.ensures) ∙ at in
    let is = slice_eq-Decides Decides-eqb c.in-Some.message.now c.args.bytes.now c.eq.result c.eq.ensures in
    (λ t. here ∙ ap Some (is.0 t), λ e. is.1 (same_Some _ _ (sym here ∙ e)))

pub returns-in-None : goal.returns-in-None
returns-in-None c =
    let past : slice_get c.messages_of.result.now c.args.index ≡ None = grind (arith, common_steps, gets) in
    let here = sym (ap (λ xs. slice_get xs c.args.index) c.messages_of.ensures) ∙ past in
    (λ t. absurd (cc), λ e. absurd (none-some c.args.bytes.now (sym here ∙ e)))
