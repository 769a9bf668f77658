use Rattle.std.proofs.{Common.{◌++◌, string_bytes, ap, sym, ◌∙◌}, lemmas.Result.on_ok_weaker}
use Rattle.dr_commands.{specs.StoreLines.values_text, proofs.StoreLasts.last_values}
use Rattle.dr_commands.proofs.store.values.push_values.Goals as goal

pub returns-in-len1-up : goal.returns-in-len1-up
returns-in-len1-up c =
    let key = c.args.key.now in let v = c.args.version in
    on_ok_weaker c.push_members.result (λ e. e ∙ ap (λ t. string_bytes c.args.out.now ++ t)
    (ap (values_text key v) c.as_slice.ensures ∙ sym (last_values key v c.args.ages.now c.age-item.result
    c.in-len1-up.len_at_least c.age-item.is))) c.push_members.ensures
