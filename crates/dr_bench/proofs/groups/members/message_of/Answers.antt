use Rattle.std.proofs.{Common.{◌≡◌, ◌<◌, All, rules, sym, subst, arith}, lemmas.List.get_or_default}
use Rattle.dr_bench.proofs.groups.members.message_of.Goals as goal

pub returns-clause-bytes : goal.returns-clause-bytes
returns-clause-bytes c =
    let same : c.unwrap.result ≡ c.args.bytes.now = search rules in
    subst (All (λ byte. byte < 256)) (sym same)
    (λ k d within. omega (arith, c.type_inv.bytes k, get_or_default c.args.bytes.now k d 0 within))
