use Rattle.std.{specs.{Fmt.decimal, Result.result_unwrap_or, Str.IsUtf8}, proofs.lemmas.Str.IsUtf8-from_ascii}
use Rattle.std.proofs.{Common.{◌≡◌, ap, sym, ◌∙◌, arith, Ok, subst}, lemmas.Fmt.{parse-decimal, IsAscii-decimal}}
use Rattle.dr_check.proofs.fields.u64_in.Goals as goal

pub returns : goal.returns
returns c n small is =
    let text : IsUtf8 c.args.word.now =
    subst IsUtf8 (sym is) (IsUtf8-from_ascii (decimal n) (IsAscii-decimal n (omega (arith, small)))) in
    let ok : c.parse.result ≡ Ok n = parse-decimal 64 n c.text_in.result.now c.parse.result small
    (omega (arith, small)) (c.text_in.ensures text ∙ is) c.parse.ensures.value.0 in
    c.unwrap_or.ensures ∙ ap (λ r. result_unwrap_or r 0) ok
