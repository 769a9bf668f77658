use Rattle.std.{specs.Fmt.decimal, proofs.Common.{◌≡◌, sym, ap, ◌∙◌, Some, ℕ, [], ◌∷◌, codes}}
use Rattle.dr_check.specs.{Lines.age_start_text, declared.line.Line.TheVariants.Age}
use Rattle.dr_check.proofs.LineFields.{age_fields, chosen_some, field_of}
use Rattle.dr_check.proofs.lines.read_age.Goals as goal

pub returns-clause-some : goal.returns-clause-some
returns-clause-some c =
    chosen_some (Age c.u16_in-age.result c.u64_in-start.result) c.as_str.result.now c.args.bytes.now c.chosen.result
    (c.u16_in-age.type_inv, c.u64_in-start.type_inv, c.as_str.ensures.value ∙ c.in_ok-text.ensures)
    c.chosen.ensures.some

pub returns-clause-only : goal.returns-clause-only
returns-clause-only c age start is =
    let fs = codes "age" ∷ decimal age ∷ codes "start" ∷ decimal start ∷ [] ∷ [] in
    let at = λ (k : ℕ). field_of c.args.bytes.now (age_start_text age start) fs k is.2
    (age_fields age start is.0 is.1) in
    let a : c.u16_in-age.result ≡ age = c.u16_in-age.ensures age is.0 (c.field.ensures ∙ at 1) in
    let s : c.u64_in-start.result ≡ start = c.u64_in-start.ensures start is.1 (c.field-2.ensures ∙ at 3) in
    let same : c.as_str.result.now ≡ c.args.bytes.now =
    c.as_str.ensures.value ∙ (c.in_ok-text.ensures ∙ (ap (λ (n : ℕ). age_start_text n c.u64_in-start.result) a
    ∙ (ap (λ (n : ℕ). age_start_text age n) s ∙ sym is.2))) in
    c.chosen.ensures.yes same ∙ (ap (λ (n : ℕ). Some (Age n c.u64_in-start.result)) a
    ∙ ap (λ (n : ℕ). Some (Age age n)) s)
