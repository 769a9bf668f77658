use Rattle.std.proofs.Common.{◌≡◌, ◌+◌, ap, ◌∙◌, ℕ}
use Rattle.dr_check.specs.{Fields.{kind_of, kind_of_end, width_of}, Lines.present_text}
use Rattle.dr_check.proofs.LineFields.{field_of, numbers_fields, present_fields, told_end, told_kind, told_width, word_first}
use Rattle.dr_check.proofs.lines.end_of.Goals as goal

pub returns-clause-end : goal.returns-clause-end
returns-clause-end c member e h l d m fits hs ls ds is =
    let rest = numbers_fields h l d in
    let at = λ (k : ℕ). field_of c.args.bytes.now (present_text member e h l d) _ k is
    (present_fields member e h l d m fits hs ls ds) in
    let kind : c.of-kind.result ≡ kind_of_end e =
    c.of-kind.ensures ∙ (ap kind_of (c.field.ensures ∙ (at 2 ∙ word_first e rest)) ∙ told_kind e) in (
      told_end c.with_number.result e c.of-kind.result rest c.field-2.result.now fits c.with_number.ensures.kind kind
          (c.field-2.ensures ∙ at 3) c.with_number.ensures.number,
      ap (λ (n : ℕ). 2 + n) (c.width.ensures.width ∙ (ap width_of kind ∙ told_width e)),
    )
