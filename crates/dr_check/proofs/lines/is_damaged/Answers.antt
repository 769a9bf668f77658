use Rattle.std.proofs.Common.{◌≡◌, ◌<◌, sym, ap, ◌∙◌, subst, arith, ℕ}
use Rattle.dr_entry.proofs.OptionFacts.{iff_ok}
use Rattle.dr_text.specs.{Report.last_text, declared.last.Last.TheVariants.Damaged}
use Rattle.dr_check.{specs.Lasts.TellsDamaged, proofs.{LastFields.damaged_fields, LineFields.field_of}}
use Rattle.dr_check.proofs.lines.is_damaged.Goals as goal

pub returns : goal.returns
returns c =
    let m = c.u8_in-member.result in
    let p = c.u64_in-at.result in
    let bytes = c.args.bytes.now in
    iff_ok _ ((m < 16) × (last_text (Damaged m p) ≡ bytes)) (TellsDamaged bytes) c.is_text_of.result
    (λ is. (m, p, is.0, c.u64_in-at.type_inv, is.1))
    (λ is. let at = λ (k : ℕ). field_of bytes (last_text (Damaged is.0 is.1)) _ k (sym is.4)
    (damaged_fields is.0 is.1 is.2 is.3) in
    let one : m ≡ is.0 = c.u8_in-member.ensures is.0 (omega (arith, is.2)) (c.field.ensures ∙ at 5) in
    let two : p ≡ is.1 = c.u64_in-at.ensures is.1 is.3 (c.field-2.ensures ∙ at 7) in
    subst (λ (n : ℕ). (n < 16) × (last_text (Damaged n p) ≡ bytes)) (sym one)
    (is.2, ap (λ (q : ℕ). last_text (Damaged is.0 q)) two ∙ is.4)) c.is_text_of.ensures
