use Rattle.std.proofs.Common.{◌≡◌, ◌<◌, sym, ap, ◌∙◌, arith, ℕ}
use Rattle.dr_entry.proofs.OptionFacts.{iff_ok}
use Rattle.dr_text.specs.{Report.last_text, declared.last.Last.TheVariants.Disagree}
use Rattle.dr_check.{specs.Lasts.TellsDisagreement, proofs.{LastFields.disagree_fields, LineFields.field_of}}
use Rattle.dr_check.proofs.lines.is_disagreement.Goals as goal

pub returns-then-a-ge16 : goal.returns-then-a-ge16
returns-then-a-ge16 c =
    let bytes = c.args.bytes.now in (
      λ f. absurd (cc),
      λ is. let one : c.u8_in-a.result ≡ is.0 = c.u8_in-a.ensures is.0 (omega (arith, is.3)) (c.field.ensures
          ∙ field_of bytes (last_text (Disagree is.0 is.1 is.2)) _ 4 (sym is.6)
          (disagree_fields is.0 is.1 is.2 is.3 is.4 is.5)) in
          absurd (omega (arith, one, is.3, c.if-a-ge16.true)),
    )

pub returns : goal.returns
returns c =
    let x = c.u8_in-a.result in
    let y = c.u8_in-b.result in
    let p = c.u64_in-place.result in
    let bytes = c.args.bytes.now in
    iff_ok _ ((y < 16) × (last_text (Disagree x y p) ≡ bytes)) (TellsDisagreement bytes) c.is_text_of.result
    (λ is. (x, y, p, omega (arith, c.if-a-ge16.false), is.0, c.u64_in-place.type_inv, is.1))
    (λ is. let at = λ (k : ℕ). field_of bytes (last_text (Disagree is.0 is.1 is.2)) _ k (sym is.6)
    (disagree_fields is.0 is.1 is.2 is.3 is.4 is.5) in
    let one : x ≡ is.0 = c.u8_in-a.ensures is.0 (omega (arith, is.3)) (c.field.ensures ∙ at 4) in
    let two : y ≡ is.1 = c.u8_in-b.ensures is.1 (omega (arith, is.4)) (c.field-2.ensures ∙ at 6) in
    let three : p ≡ is.2 = c.u64_in-place.ensures is.2 is.5 (c.field-3.ensures ∙ at 10) in (
      omega (arith, two, is.4),
      ap (λ (n : ℕ). last_text (Disagree n y p)) one ∙ (ap (λ (n : ℕ). last_text (Disagree is.0 n p)) two
          ∙ (ap (λ (n : ℕ). last_text (Disagree is.0 is.1 n)) three ∙ is.6)),
    )) c.is_text_of.ensures
