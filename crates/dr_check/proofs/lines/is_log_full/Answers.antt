use Rattle.std.proofs.Common.{◌≡◌, ◌<◌, sym, ◌∙◌, subst, arith, ℕ}
use Rattle.dr_entry.proofs.OptionFacts.{iff_ok}
use Rattle.dr_text.specs.{Report.last_text, declared.last.Last.TheVariants.LogFull}
use Rattle.dr_check.{specs.Lasts.TellsLogFull, proofs.{LastFields.full_fields, LineFields.field_of}}
use Rattle.dr_check.proofs.lines.is_log_full.Goals as goal

pub returns : goal.returns
returns c =
    let m = c.u8_in-member.result in
    let bytes = c.args.bytes.now in
    iff_ok _ ((m < 16) × (last_text (LogFull m) ≡ bytes)) (TellsLogFull bytes) c.is_text_of.result
    (λ is. (m, is.0, is.1))
    (λ is. let same : m ≡ is.0 = c.u8_in-member.ensures is.0 (omega (arith, is.1)) (c.field.ensures
    ∙ field_of bytes (last_text (LogFull is.0)) _ 5 (sym is.2) (full_fields is.0 is.1)) in
    subst (λ (n : ℕ). (n < 16) × (last_text (LogFull n) ≡ bytes)) (sym same) (is.1, is.2)) c.is_text_of.ensures
