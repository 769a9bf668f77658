use Rattle.std.proofs.Common.{◌≡◌, ◌<◌, sym, ◌∙◌, subst, arith, ℕ}
use Rattle.dr_entry.proofs.OptionFacts.{iff_ok}
use Rattle.dr_text.specs.{Report.last_text, declared.last.Last.TheVariants.DiskFault}
use Rattle.dr_check.{specs.Lasts.TellsDiskFault, proofs.{LastFields.disk_fields, LineFields.field_of}}
use Rattle.dr_check.proofs.lines.is_disk_fault.Goals as goal

pub returns : goal.returns
returns c =
    let m = c.u8_in-member.result in
    let bytes = c.args.bytes.now in
    iff_ok _ ((m < 16) × (last_text (DiskFault m) ≡ bytes)) (TellsDiskFault bytes) c.is_text_of.result
    (λ is. (m, is.0, is.1))
    (λ is. let same : m ≡ is.0 = c.u8_in-member.ensures is.0 (omega (arith, is.1)) (c.field.ensures
    ∙ field_of bytes (last_text (DiskFault is.0)) _ 4 (sym is.2) (disk_fields is.0 is.1)) in
    subst (λ (n : ℕ). (n < 16) × (last_text (DiskFault n) ≡ bytes)) (sym same) (is.1, is.2)) c.is_text_of.ensures
