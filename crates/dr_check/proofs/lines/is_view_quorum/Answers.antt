use Rattle.std.proofs.Common.{◌≡◌, sym, ap, ◌∙◌, ℕ, Some}
use Rattle.dr_entry.proofs.OptionFacts.{iff_ok}
use Rattle.dr_text.specs.{Report.last_text, declared.last.Last.TheVariants.NoQuorum}
use Rattle.dr_check.{specs.Lasts.TellsViewQuorum, proofs.{LastFields.quorum_fields, LineFields.field_of}}
use Rattle.dr_check.proofs.lines.is_view_quorum.Goals as goal

pub returns : goal.returns
returns c =
    let v = c.u8_in-view.result in
    let x = c.u64_in-have.result in
    let y = c.u64_in-need.result in
    let bytes = c.args.bytes.now in
    iff_ok _ (last_text (NoQuorum (Some v) x y) ≡ bytes) (TellsViewQuorum bytes) c.is_quorum.result
    (λ is. (v, x, y, c.u8_in-view.type_inv, c.u64_in-have.type_inv, c.u64_in-need.type_inv, is))
    (λ is. let at = λ (k : ℕ). field_of bytes (last_text (NoQuorum (Some is.0) is.1 is.2)) _ k (sym is.6)
    (quorum_fields is.0 is.1 is.2 is.3 is.4 is.5) in
    let zero : v ≡ is.0 = c.u8_in-view.ensures is.0 is.3 (c.field.ensures ∙ at 4) in
    let one : x ≡ is.1 = c.u64_in-have.ensures is.1 is.4 (c.field-2.ensures ∙ at 6) in
    let two : y ≡ is.2 = c.u64_in-need.ensures is.2 is.5 (c.field-3.ensures ∙ at 8) in
    ap (λ (n : ℕ). last_text (NoQuorum (Some n) x y)) zero ∙ (ap (λ (n : ℕ). last_text (NoQuorum (Some is.0) n y)) one
    ∙ (ap (λ (n : ℕ). last_text (NoQuorum (Some is.0) is.1 n)) two ∙ is.6))) c.is_quorum.ensures
