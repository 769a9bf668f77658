use Rattle.std.proofs.Common.{◌≡◌, sym, ap, ◌∙◌, ℕ, None}
use Rattle.dr_entry.proofs.OptionFacts.{iff_ok}
use Rattle.dr_text.specs.{Report.last_text, declared.last.Last.TheVariants.NoQuorum}
use Rattle.dr_check.{specs.Lasts.TellsRosterQuorum, proofs.{LastFields.roster_fields, LineFields.field_of}}
use Rattle.dr_check.proofs.lines.is_roster_quorum.Goals as goal

pub returns : goal.returns
returns c =
    let x = c.u64_in-have.result in
    let y = c.u64_in-need.result in
    let bytes = c.args.bytes.now in
    iff_ok _ (last_text (NoQuorum None x y) ≡ bytes) (TellsRosterQuorum bytes) c.is_quorum.result
    (λ is. (x, y, c.u64_in-have.type_inv, c.u64_in-need.type_inv, is))
    (λ is. let at = λ (k : ℕ). field_of bytes (last_text (NoQuorum None is.0 is.1)) _ k (sym is.4)
    (roster_fields is.0 is.1 is.2 is.3) in
    let one : x ≡ is.0 = c.u64_in-have.ensures is.0 is.2 (c.field.ensures ∙ at 5) in
    let two : y ≡ is.1 = c.u64_in-need.ensures is.1 is.3 (c.field-2.ensures ∙ at 7) in
    ap (λ (n : ℕ). last_text (NoQuorum None n y)) one ∙ (ap (λ (n : ℕ). last_text (NoQuorum None is.0 n)) two ∙ is.4))
    c.is_quorum.ensures
