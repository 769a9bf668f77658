use Rattle.std.{specs.Prelude.IfOk, proofs.Common.{◌≡◌, sym, ◌∙◌, subst, Some, ℕ}}
use Rattle.dr_entry.specs.declared.entry.Entry.TheVariants.{View}
use Rattle.dr_text.specs.Report.{entry_text}
use Rattle.dr_check.specs.{Lines.IsLineText, declared.line.Line.TheVariants.Entry as EntryLine}
use Rattle.dr_check.proofs.LineFields.{field_of, view_fields}
use Rattle.dr_check.proofs.lines.read_view.Goals as goal

pub returns-then-members-eq0-clause-only : goal.returns-then-members-eq0-clause-only
returns-then-members-eq0-clause-only c age number members is =
    let at = λ (k : ℕ). field_of c.args.bytes.now (entry_text (View age number members)) _ k is.1
    (view_fields age number members is.0.0 is.0.1) in
    let m : c.mask_in-members.result ≡ members = c.mask_in-members.ensures members is.0.2 (c.field-3.ensures
    ∙ at 5) in
    absurd (is.0.2.1 (sym m ∙ c.if-members-eq0.true))

pub returns-clause-some : goal.returns-clause-some
returns-clause-some c = c.entry_if_spelled.ensures.some
    (c.u16_in-age.type_inv, c.u8_in-number.type_inv, (c.mask_in-members.type_inv, c.if-members-eq0.false))

pub returns-clause-only : goal.returns-clause-only
returns-clause-only c age number members is =
    let at = λ (k : ℕ). field_of c.args.bytes.now (entry_text (View age number members)) _ k is.1
    (view_fields age number members is.0.0 is.0.1) in
    let bytes = c.args.bytes.now in
    let P : ℕ → ℕ → ℕ → Type 0 = λ a n m. IsLineText (EntryLine (View a n m)) bytes
    → IfOk c.entry_if_spelled.result (λ line. line ≡ Some (EntryLine (View a n m))) in
    let a : c.u16_in-age.result ≡ age = c.u16_in-age.ensures age is.0.0 (c.field.ensures ∙ at 3) in
    let n : c.u8_in-number.result ≡ number = c.u8_in-number.ensures number is.0.1 (c.field-2.ensures ∙ at 4) in
    let m : c.mask_in-members.result ≡ members = c.mask_in-members.ensures members is.0.2 (c.field-3.ensures
    ∙ at 5) in
    subst (λ (x : ℕ). P age number x) m (subst (λ (x : ℕ). P age x c.mask_in-members.result) n
    (subst (λ (x : ℕ). P x c.u8_in-number.result c.mask_in-members.result) a c.entry_if_spelled.ensures.only)) is
