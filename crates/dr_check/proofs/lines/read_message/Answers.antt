use Rattle.std.{specs.Prelude.IfOk, proofs.Common.{◌≡◌, ◌∙◌, arith, subst, Some, ℕ, List}}
use Rattle.dr_entry.specs.declared.entry.Entry.TheVariants.{Msg}
use Rattle.dr_text.specs.Report.{entry_text}
use Rattle.dr_check.specs.{Lines.IsLineText, declared.line.Line.TheVariants.Entry as EntryLine}
use Rattle.dr_check.proofs.LineFields.{field_of, message_fields}
use Rattle.dr_check.proofs.lines.read_message.Goals as goal

pub returns-then-sender-ge16-clause-only : goal.returns-then-sender-ge16-clause-only
returns-then-sender-ge16-clause-only c sender index body is =
    let at = λ (k : ℕ). field_of c.args.bytes.now (entry_text (Msg sender index body)) _ k is.1
    (message_fields sender index body is.0.0 is.0.1) in
    let s : c.u8_in-sender.result ≡ sender =
    c.u8_in-sender.ensures sender (omega (arith, is.0.0)) (c.field.ensures ∙ at 3) in
    absurd (omega (arith, s, is.0.0, c.if-sender-ge16.true))

pub returns-clause-some : goal.returns-clause-some
returns-clause-some c = c.entry_if_spelled.ensures.some
    (omega (arith, c.if-sender-ge16.false), c.u32_in-index.type_inv, c.in_ok-body.ensures.message)

pub returns-clause-only : goal.returns-clause-only
returns-clause-only c sender index body is =
    let at = λ (k : ℕ). field_of c.args.bytes.now (entry_text (Msg sender index body)) _ k is.1
    (message_fields sender index body is.0.0 is.0.1) in
    let bytes = c.args.bytes.now in
    let P : ℕ → ℕ → List ℕ → Type 0 = λ s i b. IsLineText (EntryLine (Msg s i b)) bytes
    → IfOk c.entry_if_spelled.result (λ line. line ≡ Some (EntryLine (Msg s i b))) in
    let s : c.u8_in-sender.result ≡ sender =
    c.u8_in-sender.ensures sender (omega (arith, is.0.0)) (c.field.ensures ∙ at 3) in
    let i : c.u32_in-index.result ≡ index = c.u32_in-index.ensures index is.0.1 (c.field-2.ensures ∙ at 4) in
    let b : c.in_ok-body.body ≡ body = c.in_ok-body.ensures.value body is.0.2 (c.field-3.ensures ∙ at 5) in
    subst (λ (x : List ℕ). P sender index x) b (subst (λ (x : ℕ). P sender x c.in_ok-body.body) i
    (subst (λ (x : ℕ). P x c.u32_in-index.result c.in_ok-body.body) s c.entry_if_spelled.ensures.only)) is
