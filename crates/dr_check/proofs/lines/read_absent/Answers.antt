use Rattle.std.{specs.Fmt.decimal, proofs.Common.{◌≡◌, sym, ap, ◌∙◌, arith, Some, ℕ, [], ◌∷◌, codes}}
use Rattle.dr_check.specs.{Lines.absent_text, declared.line.Line.TheVariants.Absent}
use Rattle.dr_check.proofs.LineFields.{absent_fields, chosen_some, field_of}
use Rattle.dr_check.proofs.lines.read_absent.Goals as goal

pub returns-then-member-ge16-clause-only : goal.returns-then-member-ge16-clause-only
returns-then-member-ge16-clause-only c member is =
    let fs = codes "member" ∷ decimal member ∷ codes "absent" ∷ [] ∷ [] in
    let m : c.u8_in-member.result ≡ member = c.u8_in-member.ensures member (omega (arith, is.0))
    (c.field.ensures ∙ field_of c.args.bytes.now (absent_text member) fs 1 is.1 (absent_fields member is.0)) in
    absurd (omega (arith, m, is.0, c.if-member-ge16.true))

pub returns-clause-some : goal.returns-clause-some
returns-clause-some c =
    chosen_some (Absent c.u8_in-member.result) c.as_str.result.now c.args.bytes.now c.chosen.result (
      omega (arith, c.if-member-ge16.false),
      c.as_str.ensures.value ∙ c.in_ok-text.ensures,
    ) c.chosen.ensures.some

pub returns-clause-only : goal.returns-clause-only
returns-clause-only c member is =
    let fs = codes "member" ∷ decimal member ∷ codes "absent" ∷ [] ∷ [] in
    let m : c.u8_in-member.result ≡ member = c.u8_in-member.ensures member (omega (arith, is.0))
    (c.field.ensures ∙ field_of c.args.bytes.now (absent_text member) fs 1 is.1 (absent_fields member is.0)) in
    let same : c.as_str.result.now ≡ c.args.bytes.now =
    c.as_str.ensures.value ∙ (c.in_ok-text.ensures ∙ (ap (λ (n : ℕ). absent_text n) m ∙ sym is.1)) in
    c.chosen.ensures.yes same ∙ ap (λ (n : ℕ). Some (Absent n)) m
