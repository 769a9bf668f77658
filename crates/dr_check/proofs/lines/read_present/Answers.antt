use Rattle.std.{specs.Fmt.decimal, proofs.Common.{◌≡◌, ◌+◌, sym, ap, ◌∙◌, arith, subst, Some, ℕ, codes, length}}
use Rattle.std.proofs.lemmas.Bool.Decides.{not_from_Decides}
use Rattle.dr_entry.specs.declared.end.End.{End}
use Rattle.dr_check.specs.{Fields.{end_fields, field}, Lines.{EndFits, present_text}}
use Rattle.dr_check.specs.declared.line.Line.TheVariants.{Present}
use Rattle.dr_check.proofs.LineFields.{chosen_some, field_of, number_behind, numbers_fields, present_fields}
use Rattle.dr_check.proofs.lines.read_present.Goals as goal

pub returns-then-member-ge16-clause-only : goal.returns-then-member-ge16-clause-only
returns-then-member-ge16-clause-only c member h l d is =
    let e = is.4.0 in
    let at = λ (k : ℕ). field_of c.args.bytes.now (present_text member e h l d) _ k is.4.2
    (present_fields member e h l d is.0 is.4.1 is.1 is.2 is.3) in
    let m : c.u8_in-member.result ≡ member =
    c.u8_in-member.ensures member (omega (arith, is.0)) (c.field.ensures ∙ at 1) in
    absurd (omega (arith, m, is.0, c.if-member-ge16.true))

pub returns-then-not-fits_end-clause-only : goal.returns-then-not-fits_end-clause-only
returns-then-not-fits_end-clause-only c member h l d is =
    let e = is.4.0 in
    let end = c.end_of-end.ensures.end member e h l d is.0 is.4.1 is.1 is.2 is.3 is.4.2 in
    absurd (not_from_Decides c.fits_end.result c.fits_end.ensures c.if-not-fits_end.true
    (subst EndFits (sym end.0) is.4.1))

pub returns-clause-some : goal.returns-clause-some
returns-clause-some c =
    chosen_some (Present c.u8_in-member.result c.u64_in-history.result c.u64_in-logged.result c.u64_in-durable.result)
    c.as_str.result.now c.args.bytes.now c.chosen.result (
      omega (arith, c.if-member-ge16.false),
      c.u64_in-history.type_inv,
      c.u64_in-logged.type_inv,
      c.u64_in-durable.type_inv,
      (
        c.end_of-end.result.0,
        c.fits_end.ensures.0 c.if-not-fits_end.false,
        c.as_str.ensures.value ∙ c.in_ok-text.ensures,
      ),
    ) c.chosen.ensures.some

pub returns-clause-only : goal.returns-clause-only
returns-clause-only c member h l d is =
    let bytes = c.args.bytes.now in
    let e = is.4.0 in
    let rest = numbers_fields h l d in
    let text = present_text member e h l d in
    let at = λ (k : ℕ). field_of bytes text _ k is.4.2 (present_fields member e h l d is.0 is.4.1 is.1 is.2 is.3) in
    let end = c.end_of-end.ensures.end member e h l d is.0 is.4.1 is.1 is.2 is.3 is.4.2 in
    let far = λ (k : ℕ). ap (λ (n : ℕ). field bytes (n + k)) end.1 ∙ (at (2 + length (end_fields e) + k)
    ∙ number_behind (codes "member") (decimal member) e rest k) in
    let m : c.u8_in-member.result ≡ member =
    c.u8_in-member.ensures member (omega (arith, is.0)) (c.field.ensures ∙ at 1) in
    let x : c.u64_in-history.result ≡ h = c.u64_in-history.ensures h is.1 (c.field-2.ensures ∙ far 1) in
    let y : c.u64_in-logged.result ≡ l = c.u64_in-logged.ensures l is.2 (c.field-3.ensures ∙ far 3) in
    let z : c.u64_in-durable.result ≡ d = c.u64_in-durable.ensures d is.3 (c.field-4.ensures ∙ far 5) in
    let M = c.u8_in-member.result in
    let E = c.end_of-end.result.0 in
    let H = c.u64_in-history.result in
    let L = c.u64_in-logged.result in
    let D = c.u64_in-durable.result in
    let printed : present_text M E H L D ≡ text =
    ap (λ (n : ℕ). present_text n E H L D) m ∙ (ap (λ (n : End). present_text member n H L D) end.0
    ∙ (ap (λ (n : ℕ). present_text member e n L D) x ∙ (ap (λ (n : ℕ). present_text member e h n D) y
    ∙ ap (λ (n : ℕ). present_text member e h l n) z))) in
    c.chosen.ensures.yes (c.as_str.ensures.value ∙ (c.in_ok-text.ensures ∙ (printed ∙ sym is.4.2)))
    ∙ (ap (λ (n : ℕ). Some (Present n H L D)) m ∙ (ap (λ (n : ℕ). Some (Present member n L D)) x
    ∙ (ap (λ (n : ℕ). Some (Present member h n D)) y ∙ ap (λ (n : ℕ). Some (Present member h l n)) z)))
