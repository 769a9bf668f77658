use Rattle.std.proofs.Common.{ap, sym, ◌∙◌}
use Rattle.dr_literals.{specs.Literals.is_plain, proofs.Digits.{number_none, number_some}}
use Rattle.dr_literals.proofs.numbers.number_word.Goals as goal

pub returns-in_err-number : goal.returns-in_err-number
returns-in_err-number c = c.from_residual.ensures
    ∙ sym (number_none c.args.word.now c.as_bytes-digits.result.now c.loop-digit.number c.loop-digit.digit-index
    c.as_bytes-digits.ensures.value c.loop-digit.invariant.0 c.loop-digit-test.true c.in_err-number.ensures)

pub returns : goal.returns
returns c = sym (number_some c.args.word.now c.as_bytes-digits.result.now c.loop-digit.number c.loop-digit.digit-index
    c.loop-digit.invariant.1 (ap is_plain (sym c.as_bytes-digits.ensures.value) ∙ sym c.if-not-is_plain.ensures)
    c.as_bytes-digits.ensures.value c.loop-digit.invariant.0 c.loop-digit-test.false)
