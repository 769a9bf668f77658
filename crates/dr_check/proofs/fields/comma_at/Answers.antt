use Rattle.std.proofs.{Common.{◌==◌, sym, ◌∙◌, arith, length}, lemmas.List.Sums.position_or_len_is}
use Rattle.dr_entry.proofs.ListFacts.{none_more}
use Rattle.dr_check.proofs.fields.comma_at.Goals as goal

pub returns-then-is_comma-clause-first : goal.returns-then-is_comma-clause-first
returns-then-is_comma-clause-first c = sym (position_or_len_is (λ b. b == 44) c.args.bytes.now c.loop-at.at 0
    (omega (arith, c.loop-at-test.true)) c.loop-at.invariant (λ _. sym c.is_comma.ensures ∙ c.if-is_comma.true))

pub loop-at-preserved : goal.loop-at-preserved
loop-at-preserved c k less = none_more (λ b. b == 44) c.args.bytes.now c.loop-at.at c.loop-at.invariant
    (sym c.is_comma.ensures ∙ c.if-is_comma.false) k less

pub returns-clause-first : goal.returns-clause-first
returns-clause-first c = sym (position_or_len_is (λ b. b == 44) c.args.bytes.now (length c.args.bytes.now) 0
    (omega arith) (λ k less. c.loop-at.invariant k (omega (arith, less, c.loop-at-test.false)))
    (λ less. absurd (omega (arith, less))))
