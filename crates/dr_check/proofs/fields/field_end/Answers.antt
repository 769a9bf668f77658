use Rattle.std.proofs.{Common.{sym, ◌∙◌, arith, length}, lemmas.List.Sums.position_or_len_is}
use Rattle.dr_entry.proofs.ListFacts.{none_more}
use Rattle.dr_check.specs.Fields.{is_end}
use Rattle.dr_check.proofs.fields.field_end.Goals as goal

pub returns-then-is_end-clause-first : goal.returns-then-is_end-clause-first
returns-then-is_end-clause-first c = sym (position_or_len_is is_end c.args.bytes.now c.loop-at.at 0
    (omega (arith, c.loop-at-test.true)) c.loop-at.invariant (λ _. sym c.is_end.ensures ∙ c.if-is_end.true))

pub loop-at-preserved : goal.loop-at-preserved
loop-at-preserved c k less = none_more is_end c.args.bytes.now c.loop-at.at c.loop-at.invariant
    (sym c.is_end.ensures ∙ c.if-is_end.false) k less

pub returns-clause-first : goal.returns-clause-first
returns-clause-first c = sym (position_or_len_is is_end c.args.bytes.now (length c.args.bytes.now) 0
    (omega arith) (λ k less. c.loop-at.invariant k (omega (arith, less, c.loop-at-test.false)))
    (λ less. absurd (omega (arith, less))))
