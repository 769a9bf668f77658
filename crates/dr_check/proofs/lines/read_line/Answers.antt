use Rattle.std.{specs.Prelude.IfOk, proofs.Common.{◌≡◌, sym, ◌∙◌, subst, Some}}
use Rattle.dr_check.{specs.{Lines.IsLineText, declared.line.Line.Line}, proofs.LineFields.{of_age, of_other}}
use Rattle.dr_check.proofs.lines.read_line.Goals as goal

pub returns-then-first-eq97-clause-only : goal.returns-then-first-eq97-clause-only
returns-then-first-eq97-clause-only c l is =
    let k = of_age l c.args.bytes.now (sym c.byte_at-first.ensures ∙ c.if-first-eq97.true) is in
    subst (λ (x : Line). IfOk c.read_age.result (λ line. line ≡ Some x)) (sym k.2)
    (c.read_age.ensures.only k.0 k.1 (subst (λ (x : Line). IsLineText x c.args.bytes.now) k.2 is))

pub returns-then-first-eq109-clause-only : goal.returns-then-first-eq109-clause-only
returns-then-first-eq109-clause-only c l is =
    c.read_member.ensures.only l (sym c.byte_at-first.ensures ∙ c.if-first-eq109.true) is

pub returns-then-first-eq32-clause-only : goal.returns-then-first-eq32-clause-only
returns-then-first-eq32-clause-only c l is =
    c.read_entry.ensures.only l (sym c.byte_at-first.ensures ∙ c.if-first-eq32.true) is

pub returns-clause-only : goal.returns-clause-only
returns-clause-only c l is =
    let k = of_other l c.args.bytes.now (λ e. c.if-first-eq97.false (c.byte_at-first.ensures ∙ e))
    (λ e. c.if-first-eq109.false (c.byte_at-first.ensures ∙ e))
    (λ e. c.if-first-eq32.false (c.byte_at-first.ensures ∙ e)) is in
    subst (λ (x : Line). IfOk c.read_last.result (λ line. line ≡ Some x)) (sym k)
    (c.read_last.ensures.only (subst (λ (x : Line). IsLineText x c.args.bytes.now) k is))
