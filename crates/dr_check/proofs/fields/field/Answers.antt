use Rattle.std.proofs.Common.{◌≡◌, ◌-◌, ◌+◌, suc, sym, ap, ◌∙◌, arith, drop}
use Rattle.dr_check.{specs.Fields.field, proofs.Splitting.{field_behind, field_first}}
use Rattle.dr_check.proofs.fields.field.Goals as goal

pub loop-left-preserved : goal.loop-left-preserved
loop-left-preserved c =
    let rest = c.loop-left.rest.now in
    let left = c.loop-left.left in
    let less : left ≡ suc (left - 1) = omega (arith, c.loop-left-test.true) in
    let behind = c.behind_field-rest.ensures ∙ ap (λ n. drop (n + 1) rest) c.field_end.ensures.first in
    c.loop-left.invariant ∙ (ap (field rest) less
    ∙ (field_behind rest (left - 1) ∙ ap (λ bs. field bs (left - 1)) (sym behind)))

pub returns : goal.returns
returns c =
    let none : c.loop-left.left ≡ 0 = omega (arith, c.loop-left-test.false) in
    c.first_field.ensures ∙ (sym (field_first c.loop-left.rest.now)
    ∙ (ap (field c.loop-left.rest.now) (sym none) ∙ sym c.loop-left.invariant))
