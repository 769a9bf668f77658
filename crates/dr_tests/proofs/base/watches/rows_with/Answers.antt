use Rattle.std.proofs.Common.{arith, ap, sym, ◌∙◌, subst}
use Rattle.dr_pred.specs.Group.{IsOfShape}
use Rattle.dr_rows.specs.Words.{Words, begun, looked, with_own}
use Rattle.dr_tests.proofs.Watches.{pair_of_shape}
use Rattle.dr_tests.proofs.base.watches.rows_with.Goals as goal

pub returns : goal.returns
returns c =
    let s = c.args.shape.now in
    let began = c.in_ok-rows.ensures.begun ∙ ap (λ k. begun s.members k 0) c.columns.ensures in
    let set = c.set_own.ensures.after ∙ ap (λ (w : Words). with_own w c.args.column c.args.one) began in
    let both = c.look.ensures.after ∙ ap (λ (w : Words). looked w 1 c.args.column c.args.other) set in
    subst (IsOfShape s) (sym both) (pair_of_shape s c.args.column c.args.one c.args.other
    (omega (arith, c.requires.members)) (omega (arith, c.requires.members))
    (omega (arith, c.requires.members, c.requires.window)) c.requires.column c.requires.one c.requires.other)
