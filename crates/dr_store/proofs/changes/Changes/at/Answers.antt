use Rattle.std.{specs.Prelude.Some, proofs.Common.{◌-◌, get_or, ap, sym, ◌∙◌, arith}}
use Rattle.dr_store.proofs.Givens.{given-none, given-counted}
use Rattle.dr_store.proofs.changes.Changes.at.Goals as goal

pub returns-then-count-eq0-clause-value : goal.returns-then-count-eq0-clause-value
returns-then-count-eq0-clause-value c = sym (given-none c.args.version c.args.self.now
    (λ k d low high. c.count_to-count.ensures.parted.1 k d (omega (arith, c.if-count-eq0.true)) high))

pub returns-in-Some-clause-value : goal.returns-in-Some-clause-value
returns-in-Some-clause-value c =
    let n = c.count_to-count.result in let d = c.index.result.now in
    let e = given-counted c.args.version c.args.self.now n d c.count_to-count.ensures.bound
    c.if-count-eq0.false c.count_to-count.ensures.parted (c.index.ensures
    ∙ ap (λ xs. get_or xs (n - 1) d) c.self.view_is) in
    ap Some c.bytes.ensures.same ∙ sym c.in-Some.is ∙ sym e

pub returns-in-None-clause-value : goal.returns-in-None-clause-value
returns-in-None-clause-value c =
    let n = c.count_to-count.result in let d = c.index.result.now in
    let e = given-counted c.args.version c.args.self.now n d c.count_to-count.ensures.bound
    c.if-count-eq0.false c.count_to-count.ensures.parted (c.index.ensures
    ∙ ap (λ xs. get_or xs (n - 1) d) c.self.view_is) in
    sym c.in-None.is ∙ sym e
