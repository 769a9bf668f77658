use Rattle.std.proofs.Common.{◌-◌, get_or, ap, ◌∙◌, arith}
use Rattle.dr_store.proofs.Givens.{counted, given-from_last, given-behind_counted}
use Rattle.dr_store.proofs.changes.Changes.unneeded.Goals as goal

pub returns-then-is_none-clause-same : goal.returns-then-is_none-clause-same
returns-then-is_none-clause-same c v later =
    let cs = c.args.self.now in let n = c.count_to-count.result in let d = c.index.result.now in
    let e = c.count_to-count.ensures in
    given-behind_counted c.args.below v cs n d later e.bound c.if-count-eq0.false
    (counted c.args.below cs n d e.bound c.if-count-eq0.false e.parted)
    (c.index.ensures ∙ ap (λ xs. get_or xs (n - 1) d) c.self.view_is) c.if-is_none.ensures

pub returns-clause-same : goal.returns-clause-same
returns-clause-same c v later =
    let cs = c.args.self.now in let n = c.count_to-count.result in let d = c.index.result.now in
    let e = c.count_to-count.ensures in
    given-from_last c.args.below v cs (n - 1) d later (omega (arith, e.bound, c.if-count-eq0.false))
    (counted c.args.below cs n d e.bound c.if-count-eq0.false e.parted)
