use Rattle.std.proofs.Common.{◌∙◌, ap, sym, subst, get_or, ◌+◌, ◌^◌, ◌<◌, arith}
use Rattle.dr_member.proofs.Indices.{push_at}
use Rattle.dr_member.proofs.member.Member.push_index.Goals as goal

pub overflow_add-result : goal.overflow_add-result
overflow_add-result c =
    let is = push_at c.args.self.now c.self.inside c.args.to c.args.column c.self.view_is
    c.self.invariant c.requires.to c.requires.column in
    let small = subst (λ i. get_or c.self.inside.bases.pushes i 0 + c.args.column < 2 ^ 64)
    (sym c.from.ensures) is.small in omega (arith, small)

pub returns : goal.returns
returns c =
    let is = push_at c.args.self.now c.self.inside c.args.to c.args.column c.self.view_is
    c.self.invariant c.requires.to c.requires.column in
    let index = ap (λ i. get_or c.self.inside.bases.pushes i 0 + c.args.column) c.from.ensures ∙ is.index in
    record { index = index; within = omega (arith, index, is.within) }
