use Rattle.std.proofs.Common.{ℕ, ◌∙◌, List, false, subst, true}
use Rattle.dr_tools.{specs.Shrinking.EndsUnder, proofs.Lessening.lesser_under}
use Rattle.dr_tools.proofs.sweeps.lessening.with_limit.Goals as goal

pub returns-then-ends_so-clause-ends : goal.returns-then-ends_so-clause-ends
returns-then-ends_so-clause-ends g c =
    let Ends = EndsUnder c.args.script.now c.args.late c.args.wanted.now in
    lesser_under c.args.script.now c.args.late c.args.wanted.now c.args.limits.now c.in_ok-less.less.items c.args.place
    c.args.limit c.in_ok-less.ensures c.requires.place c.requires.lesser
    (subst (λ (limits : List ℕ). Ends limits true) c.as_slice.ensures.value
    (subst (Ends c.as_slice.result.now) c.if-ends_so.true c.in_ok-ends_so.ensures.ends))

pub returns-else-ends_so-clause-ends : goal.returns-else-ends_so-clause-ends
returns-else-ends_so-clause-ends g c =
    let Ends = EndsUnder c.args.script.now c.args.late c.args.wanted.now in
    subst (λ (limits : List ℕ). Ends limits false) (c.as_slice.ensures.value ∙ c.in_ok-less.ensures)
    (subst (Ends c.as_slice.result.now) c.if-ends_so.false c.in_ok-ends_so.ensures.ends)
