use Rattle.std.proofs.Common.{◌∙◌, ◌++◌, filter, sym, ap, arith}
use Rattle.dr_restart.specs.Choosing.{highest, names_next}
use Rattle.dr_quorum.proofs.Votes.{all_votes, none_below_zero, votes_below, votes_below-more, votes_below-other}
use Rattle.dr_quorum.proofs.path.best_vote.Goals.{then-has, else-has}
use Rattle.dr_quorum.proofs.path.best_vote.Goals as goal

pub loop-m-init : goal.loop-m-init
loop-m-init c = none_below_zero c.args.lists.now c.args.roster c.args.age c.args.view c.args.members

pub loop-m-preserved : goal.loop-m-preserved
loop-m-preserved c =
    let m = c.loop-m.m in
    let so_far = votes_below c.args.lists.now c.args.roster c.args.age c.args.view c.args.members in
    let names = names_next c.args.roster c.args.age c.args.view c.args.members in
    elim c.if-has.branch [
      | then-has w ↦ w.best-is ∙ (w.best_among-best.ensures (so_far m) c.loop-m.invariant
          ∙ (ap (λ ys. highest (so_far m ++ filter names ys)) w.votes_of.ensures
          ∙ ap highest (sym (votes_below-more c.args.lists.now c.args.roster c.args.age c.args.view c.args.members m
          (grind (arith, w.if-has.true, c.has.ensures))))))
      | else-has w ↦ w.best-is ∙ (c.loop-m.invariant
          ∙ ap highest (sym (votes_below-other c.args.lists.now c.args.roster c.args.age c.args.view c.args.members m
          (grind (arith, w.if-has.false, c.has.ensures)))))
    ]

pub returns : goal.returns
returns c = c.loop-m.invariant
    ∙ all_votes c.args.lists.now c.args.roster c.args.age c.args.view c.args.members c.loop-m.m
    (omega (arith, c.loop-m-test.false, c.loop-m.auto.m-end))
