use Rattle.std.proofs.Common.{◌∙◌, sym, true, false}
use Rattle.dr_restart.specs.Choosing.{names_next}
use Rattle.dr_quorum.proofs.{Votes.highest-at, path.best_among.Goals.{then-names_next, else-names_next}}
use Rattle.dr_quorum.proofs.path.best_among.Goals as goal

pub loop-vote-preserved : goal.loop-vote-preserved
loop-vote-preserved c before h =
    let names = names_next c.args.roster c.args.age c.args.view c.args.members in
    elim c.if-names_next.branch [
      | then-names_next w ↦ w.best-is ∙ (w.better-best.ensures
          ∙ highest-at names before c.args.votes.now c.loop-vote.vote-index _ true c.loop-vote.best
          c.loop-vote-test.true (sym c.names_next.ensures ∙ w.if-names_next.true) (c.loop-vote.invariant before h))
      | else-names_next w ↦ w.best-is ∙ highest-at names before c.args.votes.now c.loop-vote.vote-index _ false
          c.loop-vote.best c.loop-vote-test.true (sym c.names_next.ensures ∙ w.if-names_next.false)
          (c.loop-vote.invariant before h)
    ]
