use Rattle.std.proofs.Common.{◌≡◌, ℕ}
use Rattle.dr_entry.specs.declared.record.AgeVote.{AgeVote}
use Rattle.dr_quorum.proofs.Knowing.{all_known, more_aged, none_known}
use Rattle.dr_quorum.proofs.ages.latest_age_vote.Goals as goal

pub loop-vote-init : goal.loop-vote-init
loop-vote-init c = none_known (λ (x : AgeVote) (a : ℕ). x.age ≡ a)

pub loop-vote-preserved : goal.loop-vote-preserved
loop-vote-preserved c =
    more_aged (λ (x : AgeVote). x.age) c.args.votes.now c.loop-vote.vote-index _ c.loop-vote.best c.later-best.result
    c.loop-vote-test.true c.loop-vote.invariant c.later-best.ensures

pub returns : goal.returns
returns c = all_known (λ (x : AgeVote) (a : ℕ). x.age ≡ a) c.args.votes.now c.loop-vote.vote-index c.loop-vote.best
    c.loop-vote-test.false c.loop-vote.invariant
