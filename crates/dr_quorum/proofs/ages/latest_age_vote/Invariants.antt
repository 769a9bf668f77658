use Rattle.std.proofs.Common.{◌≡◌, take}
use Rattle.dr_entry.specs.declared.record.AgeVote.{AgeVote}
use Rattle.dr_quorum.{specs.Knowing.IsGreatestAge, proofs.Knowing.OfSome}
use Rattle.dr_quorum.proofs.ages.latest_age_vote.Given as goal

abbrev pub invariant-loop-vote : goal.invariant-loop-vote
invariant-loop-vote l = IsGreatestAge (OfSome (λ (x : AgeVote) a. x.age ≡ a) (take l.vote-index l.votes)) l.best
