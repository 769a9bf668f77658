use Rattle.std.proofs.Common.{◌≡◌, take}
use Rattle.dr_entry.specs.declared.record.Vote.{Vote}
use Rattle.dr_quorum.{specs.Knowing.IsGreatestAge, proofs.Knowing.OfSome}
use Rattle.dr_quorum.proofs.ages.latest_vote.Given as goal

abbrev pub invariant-loop-vote : goal.invariant-loop-vote
invariant-loop-vote l = IsGreatestAge (OfSome (λ (x : Vote) a. x.age ≡ a) (take l.vote-index l.votes)) l.best
