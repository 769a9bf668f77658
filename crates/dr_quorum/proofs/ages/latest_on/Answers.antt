use Rattle.dr_quorum.proofs.Knowing.{log_known}
use Rattle.dr_quorum.proofs.ages.latest_on.Goals as goal

pub returns : goal.returns
returns c = log_known c.args.log.now c.entries.result.now c.votes.result.now c.age_votes.result.now
    c.latest_view.result c.latest_vote.result c.latest_age_vote.result c.later-voted.result c.later.result
    c.entries.ensures c.votes.ensures c.age_votes.ensures c.latest_view.ensures c.latest_vote.ensures
    c.latest_age_vote.ensures c.later-voted.ensures c.later.ensures
