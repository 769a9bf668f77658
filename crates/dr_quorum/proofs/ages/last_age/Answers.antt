use Rattle.dr_quorum.{specs.Handing.handed_by, proofs.Knowing.{last_if_none, last_if_some}}
use Rattle.dr_quorum.proofs.ages.last_age.Goals as goal

pub returns-clause-some : goal.returns-clause-some
returns-clause-some c = last_if_some (handed_by c.args.lists.now) c.latest_end.result c.latest_end.ensures

pub returns-clause-none : goal.returns-clause-none
returns-clause-none c = last_if_none (handed_by c.args.lists.now) c.latest_end.result c.latest_end.ensures
