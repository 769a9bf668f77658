use Rattle.dr_history.proofs.FrontLemmas.{IsFront-first_least}
use Rattle.dr_order.proofs.front.Goals as goal

pub returns : goal.returns
returns c = rw c.from.ensures
    (IsFront-first_least c.args.counts.now c.first_least-rank.result c.requires.some c.first_least-rank.ensures)
