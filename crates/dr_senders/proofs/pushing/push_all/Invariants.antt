use Rattle.std.proofs.Common.{◌≡◌, ◌≤◌, ◌++◌, length}
use Rattle.rtrb.specs.Ring.{SameProducer, known_free, sent}
use Rattle.dr_senders.proofs.pushing.push_all.Given as goal

abbrev pub invariant-loop-message : goal.invariant-loop-message
invariant-loop-message g l = SameProducer l.fn.producer l.producer × (sent l.producer
    ++ g.A.App.left l.app ≡ g.A.App.left l.fn.app) × (length (g.A.App.left l.app) ≤ known_free l.producer)

abbrev pub decreases-loop-message : goal.decreases-loop-message
decreases-loop-message g l = length (g.A.App.left l.app)
