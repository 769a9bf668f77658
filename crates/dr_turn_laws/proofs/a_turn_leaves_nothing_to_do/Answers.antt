use Rattle.dr_turn_laws.proofs.{Acts.asks, Turning.takes_turn}
use Rattle.dr_turn_laws.proofs.a_turn_leaves_nothing_to_do.Goals as goal

pub returns-clause-turned : goal.returns-clause-turned
returns-clause-turned c = takes_turn

pub returns-clause-none_may_come : goal.returns-clause-none_may_come
returns-clause-none_may_come c g w m s rested work can =
    rested.idle s work (asks g w m s (λ idle. absurd (cc (work, idle))) can)
