use Rattle.dr_turn_laws.proofs.Acts.{asked, asks}
use Rattle.dr_turn_laws.proofs.what_is_asked_is_the_guard.Goals as goal

pub returns : goal.returns
returns c g w m s may calm = (asked g w m s may calm, asks g w m s (λ end. (may, calm)))
