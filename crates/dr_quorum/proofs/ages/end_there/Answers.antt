use Rattle.std.proofs.Common.{sym, subst, None}
use Rattle.dr_restart.specs.Choosing.{EndsInAge}
use Rattle.dr_quorum.{specs.Knowing.{IsGreatestAge, OfLog}, proofs.Knowing.nothing_known}
use Rattle.dr_quorum.proofs.ages.end_there.Goals as goal

pub returns-in-Some : goal.returns-in-Some
returns-in-Some c = subst (λ o. IsGreatestAge (OfLog EndsInAge o) c.end_of.result) (sym c.in-Some.is) c.end_of.ensures

pub returns-in-None : goal.returns-in-None
returns-in-None c = subst (λ o. IsGreatestAge (OfLog EndsInAge o) None) (sym c.in-None.is) (nothing_known EndsInAge)
