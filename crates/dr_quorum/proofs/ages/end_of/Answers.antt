use Rattle.std.proofs.Common.{sym, ap, ◌∙◌, subst, None, Some}
use Rattle.dr_history.specs.History.{view_of}
use Rattle.dr_restart.specs.Choosing.{EndsInAge}
use Rattle.dr_quorum.{specs.Knowing.IsGreatestAge, proofs.Knowing.end_known}
use Rattle.dr_quorum.proofs.ages.end_of.Goals as goal

pub returns-in-Some : goal.returns-in-Some
returns-in-Some c = subst (λ a. IsGreatestAge (EndsInAge c.args.log.now) (Some a)) (sym c.age.ensures)
    (end_known c.args.log.now (Some c.in-Some.view) (c.in-Some.ensures ∙ ap view_of c.entries.ensures))

pub returns-in-None : goal.returns-in-None
returns-in-None c = end_known c.args.log.now None (c.in-None.ensures ∙ ap view_of c.entries.ensures)
