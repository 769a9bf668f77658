use Rattle.std.proofs.Common.{ap, refl, ◌∙◌, rules}
use Rattle.dr_log.{specs.State.LogState, proofs.Told.images_still}
use Rattle.dr_log.proofs.log.Log.reserve.Goals as goal

pub returns-in_err-calls-clause-safe : goal.returns-in_err-calls-clause-safe
returns-in_err-calls-clause-safe g c = λ whole. images_still _ _ _ _
    (c.self.invariant.settled (ap (λ (s : LogState g.row.D.Denot). s.failed) c.self.view_is ∙ whole))
    (search rules) (search rules)

pub returns-in_err-reserve-clause-safe : goal.returns-in_err-reserve-clause-safe
returns-in_err-reserve-clause-safe g c = λ whole. images_still _ _ _ _
    (c.self.invariant.settled (ap (λ (s : LogState g.row.D.Denot). s.failed) c.self.view_is ∙ whole))
    refl (search rules)

pub returns-in_err-reserve-2-clause-safe : goal.returns-in_err-reserve-2-clause-safe
returns-in_err-reserve-2-clause-safe g c = λ whole. images_still _ _ _ _
    (c.self.invariant.settled (ap (λ (s : LogState g.row.D.Denot). s.failed) c.self.view_is ∙ whole))
    c.reserve-2.ensures.told (search rules)

pub returns-clause-safe : goal.returns-clause-safe
returns-clause-safe g c = λ whole. images_still _ _ _ _
    (c.self.invariant.settled (ap (λ (s : LogState g.row.D.Denot). s.failed) c.self.view_is ∙ whole))
    c.reserve-2.ensures.told (search rules)
