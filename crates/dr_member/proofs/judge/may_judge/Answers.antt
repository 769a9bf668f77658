use Rattle.std.{specs.Prelude.Some, proofs.Common.{refl, sym, ap, ◌∙◌}}
use Rattle.dr_program.{specs.Acts.may, proofs.RunningPrograms.{judged_as, unjudged}}
use Rattle.dr_member.specs.Search.{standing}
use Rattle.dr_member.proofs.judge.may_judge.Goals as goal

pub returns-in-Some : goal.returns-in-Some
returns-in-Some c = λ place. c.may.ensures ∙ ap (may c.args.replica.now)
    (judged_as (standing c.args.replica.now c.args.fate.now place) (Some c.in-Some.act) _
    (sym c.in-Some.is ∙ c.judgement.ensures place) refl)

pub returns-in-None : goal.returns-in-None
returns-in-None c = λ place. sym
    (unjudged (standing c.args.replica.now c.args.fate.now place) (sym (c.judgement.ensures place) ∙ c.in-None.is))
