use Rattle.std.{specs.Prelude.{None, Some}, proofs.Common.{sym, refl, ◌∙◌}}
use Rattle.dr_member.{specs.Search.standing, proofs.Judging.judgement_by}
use Rattle.dr_member.proofs.judge.judgement.Goals as goal

pub returns-in-Some-suspicion : goal.returns-in-Some-suspicion
returns-in-Some-suspicion c = λ place.
    sym (judgement_by (standing c.args.replica.now c.args.fate.now place) (Some c.in-Some-suspicion.other) _
    (sym c.named_by.ensures ∙ c.in_default.is) (sym (c.suspicion.ensures place) ∙ c.in-Some-suspicion.is) refl)

pub returns : goal.returns
returns c = λ place. sym (judgement_by (standing c.args.replica.now c.args.fate.now place) None c.minority.result
    (sym c.named_by.ensures ∙ c.in_default.is)
    (sym (c.suspicion.ensures place) ∙ c.in_default-suspicion.is) (sym c.minority.ensures))
