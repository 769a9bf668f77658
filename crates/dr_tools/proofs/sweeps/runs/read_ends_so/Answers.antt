use Rattle.std.proofs.{Common.{inl, inr, refl, subst}, lemmas.Result.IfOk-weaker}
use Rattle.dr_ages.specs.{Ages.HaveSomebodyPrompt, declared.part.Part.Part}
use Rattle.dr_outcome.specs.Outcome.{AreAllLate}
use Rattle.dr_tools.proofs.sweeps.runs.read_ends_so.Goals as goal

pub ends_so-requires-clause-some : goal.ends_so-requires-clause-some
ends_so-requires-clause-some g c κs h =
    subst (λ (p : Part). HaveSomebodyPrompt c.args.script.now p) c.with_late.ensures c.if-are_all_late.ensures

pub returns-then-are_all_late-clause-outcome : goal.returns-then-are_all_late-clause-outcome
returns-then-are_all_late-clause-outcome g c =
    inr (subst (λ (p : Part). AreAllLate c.args.script.now p) c.with_late.ensures c.if-are_all_late.ensures, refl)

pub returns-clause-outcome : goal.returns-clause-outcome
returns-clause-outcome g c = IfOk-weaker c.ends_so.result _ _ (λ shows ends. inl ends) c.ends_so.ensures.outcome
