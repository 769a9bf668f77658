use Rattle.std.proofs.Common.{Err, ap, inl, inr, subst, sym}
use Rattle.dr_outcome.{specs.{Outcome.OfScript, declared.outcome.Outcome.Outcome}, proofs.Due.refused_of}
use Rattle.dr_script.specs.{Reading.{Reading, reading_of}, declared.script.Script.Script}
use Rattle.dr_commands.{specs.Live.OfPlan, proofs.LiveOutcome.live_done}
use Rattle.dr_commands.proofs.live.running.run_lived.Goals as goal

pub returns-in-Ok : goal.returns-in-Ok
returns-in-Ok g c = λ yard.
    let rounds = c.args.rounds.now in
    elim (c.run_script.ensures yard) [
      | inl wanting ↦ inl wanting
      | inr comes ↦ inr (live_done rounds c.args.bytes.now yard c.run_script.result
          (subst (λ (r : Reading). OfScript (λ (script : Script) (o : Outcome). OfPlan rounds script yard yard o) r
          yard yard c.run_script.result) (sym c.in-Ok.ensures.script) comes))
    ]

pub returns-in-Err : goal.returns-in-Err
returns-in-Err g c = λ yard.
    let rounds = c.args.rounds.now in
    elim (refused_of (λ (script : Script) (o : Outcome). OfPlan rounds script yard yard o)
    yard yard c.without_ages.result c.in-Err.line (reading_of c.args.bytes.now)
    (λ l is. c.in-Err.ensures.refusal l (ap Err is)) (c.without_ages.ensures.alone yard)) [
      | inl wanting ↦ inl wanting
      | inr comes ↦ inr (live_done rounds c.args.bytes.now yard c.without_ages.result comes)
    ]
