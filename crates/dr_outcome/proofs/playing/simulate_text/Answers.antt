use Rattle.std.proofs.Common.{◌≡◌, Err, ap, inl, inr, subst, sym}
use Rattle.dr_script.specs.{Reading.{Reading, reading_of}, declared.script.Script.Script}
use Rattle.dr_outcome.specs.{Outcome.{OfScript, WasPlayedOrNot}, Playing.simulated, declared.outcome.Outcome.Outcome}
use Rattle.dr_outcome.proofs.Due.{play_done, refused_of}
use Rattle.dr_outcome.proofs.playing.simulate_text.Goals as goal

pub returns-in-Ok : goal.returns-in-Ok
returns-in-Ok g c = λ yard. elim (c.simulate.ensures.played yard) [
  | inl wanting ↦ inl wanting
  | inr played ↦ inr (play_done simulated c.args.bytes.now yard yard c.simulate.result
      (subst (λ (r : Reading). OfScript
      (λ (script : Script) (o : Outcome). WasPlayedOrNot simulated script yard yard o)
      r yard yard c.simulate.result) (sym c.in-Ok.ensures.script) (inl (played, c.simulate.ensures.body))))
]

pub returns-in-Err : goal.returns-in-Err
returns-in-Err g c = λ yard.
    elim (refused_of
    (λ (script : Script) (o : Outcome). WasPlayedOrNot simulated script yard yard o) yard yard c.without_ages.result c.in-Err.line (reading_of c.args.bytes.now)
    (λ l is. c.in-Err.ensures.refusal l (ap Err is)) (c.without_ages.ensures.alone yard)) [
      | inl wanting ↦ inl wanting
      | inr plays ↦ inr (play_done simulated c.args.bytes.now yard yard c.without_ages.result plays)
    ]
