use Rattle.std.proofs.Common.{◌≡◌, Err, ap, inl, inr, subst, sym}
use Rattle.dr_script.specs.{Reading.{Reading, reading_of}, declared.script.Script.Script}
use Rattle.dr_yard.specs.Yards.{state_by}
use Rattle.dr_outcome.specs.{Outcome.{OfScript, WasPlayedOrNot}, declared.outcome.Outcome.Outcome}
use Rattle.dr_outcome.proofs.Due.{play_done, refused_of}
use Rattle.dr_outcome.proofs.playing.play_text.Goals as goal

pub returns-in-Ok-clause-done : goal.returns-in-Ok-clause-done
returns-in-Ok-clause-done g c =
    let before = state_by g.Y.Yard.told g.Y.Yard.faults c.args.yard.now in
    let after = state_by g.Y.Yard.told g.Y.Yard.faults c.play_script.new.yard in
    elim c.play_script.ensures.played [
      | inl wanting ↦ inl wanting
      | inr played ↦ inr (play_done c.args.play.now c.args.bytes.now before after c.play_script.result
          (subst (λ (r : Reading). OfScript
          (λ (script : Script) (o : Outcome). WasPlayedOrNot c.args.play.now script before after o)
          r before after c.play_script.result) (sym c.in-Ok.ensures.script) played))
    ]

pub returns-in-Err-clause-done : goal.returns-in-Err-clause-done
returns-in-Err-clause-done g c =
    let yard = state_by g.Y.Yard.told g.Y.Yard.faults c.args.yard.now in
    elim (refused_of
    (λ (script : Script) (o : Outcome). WasPlayedOrNot c.args.play.now script yard yard o) yard yard c.without_ages.result c.in-Err.line (reading_of c.args.bytes.now)
    (λ l is. c.in-Err.ensures.refusal l (ap Err is)) (c.without_ages.ensures.alone yard)) [
      | inl wanting ↦ inl wanting
      | inr plays ↦ inr (play_done c.args.play.now c.args.bytes.now yard yard c.without_ages.result plays)
    ]
