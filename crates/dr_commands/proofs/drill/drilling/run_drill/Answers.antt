use Rattle.std.proofs.Common.{◌⊎◌, ◌∙◌, None, ap, inl, subst, sym}
use Rattle.dr_outcome.specs.{Outcome.{HasDone, HasPlayed, SaysOnly}, Playing.simulated}
use Rattle.dr_outcome.specs.declared.outcome.Outcome.{Outcome}
use Rattle.dr_script.specs.declared.script.Script.{Script}
use Rattle.dr_commands.{specs.{Drill.{Drills, drill_ends}, DrillLines.drill_text}, proofs.DrillOutcome.drill_said}
use Rattle.dr_commands.proofs.drill.drilling.run_drill.Goals as goal

pub returns-in-Ok-text_of : goal.returns-in-Ok-text_of
returns-in-Ok-text_of g c = λ yard bytes.
    subst (λ (o : Outcome). SaysOnly None yard yard o ⊎ HasDone (Drills c.args.number bytes) drill_ends yard yard o)
    (sym c.saying.ensures) (drill_said c.args.number bytes yard c.simulate-outcome.result c.in-Ok-text_of.text
    (c.in-Ok-text_of.ensures ∙ ap (drill_text c.args.number) c.as_slice.ensures)
    (subst (λ (s : Script). SaysOnly None yard yard c.simulate-outcome.result
    ⊎ HasPlayed simulated s yard yard c.simulate-outcome.result) c.in-Ok.ensures.script
    (c.simulate-outcome.ensures.played yard)))

pub returns-in_default : goal.returns-in_default
returns-in_default g c = λ yard bytes. inl (c.without_ages.ensures.alone yard)

pub returns : goal.returns
returns g c = λ yard bytes. inl (c.without_ages-in-Err.ensures.alone yard)
