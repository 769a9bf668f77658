use Rattle.std.proofs.Common.{List, ℕ, ◌∙◌, subst, sym, true}
use Rattle.dr_json.specs.Json.{script_json}
use Rattle.dr_progress.proofs.Besides.{waits_both}
use Rattle.dr_script.specs.declared.script.Script.{Script}
use Rattle.dr_tools.specs.{Limits.limited, Outcomes.TextEndsSo, Shrinking.{AreLeast, EndsUnder}}
use Rattle.dr_tools.proofs.Lessening.{least_left, left_whole}
use Rattle.dr_tools.proofs.sweeps.lessening.least_limits.Goals as goal

pub lessened-requires-after_bounds : goal.lessened-requires-after_bounds
lessened-requires-after_bounds g c κs within =
    subst (λ (limits : List ℕ). EndsUnder c.args.script.now c.args.late c.args.wanted.now limits true)
    (sym c.in_ok-whole.ensures) (subst (λ (s : Script). TextEndsSo (script_json s) c.args.late c.args.wanted.now true)
    (sym (left_whole c.args.script.now)) c.requires)

pub returns-clause-least : goal.returns-clause-least
returns-clause-least g c = subst (AreLeast c.args.script.now c.args.late c.args.wanted.now) c.as_slice.ensures.value
    (least_left c.args.script.now c.args.late c.args.wanted.now c.as_slice.result.now _ c.in_ok-less.field-0
    c.in_default.not-Some c.in_ok-less.ensures.ends)
