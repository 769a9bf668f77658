use Rattle.std.proofs.Common.{Bool, IfOk, List, ap, string_bytes, subst, sym, rules, true, ◌∙◌}
use Rattle.dr_json.specs.Json.{script_json}
use Rattle.dr_progress.proofs.Besides.{counted_waits, waits_both}
use Rattle.dr_script.specs.declared.script.Script.{Script}
use Rattle.dr_tools.{specs.{Outcomes.TextEndsSo, Parts.kept_parts, Shrinking.IsLess}, proofs.Lessening.least_text}
use Rattle.dr_tools.proofs.Whole.{all_parts_kept, smaller_if}
use Rattle.dr_tools.proofs.sweeps.shrinking.less.Goals as goal

pub fewest_parts-requires-after_bounds : goal.fewest_parts-requires-after_bounds
fewest_parts-requires-after_bounds g c κs within =
    subst (λ (s : Script). TextEndsSo (script_json s) c.args.late c.args.wanted.now true)
    (sym (all_parts_kept c.in_ok-all.all.items c.args.script.now c.in_ok-all.ensures)) c.requires

pub least_limits-requires-after_bounds : goal.least_limits-requires-after_bounds
least_limits-requires-after_bounds g c κs within =
    subst (λ (s : Script). TextEndsSo (script_json s) c.args.late c.args.wanted.now true)
    (sym (c.in_ok-fewer.ensures ∙ ap (λ (keeps : List Bool). kept_parts keeps c.args.script.now) c.as_slice.ensures.value))
    c.in_ok-keeps.ensures.ends

pub returns-then-least-clause-ends : goal.returns-then-least-clause-ends
returns-then-least-clause-ends g c = subst (λ (least : Bool). IfOk c.text_of.result
    (λ text. IsLess least c.args.script.now c.args.late c.args.wanted.now (string_bytes text))) (sym c.if-least.true)
    (least_text c.text_of.result c.args.script.now c.in_ok-fewer.fewer c.in_ok-cut.cut c.args.late c.args.wanted.now
    c.as_slice.result.now c.in_ok-limits.limits.items c.as_slice-then-least.result.now c.as_slice-then-least.ensures.value
    c.in_ok-fewer.ensures c.in_ok-cut.ensures c.in_ok-limits.ensures.ends c.in_ok-limits.ensures.least
    c.text_of.ensures)

pub returns-then-least-clause-waits : goal.returns-then-least-clause-waits
returns-then-least-clause-waits g c = waits_both c.args.progress.now c.count.new.self c.least_limits.new.progress
    (counted_waits c.args.progress.now c.count.new.self 0 (search rules))
    (waits_both c.count.new.self c.fewest_parts.new.progress c.least_limits.new.progress c.fewest_parts.ensures.waits
    c.least_limits.ensures.waits)

pub returns-clause-ends : goal.returns-clause-ends
returns-clause-ends g c = subst (λ (least : Bool). IfOk c.text_of-2.result
    (λ text. IsLess least c.args.script.now c.args.late c.args.wanted.now (string_bytes text))) (sym c.if-least.false)
    (smaller_if c.text_of-2.result c.args.script.now c.in_ok-fewer.fewer c.args.late c.args.wanted.now
    c.in_ok-keeps.keeps.items c.as_slice.result.now c.as_slice.ensures.value c.in_ok-fewer.ensures
    c.in_ok-keeps.ensures.ends c.text_of-2.ensures)

pub returns-clause-waits : goal.returns-clause-waits
returns-clause-waits g c = waits_both c.args.progress.now c.count.new.self c.fewest_parts.new.progress
    (counted_waits c.args.progress.now c.count.new.self 0 (search rules)) c.fewest_parts.ensures.waits
