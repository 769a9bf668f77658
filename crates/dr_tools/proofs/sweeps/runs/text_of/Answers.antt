use Rattle.std.proofs.Common.{◌∙◌, ◌++◌, ap}
use Rattle.dr_json.specs.Json.{script_json}
use Rattle.dr_tools.proofs.sweeps.runs.text_of.Goals as goal

pub returns : goal.returns
returns c = c.in_ok-push_script.ensures ∙ ap (λ t. t ++ script_json c.args.script.now) c.new-text.ensures.bytes
