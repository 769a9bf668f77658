use Rattle.std.proofs.Common.{IfOk, subst}
use Rattle.dr_json.specs.Json.{script_json}
use Rattle.dr_script.specs.declared.script.Script.{Script}
use Rattle.dr_tools.specs.Outcomes.{TextEndsSo}
use Rattle.dr_tools.proofs.sweeps.lessening.ends_under.Goals as goal

pub returns-clause-ends : goal.returns-clause-ends
returns-clause-ends g c = subst (λ (s : Script). IfOk c.whole_ends_so.result
    (TextEndsSo (script_json s) c.args.late c.args.wanted.now)) c.in_ok-fewer.ensures c.whole_ends_so.ensures.ends
