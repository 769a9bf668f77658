use Rattle.std.proofs.Common.{Bool, List, subst}
use Rattle.dr_json.specs.Json.{script_json}
use Rattle.dr_tools.specs.{Outcomes.TextEndsSo, Parts.kept_parts, Shrinking.EndsSoWith}
use Rattle.dr_tools.proofs.sweeps.shrinking.without_piece.Goals as goal

pub returns-then-ends_so-clause-ends : goal.returns-then-ends_so-clause-ends
returns-then-ends_so-clause-ends g c =
    subst (λ (keeps : List Bool). EndsSoWith c.args.script.now c.args.late c.args.wanted.now keeps)
    c.as_slice-4.ensures.value
    (subst (TextEndsSo (script_json (kept_parts c.as_slice-4.result.now c.args.script.now)) c.args.late c.args.wanted.now)
    c.if-ends_so.true c.in_ok-ends_so.ensures.ends)

pub returns-clause-ends : goal.returns-clause-ends
returns-clause-ends g c = c.requires
