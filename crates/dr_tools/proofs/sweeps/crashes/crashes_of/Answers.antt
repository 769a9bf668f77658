use Rattle.std.proofs.{Common.{ℕ, List, ◌∙◌, ap, length}, lemmas.Result.IfOk-weaker}
use Rattle.dr_tools.specs.Crashes.{crashes_by}
use Rattle.dr_tools.proofs.sweeps.crashes.crashes_of.Goals as goal

pub crashes_by-requires-clause-turns : goal.crashes_by-requires-clause-turns
crashes_by-requires-clause-turns g c = ap length c.points.ensures ∙ c.in_ok-counter.ensures.turns

pub returns-clause-crashes : goal.returns-clause-crashes
returns-clause-crashes g c = IfOk-weaker c.crashes_by.result _ _ (λ v all. record {
  points = c.in_ok-counter.counter.points;
  counted = c.in_ok-counter.ensures.counted;
  all = all ∙ ap (λ (points : List ℕ). crashes_by c.args.member c.args.script.now.turns points) c.points.ensures;
}) c.crashes_by.ensures.crashes
