use Rattle.std.proofs.Common.{subst, sym}
use Rattle.dr_ages.{specs.Ages.HaveSomebodyPrompt, proofs.Prompt.all_prompt}
use Rattle.dr_tests_runs.proofs.suspicions.ended.Goals as goal

pub run_ages-end-requires-clause-some : goal.run_ages-end-requires-clause-some
run_ages-end-requires-clause-some g c κs h =
    subst (HaveSomebodyPrompt c.in_ok-script.script) (sym c.everybody.ensures) (all_prompt c.in_ok-script.script 0)
