use Rattle.std.proofs.Common.{◌⊎◌, None, subst, sym}
use Rattle.dr_outcome.specs.Outcome.{HasDone, SaysOnly}
use Rattle.dr_yard.specs.Yards.{state_by}
use Rattle.dr_commands.specs.{Outcome.Does, Words.ends_of, declared.words.Command.Command}
use Rattle.dr_commands.proofs.outcome.do_command.Goals as goal

pub returns-in-Drill-clause-done : goal.returns-in-Drill-clause-done
returns-in-Drill-clause-done g c =
    let yard = state_by g.Y.Yard.told g.Y.Yard.faults c.args.yard.now in
    let o = c.run_drill.result in
    subst (λ (k : Command). SaysOnly None yard yard o ⊎ HasDone (Does k c.args.bytes.now) (ends_of k) yard yard o)
    (sym c.in-Drill.is) (c.run_drill.ensures yard c.args.bytes.now)
