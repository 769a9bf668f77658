use Rattle.dr_complete.specs.Enough.{turns_enough}
use Rattle.dr_tools.{specs.Turns.calm_group, proofs.Calm.taken_by}
use Rattle.dr_tools.proofs.explaining.turns.turns_taken.Goals as goal

pub returns : goal.returns
returns c = taken_by c.fewest.result (calm_group c.args.script) c.calm_script-calm.result (turns_enough c.args.script)
    c.calm_script-calm.ensures.calm c.fewest.ensures
