use Rattle.std.proofs.Common.{rules, subst}
use Rattle.dr_complete.specs.Time.{HasTime}
use Rattle.dr_script.specs.Ranges.{HasRanges}
use Rattle.dr_tools.proofs.Calm.{calm_ranges, calm_time}
use Rattle.dr_tools.proofs.explaining.turns.calm_script.Goals as goal

pub returns-clause-ranges : goal.returns-clause-ranges
returns-clause-ranges c = subst HasRanges (search rules) (calm_ranges c.args.script c.requires)

pub returns-clause-time : goal.returns-clause-time
returns-clause-time c = subst HasTime (search rules) (calm_time c.args.script c.requires)
