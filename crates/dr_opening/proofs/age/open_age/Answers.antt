use Rattle.dr_quorum.specs.Handing.{handed_by}
use Rattle.dr_opening.specs.Lists.{all_as_lists, contents_of}
use Rattle.dr_opening.proofs.Choosing.{chosen_group, chosen_short, chosen_some}
use Rattle.dr_opening.proofs.age.open_age.Goals as goal

pub open_logs-requires-clause-valid : goal.open_logs-requires-clause-valid
open_logs-requires-clause-valid g c κs h =
    c.chosen_entries_are_valid.ensures c.args.script.now (handed_by (all_as_lists (contents_of c.args.logs.now)))
    c.in-Ok.start c.requires.ranges c.in-Ok.ensures.chosen.chosen

pub open_logs-requires-clause-short : goal.open_logs-requires-clause-short
open_logs-requires-clause-short g c κs h =
    chosen_short c.args.script.now (contents_of c.args.logs.now) c.in-Ok.start c.requires.ranges c.in-Ok.ensures.chosen

pub open_logs-requires-clause-some : goal.open_logs-requires-clause-some
open_logs-requires-clause-some g c κs h =
    chosen_some c.args.script.now (contents_of c.args.logs.now) c.in-Ok.start c.requires.ranges c.in-Ok.ensures.chosen

pub returns-in-Ok-open_logs-clause-group : goal.returns-in-Ok-open_logs-clause-group
returns-in-Ok-open_logs-clause-group g c =
    chosen_group c.args.script.now (contents_of c.args.logs.now) c.in-Ok.start c.requires.ranges c.in-Ok.ensures.chosen
