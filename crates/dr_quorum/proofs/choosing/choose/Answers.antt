use Rattle.dr_restart.specs.Groups.{first_group_of}
use Rattle.dr_quorum.{specs.Handing.handed_by, proofs.Exact.{only_memory, only_reason}}
use Rattle.dr_quorum.proofs.choosing.choose.Goals as goal

pub returns-clause-only_memory : goal.returns-clause-only_memory
returns-clause-only_memory c = only_memory (first_group_of c.args.script.now).opening
    (handed_by c.args.lists.now) c.choose_start.result c.choose_start.ensures.refused

pub returns-clause-only_reason : goal.returns-clause-only_reason
returns-clause-only_reason c = only_reason (first_group_of c.args.script.now).opening
    (handed_by c.args.lists.now) c.choose_start.result c.choose_start.ensures.start c.choose_start.ensures.refused
