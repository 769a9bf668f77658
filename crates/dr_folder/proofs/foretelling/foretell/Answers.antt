use Rattle.std.proofs.Common.{inr, subst, List, Option}
use Rattle.dr_disk.specs.Memory.{CalmState}
use Rattle.dr_log.specs.State.{LogState}
use Rattle.dr_opening.specs.Lists.{contents_of}
use Rattle.dr_folder.specs.Foretold.{AreRefusedBy}
use Rattle.dr_folder.proofs.foretelling.foretell.Goals as goal

pub returns-clause-barred : goal.returns-clause-barred
returns-clause-barred c last is = inr (
  contents_of c.in_ok-logs.logs.items,
  c.in_ok-logs.ensures.taken,
  subst (λ (l : List (Option (LogState CalmState))). AreRefusedBy c.args.script.now last (contents_of l))
      c.as_slice.ensures.value (c.choose_of.ensures.refused last is),
)
