use Rattle.dr_progress.proofs.Besides.{next_waits, waits_both}
use Rattle.dr_progress.proofs.watching.watch_next_with_progress.Goals as goal

pub returns-clause-waits : goal.returns-clause-waits
returns-clause-waits g c = waits_both c.args.progress.now c.go_on.new.self c.watch_beside.new.progress
    (next_waits c.args.progress.now c.go_on.new.self c.go_on.ensures) c.watch_beside.ensures.waits
