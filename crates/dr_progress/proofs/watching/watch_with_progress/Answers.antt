use Rattle.dr_progress.proofs.Besides.{quiet}
use Rattle.dr_progress.proofs.watching.watch_with_progress.Goals as goal

pub returns-clause-quiet : goal.returns-clause-quiet
returns-clause-quiet g c = quiet c.args.progress.now c.begin.new.self c.watch_beside-outcome.new.progress c.end.new.self
    c.begin.ensures c.watch_beside-outcome.ensures.waits c.end.ensures
