use Rattle.dr_disk.proofs.Filling.{IsReplayedTo}
use Rattle.dr_disk.proofs.kept.Kept.crashed.Given as goal

abbrev pub invariant-loop-step : goal.invariant-loop-step
invariant-loop-step l =
    IsReplayedTo l.fill l.step-items l.self-inside.text.items l.from l.step-index l.now.items l.image.items
