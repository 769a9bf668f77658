use Rattle.std.proofs.Common.{◌-◌, vec_len}
use Rattle.dr_intake.proofs.Steps.{ReadsSoFar}
use Rattle.dr_intake.proofs.reading.read_all.Given as goal

abbrev pub invariant-loop-buffer : goal.invariant-loop-buffer
invariant-loop-buffer g l = ReadsSoFar l.limit (g.S.Source.left l.initial.source) (g.S.Source.left l.source)
    (g.S.Source.faults l.initial.source) (g.S.Source.faults l.source) l.bytes.items

abbrev pub decreases-loop-buffer : goal.decreases-loop-buffer
decreases-loop-buffer g l = l.limit - vec_len l.bytes
