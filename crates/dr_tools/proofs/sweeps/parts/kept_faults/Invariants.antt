use Rattle.std.proofs.Common.{◌≡◌, take}
use Rattle.dr_tools.specs.Parts.{kept}
use Rattle.dr_tools.proofs.sweeps.parts.kept_faults.Given as goal

abbrev pub invariant-loop-index : goal.invariant-loop-index
invariant-loop-index l = l.out.items ≡ kept l.keeps (take l.index l.faults)
