use Rattle.std.proofs.Common.{◌≡◌, All, take}
use Rattle.dr_script.specs.Ranges.{HasFaultRanges}
use Rattle.dr_tools.specs.Crashes.{crashes_by}
use Rattle.dr_tools.proofs.sweeps.crashes.crashes_by.Given as goal

abbrev pub invariant-loop-behind : goal.invariant-loop-behind
invariant-loop-behind l = (l.crashes.items ≡ crashes_by l.member l.script.turns (take l.behind l.points))
    × All (HasFaultRanges l.script) l.crashes.items
