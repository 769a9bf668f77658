use Rattle.std.{specs.List.range_with_len, proofs.Common.{◌≡◌, ◌++◌, All, map}}
use Rattle.dr_script.specs.Ranges.{HasFaultRanges}
use Rattle.dr_tools.specs.Crashes.{crash_at}
use Rattle.dr_tools.proofs.sweeps.crashes.push_crashes.Given as goal

abbrev pub invariant-loop-push : goal.invariant-loop-push
invariant-loop-push l = (l.crashes.items ≡ l.initial.crashes.items ++ map (crash_at l.member l.script.turns l.behind)
    (range_with_len 0 l.push)) × All (HasFaultRanges l.script) l.crashes.items
