use Rattle.std.proofs.Common.{◌≡◌, ◌-◌, ◌<◌, ◌≤◌, ℕ, true, false}
use Rattle.dr_tools.specs.Turns.{EndDone, with_turns}
use Rattle.dr_tools.proofs.explaining.turns.fewest.Given as goal

abbrev pub invariant-loop-enough : goal.invariant-loop-enough
invariant-loop-enough l = ((turns : ℕ) × (l.script ≡ with_turns l.initial.script turns))
    × (l.few < l.enough) × (l.enough ≤ l.initial.script.turns) × EndDone (with_turns l.initial.script l.enough) true
    × (0 < l.few → EndDone (with_turns l.initial.script l.few) false)

abbrev pub decreases-loop-enough : goal.decreases-loop-enough
decreases-loop-enough l = l.enough - l.few
