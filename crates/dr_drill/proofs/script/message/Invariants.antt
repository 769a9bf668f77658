use Rattle.std.proofs.Common.{◌≡◌, ℕ, ◌<◌, get_or, length}
use Rattle.dr_drill.specs.Drill.{letter, state_after}
use Rattle.dr_drill.proofs.script.message.Given as goal

abbrev pub invariant-loop-i : goal.invariant-loop-i
invariant-loop-i l = (l.letters ≡ state_after l.initial.letters l.i) × (length l.bytes ≡ 32)
    × ((k : ℕ) → k < l.i → get_or l.bytes k 0 ≡ letter l.initial.letters k)
