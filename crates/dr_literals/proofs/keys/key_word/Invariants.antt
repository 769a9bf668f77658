use Rattle.std.{specs.Prelude.option_map, proofs.Common.{◌≡◌, ◌+◌, ◌*◌, ◌++◌, length}}
use Rattle.dr_literals.specs.Literals.{hex_bytes}
use Rattle.dr_literals.proofs.keys.key_word.Given as goal

abbrev pub invariant-loop-left : goal.invariant-loop-left
invariant-loop-left l = (hex_bytes l.word ≡ option_map (λ ys. l.key.items ++ ys) (hex_bytes l.left))
    × (2 * length l.key.items + length l.left ≡ length l.word)

abbrev pub decreases-loop-left : goal.decreases-loop-left
decreases-loop-left l = length l.left
