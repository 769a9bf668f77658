use Rattle.std.proofs.Common.{◌≡◌, ◌<◌, All, List, ℕ, length}
use Rattle.dr_entry.proofs.ListFacts.{joined}
use Rattle.dr_words.proofs.Masks.{with_all}
use Rattle.dr_check.proofs.fields.mask_in.Given as goal

abbrev pub invariant-loop-rest : goal.invariant-loop-rest
invariant-loop-rest l = (ms : List ℕ) → All (λ m. m < 16) ms → l.word ≡ joined ms
    → (ys : List ℕ) × All (λ m. m < 16) ys × (l.rest ≡ joined ys) × (with_all l.mask ys ≡ with_all 0 ms)

abbrev pub decreases-loop-rest : goal.decreases-loop-rest
decreases-loop-rest l = length l.rest
