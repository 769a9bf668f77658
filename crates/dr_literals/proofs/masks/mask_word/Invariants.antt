use Rattle.std.{specs.List.slice_split, proofs.Common.{◌≡◌, ◌==◌, length, drop}}
use Rattle.dr_literals.specs.Literals.{mask_word, with_words}
use Rattle.dr_literals.proofs.masks.mask_word.Given as goal

abbrev pub invariant-loop-number : goal.invariant-loop-number
invariant-loop-number l = mask_word l.word
    ≡ with_words l.mask l.least (drop (length l.yielded) (slice_split (λ byte. byte == 44) l.word))
