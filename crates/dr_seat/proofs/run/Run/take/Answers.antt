use Rattle.std.proofs.Common.{◌≡◌, None, below_more, subst, ℕ}
use Rattle.dr_seat.specs.Words.{judged, place_at, word_at}
use Rattle.dr_seat.proofs.run.Run.take.Goals as goal

pub loop-k-preserved : goal.loop-k-preserved
loop-k-preserved c = below_more
    (λ (k : ℕ). judged c.args.self.now.door c.args.from (place_at c.args.words.now k)
    (word_at c.args.words.now k) ≡ None)
    c.loop-k.k c.loop-k.invariant
    (subst (λ (place : ℕ). judged c.args.self.now.door c.args.from place (word_at c.args.words.now c.loop-k.k) ≡ None)
    c.word_at-index.ensures.place
    (subst (λ (word : ℕ). judged c.args.self.now.door c.args.from c.word_at-index.result.0 word ≡ None)
    c.word_at-index.ensures.word c.in_ok-judge.ensures.fit))
