-- Turns and rounds, one more behind others, and of a program whose members have all ended.
use Rattle.std.{specs.List.range_with_len, proofs.lemmas.List.append_assoc}
use Rattle.std.proofs.Common.{◌≡◌, ◌≢◌, ◌∙◌, subst, ℕ, inl, inr, List, [], ◌∷◌, sym, true≢false, zero, suc, length, ap, refl, ◌+◌, ◌++◌, append-nil}
use Rattle.dr_program.specs.{Program.{AllEnded, Program, Move}, Schedule.{TakeTurns, Rounds, TakesTurn}}
use Rattle.dr_program.proofs.Present.{ended_at}

-- such a program rests
rest_turns : (ms : List ℕ) (p : Program) (es : List Move) (q : Program) → AllEnded p → TakeTurns ms p es q → q ≡ p
rest_turns [] p es q all turns = turns.1
rest_turns (m ∷ ms) p es q all (turn, rest, mid, both, inl over, more) =
    rest_turns ms mid rest q (subst AllEnded (sym over.2) all) more ∙ over.2
rest_turns (m ∷ ms) p es q all (turn, rest, mid, both, inr took, more) =
    absurd (true≢false (sym (ended_at p m all) ∙ took.0))

pub rest_rounds : (k : ℕ) (p : Program) (es : List Move) (q : Program) → AllEnded p → Rounds k p es q → q ≡ p
rest_rounds zero p es q all rounds = rounds.1
rest_rounds (suc k) p es q all (round, rest, mid, both, first, more) =
    let same : mid ≡ p = rest_turns (range_with_len 0 (length p.members)) p round mid all first in
    rest_rounds k mid rest q (subst AllEnded (sym same) all) more ∙ same

pub turns_more : (ms : List ℕ) (m : ℕ) (p : Program) (es : List Move) (q : Program) (turn : List Move)
    (r : Program) → TakeTurns ms p es q → TakesTurn m q turn r → TakeTurns (ms ++ m ∷ []) p (es ++ turn) r
turns_more [] m p es q turn r (none, same) last = (
  turn,
  [],
  r,
  ap (λ xs. xs ++ turn) none ∙ sym (append-nil turn),
  subst (λ (x : Program). TakesTurn m x turn r) same last,
  (refl, refl),
)
turns_more (k ∷ ks) m p es q turn r (first, rest, mid, both, taken, more) last = (
  first,
  rest ++ turn,
  mid,
  ap (λ xs. xs ++ turn) both ∙ append_assoc first rest turn,
  taken,
  turns_more ks m mid rest q turn r more last,
)

pub rounds_more : (k : ℕ) (p : Program) (es : List Move) (q : Program) (round : List Move) (r : Program)
    → Rounds k p es q → TakeTurns (range_with_len 0 (length q.members)) q round r → Rounds (suc k) p (es ++ round) r
rounds_more zero p es q round r (none, same) last = (
  round,
  [],
  r,
  ap (λ xs. xs ++ round) none ∙ sym (append-nil round),
  subst (λ (x : Program). TakeTurns (range_with_len 0 (length x.members)) x round r) same last,
  (refl, refl),
)
rounds_more (suc k) p es q round r (first, rest, mid, both, taken, more) last = (
  first,
  rest ++ round,
  mid,
  ap (λ xs. xs ++ round) both ∙ append_assoc first rest round,
  taken,
  rounds_more k mid rest q round r more last,
)
