-- Each deed of a running member lowers the number of deeds that are left to it.
use Rattle.std.{specs.Prelude.{⊤, slice_index_or}, proofs.lemmas.Nat.mul-add-lt}
use Rattle.std.proofs.Common.{ℕ, zero, suc, ◌+◌, ◌-◌, ◌<◌, ◌≤◌, List, [], ◌∷◌, length, le_refl, arith}
use Rattle.dr_program.specs.Replica.{Replica}
use Rattle.dr_turn.specs.Work.{deeds_of, sum_of}

-- ---- a sum of tasks

-- each task is no more for q than for r
abbrev pub NoneRises : Replica → Replica → List (Replica → ℕ) → Type 0
NoneRises r q [] = ⊤
NoneRises r q (task ∷ tasks) = (task q ≤ task r) × NoneRises r q tasks

-- where no task rises, their sum doesn't
pub sum_keeps : (r q : Replica) (tasks : List (Replica → ℕ)) → NoneRises r q tasks → sum_of tasks q ≤ sum_of tasks r
unfolding sum_of
sum_keeps r q [] none = le_refl 0
sum_keeps r q (task ∷ tasks) none = omega (arith, none.0, sum_keeps r q tasks none.1)

-- where one of them is less by so much, the sum is
pub sum_falls : (r q : Replica) (tasks : List (Replica → ℕ)) (i by : ℕ) (other : Replica → ℕ)
    → NoneRises r q tasks → i < length tasks → slice_index_or tasks i other q + by ≤ slice_index_or tasks i other r
    → sum_of tasks q + by ≤ sum_of tasks r
unfolding sum_of
sum_falls r q [] i by other none within less = absurd (omega arith)
sum_falls r q (task ∷ tasks) zero by other none within less = let here : task q + by ≤ task r = less in
    omega (arith, here, sum_keeps r q tasks none.1)
sum_falls r q (task ∷ tasks) (suc i) by other none within less =
    omega (arith, none.0, sum_falls r q tasks i by other none.1 (omega arith) less)

-- ---- the search

-- fewer places and work together, with the same turns and failures, are fewer deeds
pub fewer_here : (turns places here here' todo todo' fails : ℕ) → here' + todo' < here + todo
    → deeds_of turns places here' todo' + fails < deeds_of turns places here todo + fails
unfolding deeds_of
fewer_here turns places here here' todo todo' fails h = omega arith

-- no more places, with the same turns, work and failures, are no more deeds
pub no_more_here : (turns places here here' todo fails : ℕ) → here' ≤ here
    → deeds_of turns places here' todo + fails ≤ deeds_of turns places here todo + fails
unfolding deeds_of
no_more_here turns places here here' todo fails h = omega arith

-- a turn fewer is worth all the places of one
pub fewer_turns : (turns turns' places here' here todo todo' fails : ℕ) → turns' < turns → here' ≤ places
    → todo' ≤ todo → deeds_of turns' places here' todo' + fails < deeds_of turns places here todo + fails
unfolding deeds_of
fewer_turns turns turns' places here' here todo todo' fails a b c =
    omega (arith, mul-add-lt turns' (places + 1) places turns a (omega arith))
