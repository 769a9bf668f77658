-- Schedules: the order in which the members of a program take their deeds, until all have ended.
use Rattle.std.specs.List.{range_with_len, filter}
use Rattle.std.specs.Prelude.{◌≡◌, ◌⊎◌, ⊤, ℕ, zero, suc, ◌+◌, ◌*◌, ◌/◌, ◌%◌, ◌^◌, ◌<◌, ◌||◌, All, Bool, not, true, false, List, [], ◌∷◌, ◌++◌, length, take, slice_index, Option, None, Some, is_some}
use Rattle.dr_program.specs.{Presence.present_at, Program.{Program, Move, ran, step_of, AllEnded, has_ended}}
use Rattle.dr_program.specs.{Running.Running, Turn.{is_beat, part_of}}

-- ---- lockstep: a whole turn of each member, again and again

abbrev pub is_between_turns : Option Running → Bool
is_between_turns None = true
is_between_turns (Some r) = is_some r.replica.end || is_beat (part_of r.place)

-- member m takes one whole turn by these moves: its deeds up to the first after which it has ended or
-- stands before a turn
pub record IsTurn (m : ℕ) (p : Program) (es : List Move) (q : Program) : Type 0 where
  pub some : 0 < length es
  pub own : All (λ (e : Move). e.member ≡ m) es
  pub taken : q ≡ ran p es
  pub whole : is_between_turns (present_at q.members m) ≡ true
  pub first : (k : ℕ) → 0 < k → k < length es
      → is_between_turns (present_at (ran p (take k es)).members m) ≡ false

-- one member takes its turn by these moves, unless it has ended
abbrev pub TakesTurn : ℕ → Program → List Move → Program → Type 0
TakesTurn m p es q =
    ((has_ended (present_at p.members m) ≡ true) × (es ≡ []) × (q ≡ p))
    ⊎ ((has_ended (present_at p.members m) ≡ false) × IsTurn m p es q)

-- each of these members takes its turn, in this order
abbrev pub TakeTurns : List ℕ → Program → List Move → Program → Type 0
TakeTurns [] p es q = (es ≡ []) × (q ≡ p)
TakeTurns (m ∷ ms) p es q =
    (turn rest : List Move) × (mid : Program) × (es ≡ turn ++ rest) × TakesTurn m p turn mid
    × TakeTurns ms mid rest q

-- so many rounds, in each of which every member takes its turn, ascending
abbrev pub Rounds : ℕ → Program → List Move → Program → Type 0
Rounds zero p es q = (es ≡ []) × (q ≡ p)
Rounds (suc k) p es q =
    (round rest : List Move) × (mid : Program) × (es ≡ round ++ rest)
    × TakeTurns (range_with_len 0 (length p.members)) p round mid × Rounds k mid rest q

-- the run in lockstep, by these moves: rounds until all members have ended
pub record IsLockstep (begun : Program) (es : List Move) (p : Program) : Type 0 where
  pub rounds : ℕ
  pub ran : Rounds rounds begun es p
  pub ended : AllEnded p

-- ---- seeded: one deed at a time, of a member that a generator chooses

-- the state of the generator after this one
abbrev pub next_state : ℕ → ℕ
next_state x = (x * 6364136223846793005 + 1442695040888963407) % 2 ^ 64

-- the choice that a state makes among so many
abbrev pub choice_of : ℕ → ℕ → ℕ
choice_of x among = x / 2 ^ 33 % among

-- the members without an end, ascending
abbrev pub going : Program → List ℕ
going p = filter (λ m. not (has_ended (present_at p.members m))) (range_with_len 0 (length p.members))

-- each of these moves is of the member that the generator chooses, from this state on, among those without
-- an end
abbrev pub AreChosen : ℕ → Program → List Move → Type 0
AreChosen x p [] = ⊤
AreChosen x p (e ∷ es) =
    (0 < length (going p))
    × (e.member ≡ slice_index (going p) (choice_of (next_state x) (length (going p))))
    × AreChosen (next_state x) (step_of p e) es

-- the run of a seed, by these moves: the chosen members take their deeds until all members have ended
pub record IsSeeded (seed : ℕ) (begun : Program) (es : List Move) (p : Program) : Type 0 where
  pub chosen : AreChosen seed begun es
  pub ran : p ≡ ran begun es
  pub ended : AllEnded p
