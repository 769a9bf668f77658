-- Runs in lockstep: turns, rounds, and what goes on.
use Rattle.std.specs.{List.range_with_len, Prelude.{All, Option, Some}}
use Rattle.std.proofs.Common.{◌≡◌, refl, sym, ap, ◌∙◌, subst, inl, inr, ◌⊎◌, ℕ, suc, ◌+◌, ◌<◌, ◌≤◌, Bool, true, false, List, [], ◌∷◌, ◌++◌, length, take, le_refl, arith}
use Rattle.std.proofs.lemmas.List.{length_push, take-append-le, take_all, Elements.{All-append, All-nil}}
use Rattle.dr_entry.{specs.declared.entry.Entry.Entry, proofs.ListFacts.count_more}
use Rattle.dr_machine.specs.Group.{Group}
use Rattle.dr_program.specs.declared.outcome.Outcome.TheVariants as outcomes
use Rattle.dr_program.specs.{Presence.present_at, Schedule.{is_between_turns, IsTurn, Rounds, TakeTurns, TakesTurn}}
use Rattle.dr_program.specs.Program.{AllEnded, Move, Program, ran, step_of, has_ended}
use Rattle.dr_program.{specs.Running.Running, proofs.Present.{present_within, present_set, set_itself, each_ended}}
use Rattle.dr_program.{specs.declared.outcome.Outcome.Outcome, proofs.Rounds.{turns_more, rounds_more}}
use Rattle.dr_program.proofs.{Programs.{ran_none, one, ran_one, took_turn}, Runs.{ran_on, ran_more, turns_taken}}
use Rattle.dr_script.specs.declared.script.Schedule.TheVariants.{Lockstep}
use Rattle.dr_sim.{specs.Simulated.{HasRun, SomeFailed, WentWell}, proofs.Outcomes.{none_well, well_both, well_one}}
use Rattle.dr_sim.specs.Sound.{IsAmong, TookTurn, TookTurns, all_left, move, program_over, with_member}
use Rattle.dr_sim.{specs.Watched.WasTold, proofs.{Steps.took, Tellings.{told_both, told_more}}}
use Rattle.dr_play.specs.Sound.{IsSound}

-- ---- a turn

-- member m is amid a turn, or has begun none: these moves of it, of which the watcher was told
pub record IsInTurn {W : Type 0} (sees : W → Running → List ℕ → W → Type 0) (old new : W) (m : ℕ)
    (begun p : Program) : Type 0 where
  pub moves : List Move
  pub own : All (λ (e : Move). e.member ≡ m) moves
  pub well : WentWell moves p
  pub taken : p ≡ ran begun moves
  pub amid : (k : ℕ) → 0 < k → k ≤ length moves
      → is_between_turns (present_at (ran begun (take k moves)).members m) ≡ false
  pub told : WasTold sees begun moves old new

-- a turn begins with no move
pub turn_begins : {W : Type 0} (sees : W → Running → List ℕ → W → Type 0) (w : W) (m : ℕ) (p : Program)
    → IsInTurn sees w w m p p
turn_begins sees w m p = record {
  moves = [];
  own = All-nil (λ (e : Move). e.member ≡ m);
  well = none_well p;
  taken = ran_none p;
  amid = λ k some few. absurd (omega arith);
  told = refl;
}

-- the moves with one more
abbrev pub more_moves : {W : Type 0} {sees : W → Running → List ℕ → W → Type 0} {old new : W} (m : ℕ)
    (o : Outcome) (begun p : Program) → IsInTurn sees old new m begun p → List Move
more_moves m o begun p is = is.moves ++ move m o ∷ []

more_own : {W : Type 0} {sees : W → Running → List ℕ → W → Type 0} {old new : W} (m : ℕ)
    (o : Outcome) (begun p : Program) (is : IsInTurn sees old new m begun p)
    → All (λ (e : Move). e.member ≡ m) (more_moves m o begun p is)
more_own m o begun p is = All-append (λ (e : Move). e.member ≡ m) is.moves (move m o ∷ []) is.own
    (one (λ (e : Move). e.member ≡ m) (move m o) refl)

more_well : {W : Type 0} {sees : W → Running → List ℕ → W → Type 0} {old new : W} (m : ℕ)
    (o : Outcome) (begun p q : Program) (is : IsInTurn sees old new m begun p)
    → q ≡ step_of p (move m o) → (o ≡ outcomes.Ok) ⊎ SomeFailed q → WentWell (more_moves m o begun p is) q
more_well m o begun p q is step well = well_both is.moves (move m o ∷ []) p q is.well (well_one m o q well)
    (step ∙ sym (ran_one p (move m o)))

more_taken : {W : Type 0} {sees : W → Running → List ℕ → W → Type 0} {old new : W} (m : ℕ)
    (o : Outcome) (begun p q : Program) (is : IsInTurn sees old new m begun p)
    → q ≡ step_of p (move m o) → q ≡ ran begun (more_moves m o begun p is)
more_taken m o begun p q is step = step ∙ ap (λ x. step_of x (move m o)) is.taken
    ∙ sym (ran_more begun is.moves (move m o))

more_length : {W : Type 0} {sees : W → Running → List ℕ → W → Type 0} {old new : W} (m : ℕ)
    (o : Outcome) (begun p : Program) (is : IsInTurn sees old new m begun p)
    → length (more_moves m o begun p is) ≡ length is.moves + 1
more_length m o begun p is = length_push is.moves (move m o)

-- before the last move the member is amid its turn
more_amid : {W : Type 0} {sees : W → Running → List ℕ → W → Type 0} {old new : W} (m : ℕ)
    (o : Outcome) (begun p : Program) (is : IsInTurn sees old new m begun p) (k : ℕ) → 0 < k → k ≤ length is.moves
    → is_between_turns (present_at (ran begun (take k (more_moves m o begun p is))).members m) ≡ false
more_amid m o begun p is k some few = subst (λ es. is_between_turns (present_at (ran begun es).members m) ≡ false)
    (sym (take-append-le k is.moves (move m o ∷ []) few)) (is.amid k some few)

more_told : {W : Type 0} {sees : W → Running → List ℕ → W → Type 0} {old mid : W} (new : W) (m : ℕ) (o : Outcome)
    (begun p : Program) (is : IsInTurn sees old mid m begun p) (r : Running) → present_at p.members m ≡ Some r
    → sees mid r p.table new → WasTold sees begun (more_moves m o begun p is) old new
more_told {W} {sees} {old} {mid} new m o begun p is r there seen =
    told_more sees begun is.moves p m o r old mid new is.taken is.told there seen

-- a move between turns ends the turn
pub turn_ends : {W : Type 0} {sees : W → Running → List ℕ → W → Type 0} {old mid : W}
    (new : W) (m : ℕ) (o : Outcome) (begun p q : Program) (r : Running) (is : IsInTurn sees old mid m begun p)
    → q ≡ step_of p (move m o) → (o ≡ outcomes.Ok) ⊎ SomeFailed q → is_between_turns (present_at q.members m) ≡ true
    → present_at p.members m ≡ Some r → sees mid r p.table new → IsTurn m begun (more_moves m o begun p is) q
    × WentWell (more_moves m o begun p is) q × WasTold sees begun (more_moves m o begun p is) old new
turn_ends new m o begun p q r is step well whole there seen = (
  record {
    some = omega (arith, more_length m o begun p is);
    own = more_own m o begun p is;
    taken = more_taken m o begun p q is step;
    whole = whole;
    first = λ k some few. more_amid m o begun p is k some (omega (arith, few, more_length m o begun p is));
  },
  more_well m o begun p q is step well,
  more_told new m o begun p is r there seen,
)

-- a move within the turn goes on with it
pub turn_goes_on : {W : Type 0} {sees : W → Running → List ℕ → W → Type 0} {old mid : W}
    (new : W) (m : ℕ) (o : Outcome) (begun p q : Program) (r : Running) → IsInTurn sees old mid m begun p
    → q ≡ step_of p (move m o) → (o ≡ outcomes.Ok) ⊎ SomeFailed q → is_between_turns (present_at q.members m) ≡ false
    → present_at p.members m ≡ Some r → sees mid r p.table new → IsInTurn sees old new m begun q
turn_goes_on new m o begun p q r is step well amid there seen = record {
  moves = more_moves m o begun p is;
  own = more_own m o begun p is;
  well = more_well m o begun p q is step well;
  taken = more_taken m o begun p q is step;
  amid = each;
  told = more_told new m o begun p is r there seen;
}
  where
    last_or_before : (k n : ℕ) → k ≤ n + 1 → (n + 1 ≤ k) ⊎ (k ≤ n)
    last_or_before k n h = grind arith

    each : (k : ℕ) → 0 < k → k ≤ length (more_moves m o begun p is)
        → is_between_turns (present_at (ran begun (take k (more_moves m o begun p is))).members m) ≡ false
    each k some few = elim (last_or_before k (length is.moves) (omega (arith, few, more_length m o begun p is))) [
      | inl last ↦ subst (λ (x : Program). is_between_turns (present_at x.members m) ≡ false)
          (more_taken m o begun p q is step ∙ ap (ran begun)
          (sym (take_all k (more_moves m o begun p is) (omega (arith, last, more_length m o begun p is))))) amid
      | inr before ↦ more_amid m o begun p is k some before
    ]

-- ---- a turn of a member alone

-- the program in which the member has gone so far
pub record IsUnderWay {W : Type 0} (sees : W → Running → List ℕ → W → Type 0) (old new : W) (g : Group)
    (p : Program) (m : ℕ) (q : Program) : Type 0 where
  pub sound : IsSound g q
  pub turn : IsInTurn sees old new m p q
  pub falls : all_left q ≤ all_left p

-- a member among a program's is under way
pub way_begins : {W : Type 0} (sees : W → Running → List ℕ → W → Type 0) (w : W) (g : Group) (p : Program)
    (m : ℕ) (r : Running) (table : List ℕ) (posts : List (Option (List Entry))) → IsAmong g p m r table posts
    → IsUnderWay sees w w g p m (with_member p m r table posts)
way_begins sees w g p m r table posts is = subst (IsUnderWay sees w w g p m) (sym same)
    (record { sound = is.sound; turn = turn_begins sees w m p; falls = le_refl _ })
  where
    same : with_member p m r table posts ≡ p
    same = λ z. program_over (set_itself p.members m r is.there z) (sym is.table z) (sym is.letters z)

-- the member is one of the program that has gone so far
pub way_among : {W : Type 0} {sees : W → Running → List ℕ → W → Type 0} {old new : W} (g : Group)
    (p : Program) (m : ℕ) (r x : Running) (table cells : List ℕ) (letters posts : List (Option (List Entry)))
    → IsAmong g p m r table letters → IsUnderWay sees old new g p m (with_member p m x cells posts)
    → IsAmong g (with_member p m x cells posts) m x cells posts
way_among g p m r x table cells letters posts is way = record {
  sound = way.sound;
  there = present_set p.members m x (present_within p.members m r is.there);
  table = refl;
  letters = refl;
}

-- where it stands then is where it stands in the program
pub stands : (p : Program) (m : ℕ) (y : Running) (next : List ℕ) (mails : List (Option (List Entry))) (b : Bool)
    → m < length p.members → is_between_turns (Some y) ≡ b
    → is_between_turns (present_at (with_member p m y next mails).members m) ≡ b
stands p m y next mails b within at = ap is_between_turns (present_set p.members m y within) ∙ at

-- member m took one whole turn, and the watcher was told of it
abbrev pub HasTurn : {W : Type 0} → (W → Running → List ℕ → W → Type 0) → W → W → Group → Program → ℕ
    → Program → Type 0
HasTurn sees old new g p m q = (took : TookTurn g p m q) × WasTold sees p took.moves old new

-- ---- a round

-- these members each took their turn, in this order, and the watcher was told of it
abbrev pub HasTurns : {W : Type 0} → (W → Running → List ℕ → W → Type 0) → W → W → List ℕ → Program → Program → Type 0
HasTurns sees old new ms p q = (turns : TookTurns ms p q) × WasTold sees p turns.moves old new

turns_by : {W : Type 0} (sees : W → Running → List ℕ → W → Type 0) (old mid new : W) (m : ℕ)
    (p q r : Program) (turn : List Move) → HasTurns sees old mid (range_with_len 0 m) p q → TakesTurn m q turn r
    → WentWell turn r → WasTold sees q turn mid new → HasTurns sees old new (range_with_len 0 (m + 1)) p r
turns_by sees old mid new m p q r turn (took, told) last fine next = (
  record {
    moves = took.moves ++ turn;
    turns = subst (λ ms. TakeTurns ms p (took.moves ++ turn) r) (sym (count_more m))
        (turns_more (range_with_len 0 m) m p took.moves q turn r took.turns last);
    well = well_both took.moves turn q r took.well fine (took_turn m q r turn last);
  },
  told_both sees p took.moves turn q old mid new
      (turns_taken (range_with_len 0 m) p took.moves q took.turns) told next,
)

-- the first members have had their turns in a round, where anyone that had not ended has taken one
pub record IsInRound {W : Type 0} (sees : W → Running → List ℕ → W → Type 0) (old new : W) (g : Group) (m : ℕ)
    (begun p : Program) : Type 0 where
  pub turns : HasTurns sees old new (range_with_len 0 m) begun p
  pub sound : IsSound g p
  pub falls : ((p ≡ begun) × ((k : ℕ) → k < m → has_ended (present_at begun.members k) ≡ true))
      ⊎ (all_left p < all_left begun)

-- a round begins with a sound program
pub round_begins : {W : Type 0} (sees : W → Running → List ℕ → W → Type 0) (w : W) (g : Group) (p : Program)
    → IsSound g p → IsInRound sees w w g 0 p p
round_begins sees w g p sound = record {
  turns = (record { moves = []; turns = (refl, refl); well = none_well p }, refl);
  sound = sound;
  falls = inl (refl, λ k within. absurd (omega arith));
}

-- a round passes a member that has ended
pub round_passes : {W : Type 0} {sees : W → Running → List ℕ → W → Type 0} {old new : W} (g : Group) (m : ℕ)
    (begun p : Program) → IsInRound sees old new g m begun p
    → has_ended (present_at p.members m) ≡ true → IsInRound sees old new g (m + 1) begun p
round_passes {W} {sees} {old} {new} g m begun p is ended = record {
  turns = turns_by sees old new new m begun p p [] is.turns (inl (ended, refl, refl)) (none_well p) refl;
  sound = is.sound;
  falls = by is.falls;
}
  where
    last_or_before : (k n : ℕ) → k < n + 1 → (k ≡ n) ⊎ (k < n)
    last_or_before k n h = grind arith

    by : ((p ≡ begun) × ((k : ℕ) → k < m → has_ended (present_at begun.members k) ≡ true))
        ⊎ (all_left p < all_left begun) → ((p ≡ begun)
        × ((k : ℕ) → k < m + 1 → has_ended (present_at begun.members k) ≡ true)) ⊎ (all_left p < all_left begun)
    by (inr less) = inr less
    by (inl (same, each)) = inl (
      same,
      λ k few. elim (last_or_before k m few) [
        | inl last ↦ subst (λ n. has_ended (present_at begun.members n) ≡ true) (sym last)
            (subst (λ (x : Program). has_ended (present_at x.members m) ≡ true) same ended)
        | inr before ↦ each k before
      ],
    )

-- a round goes on with the turn of a member that has not ended
pub round_goes_on : {W : Type 0} {sees : W → Running → List ℕ → W → Type 0} {old mid : W} (new : W) (g : Group)
    (m : ℕ) (begun p q : Program) → IsInRound sees old mid g m begun p → has_ended (present_at p.members m) ≡ false
    → HasTurn sees mid new g p m q → IsInRound sees old new g (m + 1) begun q
round_goes_on {W} {sees} {old} {mid} new g m begun p q is going (took, told) = record {
  turns = turns_by sees old mid new m begun p q took.moves is.turns (inr (going, took.turn)) took.well told;
  sound = took.sound;
  falls = inr (by is.falls);
}
  where
    by : ((p ≡ begun) × ((k : ℕ) → k < m → has_ended (present_at begun.members k) ≡ true))
        ⊎ (all_left p < all_left begun) → all_left q < all_left begun
    by (inr fewer) = omega (arith, took.falls, fewer)
    by (inl (same, each)) = omega (arith, took.falls, ap all_left same)

-- a round in which not all had ended leaves less to do
pub round_ends : {W : Type 0} {sees : W → Running → List ℕ → W → Type 0} {old new : W} (g : Group) (m : ℕ)
    (begun p : Program) → IsInRound sees old new g m begun p → m ≡ length begun.members → ¬ AllEnded begun
    → all_left p < all_left begun
round_ends g m begun p is all someone = by is.falls
  where
    by : ((p ≡ begun) × ((k : ℕ) → k < m → has_ended (present_at begun.members k) ≡ true))
        ⊎ (all_left p < all_left begun) → all_left p < all_left begun
    by (inr less) = less
    by (inl (same, each)) = absurd (someone (each_ended begun (λ k within. each k (omega arith))))

-- ---- the run

-- so many rounds have been run, by these moves, of which the watcher was told
pub record HasRounds {W : Type 0} (sees : W → Running → List ℕ → W → Type 0) (old new : W)
    (begun p : Program) : Type 0 where
  pub rounds : ℕ
  pub moves : List Move
  pub run : Rounds rounds begun moves p
  pub taken : p ≡ ran begun moves
  pub well : WentWell moves p
  pub told : WasTold sees begun moves old new

-- no rounds leave a program as it is
pub no_rounds : {W : Type 0} (sees : W → Running → List ℕ → W → Type 0) (w : W) (p : Program) → HasRounds sees w w p p
no_rounds sees w p = record {
  rounds = 0;
  moves = [];
  run = (refl, refl);
  taken = ran_none p;
  well = none_well p;
  told = refl;
}

-- a round behind rounds makes more of them
pub rounds_go_on : {W : Type 0} {sees : W → Running → List ℕ → W → Type 0} {old mid : W} (new : W)
    (begun p q : Program) → HasRounds sees old mid begun p
    → HasTurns sees mid new (range_with_len 0 (length p.members)) p q → HasRounds sees old new begun q
rounds_go_on {W} {sees} {old} {mid} new begun p q has (round, told) =
    let taken = turns_taken (range_with_len 0 (length p.members)) p round.moves q round.turns in
    record {
      rounds = suc has.rounds;
      moves = has.moves ++ round.moves;
      run = rounds_more has.rounds begun has.moves p round.moves q has.run round.turns;
      taken = taken ∙ ap (λ x. ran x round.moves) has.taken ∙ sym (ran_on begun has.moves round.moves);
      well = well_both has.moves round.moves p q has.well round.well taken;
      told = told_both sees begun has.moves round.moves p old mid new has.taken has.told told;
    }

-- once all have ended, they are the run
pub rounds_end : {W : Type 0} {sees : W → Running → List ℕ → W → Type 0} {old new : W} (begun p : Program)
    → HasRounds sees old new begun p → AllEnded p
    → (run : HasRun Lockstep begun p) × WasTold sees begun run.moves old new
rounds_end begun p has ended = (
  record { moves = has.moves; by = record { rounds = has.rounds; ran = has.run; ended = ended }; well = has.well },
  has.told,
)
