-- What a member of a sound program does, and how much is left to all.
use Rattle.std.specs.Prelude.{◌≡◌, ◌≢◌, ◌⊎◌, ℕ, ◌<◌, List, Some, sum_by, Option, None}
use Rattle.dr_entry.specs.declared.entry.Entry.{Entry}
use Rattle.dr_machine.specs.Group.{Group}
use Rattle.dr_program.specs.{Presence.{present_at, with_present}, Program.{Move, Program, step_of}, Running.Running}
use Rattle.dr_program.specs.{Schedule.{IsTurn, TakeTurns}, declared.outcome.Outcome.{Outcome, TheVariants.Ok}}
use Rattle.dr_play.specs.Sound.{IsSound}
use Rattle.dr_sim.specs.Simulated.{SomeFailed, WentWell}
use Rattle.dr_turn.specs.Work.{deeds_left}

-- the program that has these members, over these words and letters
abbrev pub program_over : List (Option Running) → List ℕ → List (Option (List Entry)) → Program
program_over members words letters = record { members = members; table = words; letters = letters }

-- a member of a sound program, over the words of its table and its letters
pub record IsAmong (g : Group) (p : Program) (m : ℕ) (r : Running) (cells : List ℕ)
    (posts : List (Option (List Entry))) : Type 0 where
  pub sound : IsSound g p
  pub there : present_at p.members m ≡ Some r
  pub table : p.table ≡ cells
  pub letters : p.letters ≡ posts

-- a member of some sound program
abbrev pub IsSomewhere : Running → List ℕ → List (Option (List Entry)) → Type 0
IsSomewhere r table posts = (g : Group) × (p : Program) × (m : ℕ) × IsAmong g p m r table posts

-- the program in which this is member m, and these the table and the letters
abbrev pub with_member : Program → ℕ → Running → List ℕ → List (Option (List Entry)) → Program
with_member p m r words posts = program_over (with_present p.members m r) words posts

-- more deeds than whoever stands at a place still does, and than the members of the program do
abbrev pub left_at : Option Running → ℕ
left_at None = 0
left_at (Some r) = deeds_left r

abbrev pub all_left : Program → ℕ
all_left p = sum_by left_at p.members

-- the members but m are the same in both programs
abbrev pub AreOthers : Program → ℕ → Program → Type 0
AreOthers p m q = (i : ℕ) → i ≢ m → present_at q.members i ≡ present_at p.members i

-- the next deed of member m, where an append goes so
abbrev pub move : ℕ → Outcome → Move
move m outcome = record { member = m; outcome = outcome }

-- member m took its next deed, and the program stays sound
pub record TookDeed (g : Group) (p : Program) (m : ℕ) (q : Program) : Type 0 where
  pub outcome : Outcome
  pub step : q ≡ step_of p (move m outcome)
  pub well : (outcome ≡ Ok) ⊎ SomeFailed q
  pub sound : IsSound g q
  pub falls : all_left q < all_left p

-- member m took one whole turn, and the program stays sound
pub record TookTurn (g : Group) (p : Program) (m : ℕ) (q : Program) : Type 0 where
  pub moves : List Move
  pub turn : IsTurn m p moves q
  pub well : WentWell moves q
  pub sound : IsSound g q
  pub falls : all_left q < all_left p

-- these members each took their turn, in this order
pub record TookTurns (ms : List ℕ) (p q : Program) : Type 0 where
  pub moves : List Move
  pub turns : TakeTurns ms p moves q
  pub well : WentWell moves q
