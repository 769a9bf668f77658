-- What is known between the turns of a round.
use Rattle.std.specs.Prelude.{Option}
use Rattle.std.proofs.Common.{List, None, Some, [], true, ℕ, ◌*◌, ◌+◌, ◌<◌, ◌≡◌, ◌≢◌, ◌≤◌, ◌⊎◌}
use Rattle.dr_entry.proofs.Ends.{IsUpright}
use Rattle.dr_words.specs.declared.column.TheConstants.{BEAT_COLUMN}
use Rattle.dr_machine.{specs.{Group.{Group, roster}, World.World}, proofs.Groups.ArePushed}
use Rattle.dr_program.specs.{Presence.present_at, Program.{AreSetups, Program}, Reading.world, Running.Running}
use Rattle.dr_program.specs.{Schedule.is_between_turns, declared.setup.Setup.Setup}
use Rattle.dr_program.proofs.{Holdings.{Holding, held, IsAlong}, RunningPrograms.HasWaited}
use Rattle.dr_suspect.specs.Waits.{turns_without_news}
use Rattle.dr_program_laws.{specs.Trusting.AreAtEase, proofs.Programs.AllStand}
use Rattle.dr_turn_laws.specs.Steady.{IsSteady}
use Rattle.dr_complete.specs.Reached.{AllShowDone}
use Rattle.dr_history_laws.specs.Remaining.{messages_left}

-- a member has had r turns, and has come as far as these bring it
abbrev pub HasGone : Group → ℕ → ℕ → ℕ → Holding → Type 0
HasGone g most r i h = (h.turns ≡ r) × IsAlong g most r i h

-- nobody has ended in r rounds, and in the next one the members below x have had their turn
pub record IsGoing (g : Group) (most r x : ℕ) (w : World) : Type 0 where
  pub early : r ≤ 3 * most + 1
  pub unended : (i : ℕ) → i < roster g → w.end i ≡ None
  pub gone : (i : ℕ) → i < roster g → i < x → HasGone g most (r + 1) i (held w i)
  pub ahead : (i : ℕ) → i < roster g → x ≤ i → HasGone g most r i (held w i)

-- in a round in which the members below x have had their turn, i has had one since m has
abbrev pub IsAfter : ℕ → ℕ → ℕ → Type 0
IsAfter x m i = ((x ≤ m) × ((m < i) ⊎ (i < x))) ⊎ ((m < x) × (m < i) × (i < x))

-- who has had a turn since has news: its beat has risen, unless it was the first turn
abbrev pub AreFresh : Group → ℕ → Program → Type 0
AreFresh g x p = (m i : ℕ) (r : Running) → present_at p.members m ≡ Some r → i < roster g → i ≢ m → IsAfter x m i
    → (turns_without_news r.waits i ≡ 0) ⊎ ((world g p).seen m i BEAT_COLUMN < (world g p).table 0 m i BEAT_COLUMN)

-- the program is between turns: nobody suspects anybody, no append has failed, no member is amid a turn or
-- has ended but as done, and words stand where they were pushed
pub record IsPaused (g : Group) (setups : List (Option Setup)) (p : Program) : Type 0 where
  pub steady : IsSteady g p
  pub ease : AreAtEase p
  pub stand : AllStand setups p
  pub well : (m : ℕ) (r : Running) → present_at p.members m ≡ Some r → r.failed ≡ None
  pub whole : (m : ℕ) → is_between_turns (present_at p.members m) ≡ true
  pub upright : (i : ℕ) → i < roster g → IsUpright ((world g p).end i)
  pub pushed : ArePushed g (world g p)
  pub waits : (m : ℕ) (r : Running) → present_at p.members m ≡ Some r → HasWaited g (world g p) m r

-- all members show done in the first view
abbrev pub ShowDone : Group → World → Type 0
ShowDone g w = AllShowDone w 0 g.opening.members

-- it is so in a round behind r others, in which the members below x have had their turn: all show done, or
-- nobody has ended
pub record IsBetween (g : Group) (setups : List (Option Setup)) (most r x : ℕ) (p : Program) : Type 0 where
  pub paused : IsPaused g setups p
  pub fresh : ((i : ℕ) → i < roster g → (world g p).end i ≡ None) → AreFresh g x p
  pub state : ShowDone g (world g p) ⊎ IsGoing g most r x (world g p)

-- no member is to crash, none has more than `most` messages left, and there are turns enough
pub record IsFit (g : Group) (setups : List (Option Setup)) (limit most : ℕ) : Type 0 where
  pub are : AreSetups g limit setups
  pub uncrashed : (m : ℕ) (s : Setup) → present_at setups m ≡ Some s → s.crashes ≡ []
  pub few : (s : ℕ) → messages_left g.opening s ≤ most
  pub enough : 3 * most + 3 ≤ limit
