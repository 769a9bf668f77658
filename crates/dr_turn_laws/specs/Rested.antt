-- What a whole turn of a member brings about.
use Rattle.std.specs.Prelude.{◌≡◌, ◌≢◌, ◌↔◌, ◌⊎◌, ℕ, ◌+◌, ◌<◌, ◌≤◌, true, false, None, Some}
use Rattle.dr_entry.specs.declared.end.End.TheVariants.{Crashed, Done}
use Rattle.dr_machine.specs.{Group.{Group, columns, roster}, World.{World, own_word}, declared.step.Step.Step}
use Rattle.dr_program.specs.{Presence.present_at, Program.Program, Reading.world, Running.Running}
use Rattle.dr_suspect.specs.Waits.{Waits, beat_of, next_count, turns_without_news}
use Rattle.dr_words.specs.declared.column.TheConstants.{BEAT_COLUMN}
use Rattle.dr_program_laws.specs.{Failing.has_log_end, Trusting.AreAtEase}
use Rattle.dr_turn_laws.specs.{Steady.IsSteady, Wants.{SeesAllDone, Wants, is_work}}

-- m has seen the word of a row and a column as it stands in the table
abbrev pub HasSeen : World → ℕ → ℕ → ℕ → Type 0
HasSeen w m i c = w.seen m i c ≡ w.table (w.past.view m) m i c

-- the copy of j has the word of a column of m as it is; an end is an act more than was pushed
abbrev pub HasPushed : World → ℕ → ℕ → ℕ → Type 0
HasPushed w m j c = (c ≡ BEAT_COLUMN → w.end m ≡ None)
    → w.table (w.past.view m) j m c ≡ own_word w m c

-- m has nothing left to do
pub record IsRested (g : Group) (w : World) (m : ℕ) : Type 0 where
  -- nothing is asked for
  pub idle : (s : Step) → is_work s ≡ true → Wants g w m s → ⊥
  -- it has seen the table as it stands, and the table has its words
  pub seen : (i c : ℕ) → i < roster g → i ≢ m → c < columns g → HasSeen w m i c
  pub pushed : (j c : ℕ) → j < roster g → j ≢ m → c < columns g → HasPushed w m j c
  -- it has ended as done exactly where it sees that all are
  pub done : (w.end m ≡ Some Done) ↔ SeesAllDone w m

-- where old says how long m had waited for row i before a turn, new says it behind the turn, in which the
-- beat was compared once
pub record HasCompared (old new : Waits) (i word : ℕ) : Type 0 where
  pub beat : beat_of new i ≡ word
  pub count : turns_without_news new i ≡ next_count (turns_without_news old i) (beat_of old i) word

-- from p to q, m has taken a whole turn
pub record HasTurned (g : Group) (p : Program) (m : ℕ) (q : Program) : Type 0 where
  pub steady : IsSteady g q
  pub ease : AreAtEase q
  -- it has crashed, or has nothing left to do
  pub rested : ((world g q).end m ≡ Some Crashed) ⊎ IsRested g (world g q) m
  -- no append of it has failed, and it hasn't ended by its log
  pub well : (r : Running) → present_at q.members m ≡ Some r → r.failed ≡ None
  pub logs : has_log_end ((world g q).end m) ≡ false
  -- the other members are as they were
  pub others : (i : ℕ) → i ≢ m → present_at q.members i ≡ present_at p.members i
  -- it has had a turn more, and no own word has fallen
  pub turns : (world g q).turns m ≡ (world g p).turns m + 1
  pub rises : (v c : ℕ) → (world g p).past.own m v c ≤ (world g q).past.own m v c
  -- its beat has risen, and it has compared the beats of the others, unless it has crashed
  pub beats : (world g p).past.own m 0 BEAT_COLUMN < (world g q).past.own m 0 BEAT_COLUMN
  pub compared : (world g q).end m ≢ Some Crashed → (r y : Running) → present_at p.members m ≡ Some r
      → present_at q.members m ≡ Some y → (i : ℕ) → i < roster g → i ≢ m
      → HasCompared r.waits y.waits i ((world g q).seen m i BEAT_COLUMN)
  pub limit : (r y : Running) → present_at p.members m ≡ Some r → present_at q.members m ≡ Some y
      → y.waits.limit ≡ r.waits.limit
