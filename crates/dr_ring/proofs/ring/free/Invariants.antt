use Rattle.std.proofs.Common.{◌≡◌, ◌≢◌, ℕ, ◌<◌, ◌-◌, true}
use Rattle.dr_history.specs.Members.{has}
use Rattle.dr_words.specs.Counts.{count_of}
use Rattle.dr_rows.specs.Words.{row_of}
use Rattle.dr_ring.proofs.ring.free.Given as goal

abbrev pub invariant-loop-other : goal.invariant-loop-other
invariant-loop-other l = (i : ℕ) → i < l.other → has l.members i ≡ true → i ≢ l.rows.me
    → l.k - l.window < count_of l.rows.me (row_of l.rows.words i)
