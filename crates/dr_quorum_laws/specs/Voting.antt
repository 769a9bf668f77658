-- Logs that got votes for ages, and nothing else.
use Rattle.std.specs.Prelude.{◌≡◌, ℕ, List, length, Contains, Some, slice_get}
use Rattle.dr_entry.specs.declared.record.AgeVote.{AgeVote}
use Rattle.dr_restart.specs.declared.lists.LogLists.{LogLists}

-- the log has the same entries and votes, and no age vote less
pub record HasMoreAgeVotes (old new : LogLists) : Type 0 where
  pub entries : new.entries ≡ old.entries
  pub votes : new.votes ≡ old.votes
  pub age_votes : (x : AgeVote) → Contains old.age_votes x → Contains new.age_votes x

-- so it is of each log
pub record HaveMoreAgeVotes (before after : List LogLists) : Type 0 where
  pub places : length after ≡ length before
  pub each : (m : ℕ) (new : LogLists) → slice_get after m ≡ Some new
      → (old : LogLists) × (slice_get before m ≡ Some old) × HasMoreAgeVotes old new
