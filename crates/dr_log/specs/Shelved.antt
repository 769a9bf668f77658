-- What is on a log, in lists with places for more.
use Rattle.std.specs.Prelude.{ℕ, ◌+◌, ◌≤◌, length}
use Rattle.dr_log.specs.declared.spares.Spares.{Spares}
use Rattle.dr_log_bytes.specs.Content.{OnLog}

-- what is on the log, and for how many entries, votes and age votes in all there is memory
pub record Shelved : Type 0 where
  pub content : OnLog
  pub entry_places : ℕ
  pub vote_places : ℕ
  pub age_vote_places : ℕ

-- there are places for so many records more; one of the other kinds may be an age vote
pub record HasPlaces (s : Shelved) (spares : Spares) : Type 0 where
  pub entries : length s.content.entries + spares.entries ≤ s.entry_places
  pub votes : length s.content.votes + spares.votes ≤ s.vote_places
  pub age_votes : length s.content.age_votes + spares.others ≤ s.age_vote_places

-- there are no fewer places than before
pub record KeepsPlaces (old new : Shelved) : Type 0 where
  pub entries : old.entry_places ≤ new.entry_places
  pub votes : old.vote_places ≤ new.vote_places
  pub age_votes : old.age_vote_places ≤ new.age_vote_places
