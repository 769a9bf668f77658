-- What an opening loses of no log: its votes, and the entries that it has in common with the start.
use Rattle.std.proofs.Common.{◌≡◌, ap, sym, ◌∙◌, inl, inr, ◌⊎◌, [], ◌∷◌, ◌++◌, append_assoc, ℕ, List, subst}
use Rattle.dr_entry.specs.declared.record.AgeVote.{AgeVote}
use Rattle.dr_history.specs.{History.IsPrefixOf, Members.has}
use Rattle.dr_log.{specs.Standing.{HasAllOf, LosesNone}, proofs.Ordinary.none_lost}
use Rattle.dr_log_bytes.specs.Content.{OnLog}
use Rattle.dr_restart.specs.{Trying.{MayBeBroughtUp, age_vote_of}, declared.lists.LogLists.LogLists}
use Rattle.dr_restart.specs.declared.start.Start.{Start}
use Rattle.dr_opening.specs.{Contents.{IsRising, IsVoting, voted_for, StandSo}, Lists.as_lists}
use Rattle.dr_opening.proofs.{Lists.{voted_lists, with_vote_more}, Ways.{rising_by, rising_votes, voting_lists}}

-- by lists that are the same
has_same : (first c now : OnLog) → as_lists now ≡ as_lists c → HasAllOf first c → HasAllOf first now
has_same first c now same has = record {
  more_entries = has.more_entries;
  more_votes = has.more_votes;
  more_age_votes = has.more_age_votes;
  entries = ap (λ (l : LogLists). l.entries) same ∙ has.entries;
  votes = ap (λ (l : LogLists). l.votes) same ∙ has.votes;
  age_votes = ap (λ (l : LogLists). l.age_votes) same ∙ has.age_votes;
}

-- with one vote more
has_voted : (first c now : OnLog) (vote : AgeVote) → as_lists now ≡ with_vote_more vote (as_lists c)
    → HasAllOf first c → HasAllOf first now
has_voted first c now vote same has = record {
  more_entries = has.more_entries;
  more_votes = has.more_votes;
  more_age_votes = has.more_age_votes ++ vote ∷ [];
  entries = ap (λ (l : LogLists). l.entries) same ∙ has.entries;
  votes = ap (λ (l : LogLists). l.votes) same ∙ has.votes;
  age_votes = ap (λ (l : LogLists). l.age_votes) same ∙ ap (λ l. l ++ vote ∷ []) has.age_votes
      ∙ append_assoc first.age_votes has.more_age_votes (vote ∷ []);
}

pub voting_has_all : (start : Start) (first c now : OnLog) → HasAllOf first c → IsVoting start c now
    → HasAllOf first now
voting_has_all start first c now has way = by (voting_lists start c now way)
  where
    by : (as_lists now ≡ as_lists c) ⊎ (now ≡ voted_for start c) → HasAllOf first now
    by (inl same) = has_same first c now same has
    by (inr same) = has_voted first c now (age_vote_of start)
        (ap as_lists same ∙ voted_lists (age_vote_of start) c) has

-- what is brought up begins with what it and the start had in common
begins_so : (start : Start) (first voted now : OnLog) → HasAllOf first voted → IsPrefixOf first.entries start.entries
    → MayBeBroughtUp start voted.entries now.entries → IsPrefixOf first.entries now.entries
begins_so start first voted now has of_start (inl same) = (has.more_entries, sym (same ∙ has.entries))
begins_so start first voted now has of_start (inr brought) =
    brought.1 first.entries (has.more_entries, sym has.entries) of_start

pub rising_has_all : (start : Start) (first c now : OnLog) → HasAllOf first c
    → IsPrefixOf first.entries start.entries → IsRising start (voted_for start c) now → HasAllOf first now
rising_has_all start first c now has of_start way =
    let voted = has_voted first c (voted_for start c) (age_vote_of start) (voted_lists (age_vote_of start) c) has in
    let those = rising_votes start (voted_for start c) now way in
    let begins = begins_so start first (voted_for start c) now voted of_start
    (rising_by start (voted_for start c) now way) in
    record {
      more_entries = begins.0;
      more_votes = voted.more_votes;
      more_age_votes = voted.more_age_votes;
      entries = sym begins.1;
      votes = those.votes ∙ voted.votes;
      age_votes = those.age_votes ∙ voted.age_votes;
    }

-- what a crash leaves on the way to an open log has all that it and the start have in common
pub voting_loses_none : (start : Start) (first c : OnLog) (image : List ℕ) → HasAllOf first c
    → StandSo (IsVoting start c) image → LosesNone first image
voting_loses_none start first c image has (now, way, stands) =
    none_lost first now image (voting_has_all start first c now has way) stands

pub rising_loses_none : (start : Start) (first c voted : OnLog) (image : List ℕ) → voted ≡ voted_for start c
    → HasAllOf first c → IsPrefixOf first.entries start.entries → StandSo (IsRising start voted) image
    → LosesNone first image
rising_loses_none start first c voted image same has part (now, way, stands) = none_lost first now image
    (rising_has_all start first c now has part (subst (λ (v : OnLog). IsRising start v now) same way)) stands
