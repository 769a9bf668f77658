-- What the phases of an opening keep of what was on a log, and what they bring.
use Rattle.std.proofs.Common.{◌≡◌, refl, ap, sym, ◌∙◌, subst, inl, inr, ◌⊎◌, [], ◌∷◌, append-nil, Contains, ◌+◌, ◌++◌}
use Rattle.std.proofs.lemmas.List.Elements.{Contains-append_left, Contains-push}
use Rattle.dr_entry.specs.declared.record.AgeVote.{AgeVote}
use Rattle.dr_history.{specs.History.IsPrefixOf, proofs.{Histories.part_of_opened, Lists.filled}}
use Rattle.dr_log_bytes.specs.Content.{OnLog}
use Rattle.dr_restart.specs.Trying.{BeginsWithCommon, MayBeBroughtUp, MayHaveAgeVote, age_vote_of, first_view_of}
use Rattle.dr_restart.specs.declared.{lists.LogLists.LogLists, start.Start.Start}
use Rattle.dr_opening.specs.{CatchingUp.opened_with, Contents.{IsCutFor, IsOpenFor, IsRising, IsVoting, voted_for}}
use Rattle.dr_opening.{specs.Lists.as_lists, proofs.Lists.{newer_lists, voted_lists, with_vote_more}}

-- the votes stay, and no age vote goes
pub record KeepsVotes (c now : OnLog) : Type 0 where
  pub votes : now.votes ≡ c.votes
  pub age_votes : (x : AgeVote) → Contains c.age_votes x → Contains now.age_votes x

-- by lists that are the same but for one vote more
keeps_with : (vote : AgeVote) (c now : OnLog) → as_lists now ≡ with_vote_more vote (as_lists c) → KeepsVotes c now
keeps_with vote c now same = record {
  votes = ap (λ (l : LogLists). l.votes) same;
  age_votes = λ x here. subst (λ l. Contains l x) (sym (ap (λ (l : LogLists). l.age_votes) same))
      (Contains-append_left c.age_votes (vote ∷ []) x here);
}

keeps_same : (c now : OnLog) → as_lists now ≡ as_lists c → KeepsVotes c now
keeps_same c now same = record {
  votes = ap (λ (l : LogLists). l.votes) same;
  age_votes = λ x here. subst (λ l. Contains l x) (sym (ap (λ (l : LogLists). l.age_votes) same)) here;
}

-- ---- the first phase

-- either no list changes, or there is the vote more
pub voting_lists : (start : Start) (c now : OnLog) → IsVoting start c now
    → (as_lists now ≡ as_lists c) ⊎ (now ≡ voted_for start c)
voting_lists start c now (inl same) = inl (ap as_lists same)
voting_lists start c now (inr (inl same)) = inl (ap as_lists same ∙ newer_lists c)
voting_lists start c now (inr (inr same)) = inr same

pub voting_keeps : (start : Start) (c now : OnLog) → IsVoting start c now → KeepsVotes c now
voting_keeps start c now way = by (voting_lists start c now way)
  where
    by : (as_lists now ≡ as_lists c) ⊎ (now ≡ voted_for start c) → KeepsVotes c now
    by (inl same) = keeps_same c now same
    by (inr same) = keeps_with (age_vote_of start) c now (ap as_lists same ∙ voted_lists (age_vote_of start) c)

pub voting_waits : (start : Start) (c now : OnLog) → IsVoting start c now
    → MayHaveAgeVote start (as_lists c) (as_lists now)
voting_waits start c now way = by (voting_lists start c now way)
  where
    by : (as_lists now ≡ as_lists c) ⊎ (now ≡ voted_for start c) → MayHaveAgeVote start (as_lists c) (as_lists now)
    by (inl same) = inl same
    by (inr same) = inr (ap as_lists same ∙ voted_lists (age_vote_of start) c)

pub voting_brought : (start : Start) (c now : OnLog) → IsVoting start c now
    → MayBeBroughtUp start c.entries now.entries
voting_brought start c now way = by (voting_lists start c now way)
  where
    by : (as_lists now ≡ as_lists c) ⊎ (now ≡ voted_for start c) → MayBeBroughtUp start c.entries now.entries
    by (inl same) = inl (ap (λ (l : LogLists). l.entries) same)
    by (inr same) = inl (ap (λ (l : LogLists). l.entries) (ap as_lists same ∙ voted_lists (age_vote_of start) c))

-- a log with the vote has it
pub voted_has : (start : Start) (c now : OnLog) → now ≡ voted_for start c → Contains now.age_votes (age_vote_of start)
voted_has start c now same = subst (λ l. Contains l (age_vote_of start))
    (sym (ap (λ (l : LogLists). l.age_votes) (ap as_lists same ∙ voted_lists (age_vote_of start) c)))
    (Contains-push c.age_votes (age_vote_of start))

-- ---- the second phase

-- the votes of either kind are those of the log with the vote
pub record HasVotesOf (voted now : OnLog) : Type 0 where
  pub votes : now.votes ≡ voted.votes
  pub age_votes : now.age_votes ≡ voted.age_votes

cut_votes : (start : Start) (voted now : OnLog) → IsCutFor start voted now → HasVotesOf voted now
cut_votes start voted now (inl (part, same)) = record {
  votes = ap (λ (c : OnLog). c.votes) same;
  age_votes = ap (λ (c : OnLog). c.age_votes) same;
}
cut_votes start voted now (inr (keep, due, same)) = record {
  votes = ap (λ (c : OnLog). c.votes) same;
  age_votes = ap (λ (c : OnLog). c.age_votes) same;
}

pub rising_votes : (start : Start) (voted now : OnLog) → IsRising start voted now → HasVotesOf voted now
rising_votes start voted now (inl same) = record {
  votes = ap (λ (c : OnLog). c.votes) same;
  age_votes = ap (λ (c : OnLog). c.age_votes) same;
}
rising_votes start voted now (inr (inl cut)) = cut_votes start voted now cut
rising_votes start voted now (inr (inr (cut, is, same))) =
    let those = cut_votes start voted cut is in
    record {
      votes = ap (λ (c : OnLog). c.votes) same ∙ those.votes;
      age_votes = ap (λ (c : OnLog). c.age_votes) same ∙ those.age_votes;
    }

-- a log has the vote then too
pub rising_has : (start : Start) (c now : OnLog) → IsRising start (voted_for start c) now
    → Contains now.age_votes (age_vote_of start)
rising_has start c now way = subst (λ l. Contains l (age_vote_of start))
    (sym (rising_votes start (voted_for start c) now way).age_votes) (voted_has start c (voted_for start c) refl)

pub rising_keeps : (start : Start) (c now : OnLog) → IsRising start (voted_for start c) now → KeepsVotes c now
rising_keeps start c now way =
    let those = rising_votes start (voted_for start c) now way in
    let first = keeps_with (age_vote_of start) c (voted_for start c) (voted_lists (age_vote_of start) c) in
    record {
      votes = those.votes ∙ first.votes;
      age_votes = λ x here. subst (λ l. Contains l x) (sym those.age_votes) (first.age_votes x here);
    }

-- what is cut back is a part of the start, with what it had in common with that
cut_part : (start : Start) (voted now : OnLog) → IsCutFor start voted now
    → IsPrefixOf now.entries start.entries × BeginsWithCommon voted.entries start.entries now.entries
cut_part start voted now (inl (part, same)) = subst (λ (c : OnLog). IsPrefixOf c.entries start.entries
    × BeginsWithCommon voted.entries start.entries c.entries) (sym same) (part, λ front of of_other. of)
cut_part start voted now (inr (keep, due, same)) = subst (λ (c : OnLog). IsPrefixOf c.entries start.entries
    × BeginsWithCommon voted.entries start.entries c.entries) (sym same) (due.common.of_other, due.common.longest)

-- the entries of a log that is open are all that the age begins with
pub open_entries : (start : Start) (voted now : OnLog) → IsOpenFor start voted now
    → now.entries ≡ opened_with start start.members
open_entries start voted now (cut, is, same) = ap (λ (c : OnLog). c.entries) same
    ∙ filled cut.entries (opened_with start start.members)
    (part_of_opened cut.entries start.entries (first_view_of start) (cut_part start voted cut is).0)

pub rising_by : (start : Start) (voted now : OnLog) → IsRising start voted now
    → MayBeBroughtUp start voted.entries now.entries
rising_by start voted now (inl same) = inl (ap (λ (c : OnLog). c.entries) same)
rising_by start voted now (inr (inl cut)) =
    let part = cut_part start voted now cut in
    inr (part_of_opened now.entries start.entries (first_view_of start) part.0, part.1)
rising_by start voted now (inr (inr done)) =
    let is = open_entries start voted now done in
    subst (MayBeBroughtUp start voted.entries) (sym is) (inr (
      ([], append-nil (opened_with start start.members)),
      λ front of of_start. part_of_opened front start.entries (first_view_of start) of_start,
    ))

pub rising_brought : (start : Start) (c now : OnLog) → IsRising start (voted_for start c) now
    → MayBeBroughtUp start c.entries now.entries
rising_brought start c now way = subst (λ es. MayBeBroughtUp start es now.entries) (ap (λ (l : LogLists). l.entries)
    (voted_lists (age_vote_of start) c)) (rising_by start (voted_for start c) now way)

pub base_votes : (start : Start) (first base : OnLog) → IsOpenFor start (voted_for start first) base
    → base.votes ≡ first.votes
base_votes start first base opened = (rising_keeps start first base (inr (inr opened))).votes

pub base_age_votes : (start : Start) (first base : OnLog) → IsOpenFor start (voted_for start first) base
    → base.age_votes ≡ first.age_votes ++ age_vote_of start ∷ []
base_age_votes start first base opened = (rising_votes start (voted_for start first) base
    (inr (inr opened))).age_votes ∙ ap (λ (l : LogLists). l.age_votes) (voted_lists (age_vote_of start) first)
