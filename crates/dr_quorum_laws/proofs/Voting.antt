-- What holds of logs holds once they have more votes for ages.
use Rattle.std.proofs.Common.{◌≡◌, sym, ◌∙◌, ◌⊎◌, inl, inr, subst, ℕ, List, ◌∷◌, ◌++◌, take, Contains, Some, slice_get}
use Rattle.dr_entry.specs.{declared.entry.Entry.{Entry, TheVariants.View}, declared.record.Vote.Vote}
use Rattle.dr_history.specs.{Restarting.AllStand, History.IsPrefixOf, declared.opening.Opening.Opening}
use Rattle.dr_machine.specs.{Group.Group, World.World}
use Rattle.dr_restart.specs.{Left.IsOfEarlierAges, Trying.HaveAgeVote}
use Rattle.dr_restart.specs.declared.{lists.{Attempt.Attempt, LogLists.LogLists}, start.Start.Start}
use Rattle.dr_script.specs.declared.script.Script.{Script}
use Rattle.dr_quorum_laws.specs.Holding.{HaveNoLaterVotes, HoldSince, IsOfAgeOrEarlier, IsOpenedTry}
use Rattle.dr_quorum_laws.specs.Lasting.{AreLasting, HoldSinceAge, HoldTriesAlone}
use Rattle.dr_quorum_laws.specs.Voting.{HasMoreAgeVotes, HaveMoreAgeVotes}

-- a log of the age or of earlier ones still is
grown-more : (g : Group) (history : List Entry) (tries : List Attempt) (old new : LogLists)
    → HasMoreAgeVotes old new → IsOfAgeOrEarlier g history tries old → IsOfAgeOrEarlier g history tries new
grown-more g history tries old new more (inl o) = inl (
  (o.0.0, subst (λ es. Contains es (View g.opening.age 0 o.0.0)) (sym more.entries) o.0.1),
  o.1,
  record { views = o.2.views; is = more.entries ∙ o.2.is; delivered = o.2.delivered; opened = o.2.opened },
)
grown-more g history tries old new more (inr o) = inr (
  subst (λ es. AllStand g.opening es) (sym more.entries) o.0,
  record {
    views = λ a n k c. o.1.views a n k (subst (λ es. Contains es (View a n k)) more.entries c);
    votes = λ x c. o.1.votes x (subst (λ vs. Contains vs x) more.votes c);
  },
)

-- each log of a set still has an age vote
voted-more : (before after : List LogLists) → HaveMoreAgeVotes before after → (set : ℕ) (start : Start)
    → HaveAgeVote before set start → HaveAgeVote after set start
voted-more before after more set start have m log is =
    let o = more.each m log is.1 in o.2.age_votes _ (have m o.0 (is.0, o.1))

pub later-more : (before after : List LogLists) → HaveMoreAgeVotes before after → (age : ℕ)
    → HaveNoLaterVotes age before → HaveNoLaterVotes age after
later-more before after more age none m log x at c =
    let o = more.each m log at in none m o.0 x o.1 (subst (λ vs. Contains vs x) o.2.votes c)

pub since-more : (g : Group) (w : World) (choice before after : List LogLists) (tries : List Attempt)
    → HaveMoreAgeVotes before after → HoldSince g w choice tries before → HoldSince g w choice tries after
since-more g w choice before after tries more held = record {
  history = held.history;
  longest = held.longest;
  all = more.places ∙ held.all;
  votes = λ m was log there a at. let o = more.each m log at in o.2.votes ∙ held.votes m was o.0 there a o.1;
  begins = λ m d k was log there a at l j n. let o = more.each m log at in
      subst (λ es. IsPrefixOf (take d held.history) es) (sym o.2.entries) (held.begins m d k was o.0 there a o.1 l j n);
  grown = λ m log at. let o = more.each m log at in
      grown-more g held.history tries o.0 log o.2 (held.grown m o.0 o.1);
  voted = λ try opened. voted-more before after more try.set try.start (held.voted try opened);
  rising = held.rising;
  above = held.above;
  started = λ try m log front behind opened at e. let o = more.each m log at in
      held.started try m o.0 front behind opened o.1 (sym o.2.entries ∙ e);
  part = held.part;
  majority = held.majority;
  kept = held.kept;
}

pub alone-more : (o : Opening) (tries : List Attempt) (before after : List LogLists)
    → HaveMoreAgeVotes before after → HoldTriesAlone o tries before → HoldTriesAlone o tries after
alone-more o tries before after more held = record {
  voteless = λ m log at. let old = more.each m log at in old.2.votes ∙ held.voteless m old.0 old.1;
  views = λ m log front behind e at is. let old = more.each m log at in
      held.views m old.0 front behind e old.1 (sym old.2.entries ∙ is);
  voted = λ try opened. voted-more before after more try.set try.start (held.voted try opened);
  rising = held.rising;
  sound = held.sound;
  part = held.part;
  majority = held.majority;
}

-- what lasts does so
pub lasting-more : (script : Script) (es : List Entry) (before after : List LogLists)
    → HaveMoreAgeVotes before after → AreLasting script es before → AreLasting script es after
lasting-more script es before after more (inl (start, w, since, durable)) = inl (
  start,
  w,
  record {
    group = since.group;
    reached = since.reached;
    majority = since.majority;
    choice = since.choice;
    left = since.left;
    tries = since.tries;
    sound = since.sound;
    voteless = later-more before after more start.age since.voteless;
    held = since-more _ w since.choice before after since.tries more since.held;
  },
  durable,
)
lasting-more script es before after more (inr (tries, alone, all, none)) =
    inr (tries, alone-more _ tries before after more alone, more.places ∙ all, none)
