-- Votes with those that members may have begun to log before they ended: they still have one value.
use Rattle.std.proofs.{Common.{◌≡◌, sym, ◌⊎◌, inl, inr, subst, true, ℕ, ◌≤◌}, lemmas.Option.none-some}
use Rattle.dr_entry.specs.declared.record.{Value.Value, Vote.Vote}
use Rattle.dr_faithful.{specs.{Chosen.{AreChosen, Values, views_by}, Tells.Views}, proofs.ChosenViews.views-there}
use Rattle.dr_faithful.proofs.Faithfulness.{past_on_event}
use Rattle.dr_history.specs.{Members.has, Order.IsNewIn}
use Rattle.dr_machine.specs.{Effects.{logs_vote, vote_for}, Group.{Group, IsGroup, IsPresent}, Guards.CanLogVote}
use Rattle.dr_machine.specs.{Run.PastGrew, Votes.HasLogged, World.World, declared.event.Event.TheVariants.LogVote}
use Rattle.dr_machine.proofs.Voting.{logged_new}
use Rattle.dr_vote_laws.{specs.Voting.{HaveVotedFor, IsChosen, Voting}, proofs.Cuts.vote_cut}
use Rattle.dr_vote_laws.proofs.Values.{chosen_since, value-of}
use Rattle.dr_world_laws.{specs.Views.HasView, proofs.{HeldViews.view-is, Reached.{all-go_on, event-known}}}
use Rattle.dr_world_laws.proofs.Worlds.{Known}
use Rattle.dr_world_laws.proofs.Reached as worlds
use Rattle.dr_restart.specs.Left.{MayLogVote, without_ends}

-- what is known of a world is so without its ends
pub endless-known : (g : Group) (values : Values) (w : World) → worlds.Known g values w
    → worlds.Known g values (without_ends w)
endless-known g values w y = record {
  faithful = record {
    beginning = y.faithful.beginning;
    views = y.faithful.views;
    items = y.faithful.items;
    sent = y.faithful.sent;
    counts = y.faithful.counts;
    suspicions = y.faithful.suspicions;
    accepts = y.faithful.accepts;
    words = record { own = y.faithful.words.own; table = y.faithful.words.table; seen = y.faithful.words.seen };
    logs = y.faithful.logs;
    delivered = y.faithful.delivered;
    fresh = y.faithful.fresh;
    closed = y.faithful.closed;
    old = y.faithful.old;
    form = y.faithful.form;
  };
  laid = record {
    historic = record {
      history = y.laid.historic.history;
      goes = y.laid.historic.goes;
      based = y.laid.historic.based;
    };
    left = λ m v l less. let t = y.laid.left m v l less in record {
      ended = t.ended;
      least = t.least;
      covered = t.covered;
    };
  };
  complete = record {
    durable = y.complete.durable;
    shown = λ m e. absurd (none-some _ e);
    inside = λ m e. absurd (none-some _ e);
  };
  voting = y.voting;
  ballots = y.ballots;
  wedged = y.wedged;
  letters = y.letters;
}

-- the world in which a member has logged a vote that it may log
pub extra-known : (g : Group) (values : Values) (w : World) (m : ℕ) (v : Value) → IsGroup g
    → AreChosen values w → worlds.Known g values w → CanLogVote g (without_ends w) m v
    → worlds.Known g values (logs_vote g (without_ends w) m v)
extra-known g values w m v is chosen y can =
    event-known g values (without_ends w) (LogVote m v) is chosen can (endless-known g values w y)

extra-grew : (g : Group) (values : Values) (w : World) (m : ℕ) (v : Value) → IsGroup g
    → AreChosen values w → worlds.Known g values w → CanLogVote g (without_ends w) m v
    → PastGrew w.past (logs_vote g (without_ends w) m v).past
extra-grew g values w m v is chosen y can =
    let t = endless-known g values w y in
    past_on_event g (views_by g values) (without_ends w) (LogVote m v) is
    (all-go_on g values (without_ends w) is t chosen) can t.faithful

-- so is each that a member may have begun to log
pub left-value : (g : Group) (w : World) (m b members : ℕ) (x : Value) (z : Vote) → IsGroup g → Known g w
    → HasView g w z.view members → HaveVotedFor w.past.votes members z.view b x → b ≤ z.ballot
    → HasLogged w.past.votes m z ⊎ MayLogVote g w m z → z.value ≡ x
left-value g w m b members x z is y held voted l = by
  where
    V : Views
    V = views_by g y.values

    chosen : IsChosen (views_by g y.values) w.past.votes z.view b x
    chosen = subst (λ mask. HaveVotedFor w.past.votes mask z.view b x)
        (sym (view-is g y.values w z.view members is y.chosen held)) voted

    by : HasLogged w.past.votes m z ⊎ MayLogVote g w m z → z.value ≡ x
    by (inl h) = value-of g (views_by g y.values) w m b x z y.chosen.voting chosen l h
    by (inr (v, can, e)) =
        let u = logs_vote g (without_ends w) m v in
        let t = extra-known g y.values w m v is y.by.now y.chosen can in
        value-of g (views_by g y.values) u m b x z t.voting
        (chosen_since (views_by g y.values) w u z.view b x (extra-grew g y.values w m v is y.by.now y.chosen can)
        chosen) l (subst (HasLogged u.past.votes m) (sym e) (logged_new w.past.votes m (vote_for g w m v)))

-- whom a vote names that a member has logged, or may have begun to log, is there
pub vote-present : (g : Group) (w : World) (m j : ℕ) (x : Vote) → IsGroup g → Known g w
    → HasLogged w.past.votes m x ⊎ MayLogVote g w m x → has x.value.leavers j ≡ true → IsPresent g j
vote-present g w m j x is y held h = by held
  where
    named : (has (views_by g y.values x.view) j ≡ true) ⊎ IsNewIn g.opening (views_by g y.values) x.view j
        → IsPresent g j
    named (inl there) = views-there g y.values x.view j is there
    named (inr new) = new.late.0

    of : (u : World) → Voting g (views_by g y.values) u → HasLogged u.past.votes m x → IsPresent g j
    of u voting logged = named ((vote_cut g (views_by g y.values) u m x voting logged).newcomers j h)

    by : HasLogged w.past.votes m x ⊎ MayLogVote g w m x → IsPresent g j
    by (inl logged) = of w y.chosen.voting logged
    by (inr (v, can, e)) =
        let u = logs_vote g (without_ends w) m v in
        of u (extra-known g y.values w m v is y.by.now y.chosen can).voting
        (subst (HasLogged u.past.votes m) (sym e) (logged_new w.past.votes m (vote_for g w m v)))
