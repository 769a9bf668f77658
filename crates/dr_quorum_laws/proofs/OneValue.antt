-- All votes that were left are of one world: that in which each member has logged the vote that it may have
-- begun to log. So they agree on one value.
use Rattle.std.proofs.Common.{◌≡◌, refl, ap, sym, ◌∙◌, ◌⊎◌, inl, inr, subst, ℕ, zero, suc, ◌<◌, ◌≤◌, arith, Bool, true, false, List, Some}
use Rattle.std.proofs.lemmas.{Bool.cases_lt, Option.slice_get_within}
use Rattle.dr_entry.specs.declared.record.{Value.Value, Vote.Vote}
use Rattle.dr_faithful.specs.Chosen.{AreChosen, Values, views_by}
use Rattle.dr_history.specs.Members.{has}
use Rattle.dr_machine.{specs.{Effects.{logs_vote, vote_for}, Guards.CanLogVote}, proofs.Worlds.vote-apart}
use Rattle.dr_machine.{specs.{Group.{Group, IsGroup, roster}, World.World}, proofs.Voting.{logged_new, logged_stays}}
use Rattle.dr_machine.specs.{Votes.{HasLogged, IsOf, MajorityHas}, declared.event.Event.TheVariants.LogVote}
use Rattle.dr_restart.specs.Left.{AreLeft, MayLogVote, votes_on_logs, without_ends}
use Rattle.dr_restart.{specs.declared.lists.LogLists.LogLists, proofs.Handing.{logged-left, was-left}}
use Rattle.dr_restart.proofs.LeftVotes.{absent-none, one-left, vote-left, left-on}
use Rattle.dr_vote_laws.{specs.Voting.HaveVotedFor, proofs.Values.{majority_stays, same_ballot}}
use Rattle.dr_world_laws.{specs.Views.HasView, proofs.{Ended.view-present, HeldViews.view-is, Reached.event-known}}
use Rattle.dr_world_laws.proofs.{Telling.has-present, Worlds.{Known, commits}}
use Rattle.dr_world_laws.proofs.Reached as worlds
use Rattle.dr_quorum_laws.proofs.Extra.{endless-known}

-- a world in which the members below a number have logged what they may have begun to log
record HaveLogged (g : Group) (values : Values) (w : World) (logs : List LogLists) (n : ℕ) : Type 0 where
  world : World
  known : worlds.Known g values world
  chosen : AreChosen values world
  logged : (i : ℕ) (x : Vote) → i < n → HasLogged (votes_on_logs g logs) i x → HasLogged world.past.votes i x
  may : (i : ℕ) (v : Value) → n ≤ i → CanLogVote g (without_ends w) i v → CanLogVote g world i v
  same : (i : ℕ) (v : Value) → vote_for g world i v ≡ vote_for g w i v
  before : (i : ℕ) (x : Vote) → HasLogged w.past.votes i x → HasLogged world.past.votes i x

-- one member more
next-logged : (g : Group) (values : Values) (w : World) (logs : List LogLists) (n : ℕ) → IsGroup g
    → AreLeft g w logs → HaveLogged g values w logs n → HaveLogged g values w logs (suc n)
next-logged g values w logs n is left old = by (has g.opening.present n) refl
  where
    u : World
    u = old.world

    below : (P : Vote → ℕ → Type 0) (x : Vote) (i : ℕ) → i < suc n → (i < n → P x i) → (i ≡ n → P x i) → P x i
    below P x i l one other = case (cases_lt i n)
      where
        case : (i < n) ⊎ (n ≤ i) → P x i
        case (inl less) = one less
        case (inr more) = other (omega (arith, l, more))

    stays : ((x : Vote) → HasLogged (votes_on_logs g logs) n x → HasLogged old.world.past.votes n x)
        → HaveLogged g values w logs (suc n)
    stays all = record {
      world = old.world;
      known = old.known;
      chosen = old.chosen;
      logged = λ i x l h. below (λ x i. HasLogged old.world.past.votes i x) x i l (λ less. old.logged i x less h)
          (λ e. subst (λ j. HasLogged old.world.past.votes j x) (sym e)
          (all x (subst (λ j. HasLogged (votes_on_logs g logs) j x) e h)));
      may = λ i v l can. old.may i v (omega (arith, l)) can;
      same = old.same;
      before = old.before;
    }

    more : (z : Vote) → MayLogVote g w n z
        → ((x : Vote) → HasLogged (votes_on_logs g logs) n x → HasLogged w.past.votes n x ⊎ (z ≡ x))
        → HaveLogged g values w logs (suc n)
    more z (v, can, e) all = record {
      world = logs_vote g old.world n v;
      known = event-known g values old.world (LogVote n v) is old.chosen now old.known;
      chosen = old.chosen;
      logged = λ i x l h. below (λ x i. HasLogged (logs_vote g old.world n v).past.votes i x) x i l (λ less. stay i x
          (old.logged i x less h)) (λ j. subst (λ k. HasLogged (logs_vote g old.world n v).past.votes k x)
          (sym j) (new x (all x (subst (λ k. HasLogged (votes_on_logs g logs) k x) j h))));
      may = λ i u l may. vote-apart g old.world i n u v (λ same. absurd (omega (arith, l, same)))
          (old.may i u (omega (arith, l)) may);
      same = old.same;
      before = λ i x h. stay i x (old.before i x h);
    }
      where
        now : CanLogVote g old.world n v
        now = old.may n v (omega arith) can

        stay : (i : ℕ) (x : Vote) → HasLogged old.world.past.votes i x
            → HasLogged (logs_vote g old.world n v).past.votes i x
        stay i x h = logged_stays old.world.past.votes n (vote_for g old.world n v) i x h

        new : (x : Vote) → HasLogged w.past.votes n x ⊎ (z ≡ x) → HasLogged (logs_vote g old.world n v).past.votes n x
        new x (inl h) = stay n x (old.before n x h)
        new x (inr same) = subst (HasLogged (logs_vote g old.world n v).past.votes n) (old.same n v ∙ sym e ∙ same)
            (logged_new old.world.past.votes n (vote_for g old.world n v))

    there : ((x : Vote) → HasLogged (votes_on_logs g logs) n x → HasLogged w.past.votes n x)
        ⊎ ((z : Vote) × MayLogVote g w n z
        × ((x : Vote) → HasLogged (votes_on_logs g logs) n x → HasLogged w.past.votes n x ⊎ (z ≡ x)))
        → HaveLogged g values w logs (suc n)
    there (inl all) = stays (λ x h. old.before n x (all x h))
    there (inr (z, may, all)) = more z may all

    by : (b : Bool) → has g.opening.present n ≡ b → HaveLogged g values w logs (suc n)
    by false e = stays (λ x h. absurd (absent-none g w logs n x left (λ there. absurd (cc (there, e))) h))
    by true e = there (one-left g w logs n left e)

logged-below : (g : Group) (values : Values) (w : World) (logs : List LogLists) → IsGroup g
    → AreChosen values w → worlds.Known g values w → AreLeft g w logs → (n : ℕ) → HaveLogged g values w logs n
logged-below g values w logs is chosen y left zero = record {
  world = without_ends w;
  known = endless-known g values w y;
  chosen = chosen;
  logged = λ i x l h. absurd (omega (arith, l));
  may = λ i v l can. can;
  same = λ i v. refl;
  before = λ i x h. h;
}
logged-below g values w logs is chosen y left (suc n) =
    next-logged g values w logs n is left (logged-below g values w logs is chosen y left n)

-- the world of all
all-logged : (g : Group) (w : World) (logs : List LogLists) → IsGroup g → (y : Known g w) → AreLeft g w logs
    → HaveLogged g y.values w logs (roster g)
all-logged g w logs is y left = logged-below g y.values w logs is y.by.now y.chosen left (roster g)

logged-there : (g : Group) (w : World) (logs : List LogLists) (is : IsGroup g) (y : Known g w)
    (left : AreLeft g w logs) (i : ℕ) (x : Vote) → HasLogged (votes_on_logs g logs) i x
    → HasLogged (all-logged g w logs is y left).world.past.votes i x
logged-there g w logs is y left i x h =
    let t = vote-left g logs i x h in
    (all-logged g w logs is y left).logged i x (omega (arith, slice_get_within logs i t.0 t.1, left.all)) h

-- ---- the laws

pub left-ballot : (g : Group) (w : World) (logs : List LogLists) (i j : ℕ) (x z : Vote) → IsGroup g → Known g w
    → AreLeft g w logs → HasLogged (votes_on_logs g logs) i x → HasLogged (votes_on_logs g logs) j z
    → IsOf z x.view x.ballot → x ≡ z
left-ballot g w logs i j x z is y left h k of = same_ballot g
    (views_by g y.values) (all-logged g w logs is y left).world i j x z (all-logged g w logs is y left).known.voting
    (logged-there g w logs is y left i x h) (logged-there g w logs is y left j z k) of

pub left-majority : (g : Group) (w : World) (logs : List LogLists) (i j members : ℕ) (x z : Vote) → IsGroup g
    → Known g w → AreLeft g w logs → HasView g w x.view members → HasLogged (votes_on_logs g logs) i x
    → HasLogged (votes_on_logs g logs) j z → MajorityHas (votes_on_logs g logs) members (λ a. IsOf a x.view x.ballot)
    → z.view ≡ x.view → x.ballot ≤ z.ballot → z.value ≡ x.value
left-majority g w logs i j members x z is y left held h k most view above = majority_stays g
    (views_by g y.values) (all-logged g w logs is y left).world i j x z (all-logged g w logs is y left).known.voting
    (logged-there g w logs is y left i x h) (logged-there g w logs is y left j z k)
    (subst (λ mask. MajorityHas (all-logged g w logs is y left).world.past.votes mask (λ a. IsOf a x.view x.ballot))
    (sym (view-is g y.values w x.view members is y.chosen held)) there) view above
  where
    there : MajorityHas (all-logged g w logs is y left).world.past.votes members (λ a. IsOf a x.view x.ballot)
    there = record {
      mask = most.mask;
      part = most.part;
      majority = most.majority;
      each = λ m e. let t = most.each m e in (t.0, logged-there g w logs is y left m t.0 t.1, t.2);
    }

pub left-committed : (g : Group) (w : World) (logs : List LogLists) (m : ℕ) (v : Value) → IsGroup g → Known g w
    → AreLeft g w logs → w.committed m ≡ Some v
    → (ballot : ℕ) × HaveVotedFor (votes_on_logs g logs) (w.members m) (w.past.view m) ballot v
left-committed g w logs m v is y left e =
    let t = commits g w m v y e in (
      t.0,
      record {
        mask = t.1.mask;
        part = t.1.part;
        majority = t.1.majority;
        each = λ i h. let one = t.1.each i h in (one.0, there i one.0 (t.1.part i h) one.1, one.2);
      },
    )
  where
    there : (i : ℕ) (x : Vote) → has (w.members m) i ≡ true → HasLogged w.past.votes i x
        → HasLogged (votes_on_logs g logs) i x
    there i x h logged =
        let present = view-present g w (w.past.view m) (w.members m) i is y (has-present g w m is y) h in
        let was = was-left g w logs i is left present in
        left-on g logs i was.0 x was.1 (logged-left g w i was.0 x was.2 logged)
        (ap (λ (z : Vote). z.age) (y.chosen.voting.valid.own i x logged))
