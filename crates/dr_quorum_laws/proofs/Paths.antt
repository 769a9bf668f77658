-- The path of views that the logs handed in name has every view that the histories of the age have.
use Rattle.std.proofs.Common.{◌≡◌, ◌≢◌, ◌⊎◌, inl, inr, refl, ap, sym, ◌∙◌, subst, ℕ, zero, suc, ◌+◌, ◌-◌, ◌^◌, ◌<◌, ◌≤◌, nat_lt, arith, true, List, Contains, None, Some, option_and_then, option_map, if◌then◌else◌}
use Rattle.dr_entry.{specs.declared.record.{Value.Value, Vote.Vote}, proofs.NumberFacts.below-last}
use Rattle.dr_faithful.{specs.Chosen.views_by, proofs.ChosenViews.views-within}
use Rattle.dr_history.{specs.{Members.has, Order.IsNewIn}, proofs.Bits.has_zero}
use Rattle.dr_machine.specs.{Group.{Group, IsGroup, IsPresent, roster}, Votes.{HasLogged, IsOf, vote_in}, World.World}
use Rattle.dr_machine.proofs.Presence.{in_roster}
use Rattle.dr_restart.specs.Choosing.{HasQuorum, Handed, highest, names_next, next_on_path, next_votes, of_set, on_path}
use Rattle.dr_restart.specs.{Left.IsLeftByMember, declared.lists.{Attempt.Attempt, LogLists.LogLists}}
use Rattle.dr_restart.proofs.Choosing.{names_so, names_parts, vote-among, among-vote}
use Rattle.dr_restart.proofs.Handing.{left-vote, logged-left, quorum-meets, set-log, was-left}
use Rattle.dr_restart.proofs.Listed.{highest-in, highest-is}
use Rattle.dr_vote_laws.{specs.Voting.{HaveVotedFor, IsCut}, proofs.Cuts.vote_cut}
use Rattle.dr_words.{specs.Masks.{next_members, without}, proofs.Majorities.majorities_meet_lem}
use Rattle.dr_words.proofs.Masks.{has_next_members, of-roster-alone}
use Rattle.dr_world_laws.{specs.Views.HasView, proofs.Ended.{first-view, view-before, view-present}}
use Rattle.dr_world_laws.proofs.{HeldViews.view-is, Telling.view-ended, Worlds.Known}
use Rattle.dr_quorum_laws.proofs.{Extra.left-value, Handing.Since}

-- ---- votes that name the next view

-- a vote of a view names the next one: it names somebody, and somebody stays
vote_names : (g : Group) (w : World) (i members : ℕ) (x : Vote) → IsGroup g → Known g w → HasView g w x.view members
    → HasLogged w.past.votes i x → names_next (roster g) g.opening.age x.view members x ≡ true
vote_names g w i members x is y held h = names_so (roster g) g.opening.age x.view members x
    (ap (λ (z : Vote). z.age) own) refl (ap (λ (z : Vote). z.members) own) some inside left
  where
    own : x ≡ vote_in g x.view x.ballot x.value
    own = y.chosen.voting.valid.own i x h

    same : views_by g y.values x.view ≡ members
    same = view-is g y.values w x.view members is y.chosen held

    cut : IsCut g.opening (views_by g y.values) w.past.own x.view x.value
    cut = vote_cut g (views_by g y.values) w i x y.chosen.voting h

    some : x.value.leavers ≢ 0
    some e = absurd (grind (arith, ap (λ mask. has mask cut.named.0) e, cut.named.1, has_zero cut.named.0))

    there : (j : ℕ) → (has (views_by g y.values x.view) j ≡ true)
        ⊎ IsNewIn g.opening (views_by g y.values) x.view j → j < roster g
    there j (inl h) = views-within g y.values x.view j is h
    there j (inr new) = in_roster g j is new.late.0

    inside : without x.value.leavers (2 ^ roster g - 1) ≡ 0
    inside = of-roster-alone (roster g) x.value.leavers (λ j h. there j (cut.newcomers j h))

    met : (m : ℕ) × (has cut.mask m ≡ true) × (has cut.mask m ≡ true) × (has (views_by g y.values x.view) m ≡ true)
    met = let t = majorities_meet_lem (views_by g y.values x.view) cut.mask cut.mask cut.part cut.part
        cut.majority cut.majority in (t.0, t.3, t.3, t.2)

    left : next_members members x.value.leavers ≢ 0
    left e =
        let here : has members met.0 ≡ true = sym (ap (λ mask. has mask met.0) same) ∙ met.3 in
        absurd (grind (
          arith,
          has_next_members members x.value.leavers met.0
              (omega (arith, views-within g y.values x.view met.0 is met.3, is.most_members)),
          cut.leavers met.0 met.3,
          met.1,
          here,
          ap (λ mask. has mask met.0) e,
          has_zero met.0,
        ))

-- ---- the path

-- where more than half of a view has handed in its logs, the vote of the highest ballot on them is for the
-- value with which the view ended
next_is : (g : Group) (w : World) (choice logs : List LogLists) (tries : List Attempt) (set v members next : ℕ)
    → Since g w choice tries logs → HasView g w v members → HasView g w (suc v) next
    → HasQuorum (of_set logs set) members
    → next_on_path (of_set logs set) (roster g) g.opening.age v members ≡ Some next
next_is g w choice logs tries set v members next s held after quorum = from top
  where
    h : Handed
    h = of_set logs set

    is : IsGroup g
    is = s.group

    ended : (b : ℕ) × (x : Value) × HaveVotedFor w.past.votes members v b x × (next ≡ next_members members x.leavers)
    ended = let plus : suc v ≡ v + 1 = omega arith in
        view-ended g w v members next s.group s.known held (subst (λ k. HasView g w k next) plus after)

    met : (m : ℕ) × (has members m ≡ true) × (has ended.2.mask m ≡ true)
        × (log : LogLists) × (of_set logs set m ≡ Some log)
    met = quorum-meets (of_set logs set) members ended.2.mask quorum ended.2.part ended.2.majority

    one : (x : Vote) × HasLogged w.past.votes met.0 x × (IsOf x v ended.0 × (x.value ≡ ended.1))
    one = ended.2.each met.0 met.2

    there : (m : ℕ) → has members m ≡ true → IsPresent g m
    there m e = view-present g w v members m s.group s.known held e

    -- the votes on a log handed in are those that were left
    same_votes : (m : ℕ) (log : LogLists) → has members m ≡ true → of_set logs set m ≡ Some log
        → (was : LogLists) × IsLeftByMember g w m was × (log.votes ≡ was.votes)
    same_votes m log e at =
        let t = was-left g w choice m s.group s.left (there m e) in
        (t.0, t.2, s.held.votes m t.0 log (there m e) t.1 (set-log logs set m log at).1)

    found : Contains (next_votes (of_set logs set) (roster g) g.opening.age v members) one.0
    found =
        let t = same_votes met.0 met.3 met.1 met.4 in
        vote-among (of_set logs set) (roster g) g.opening.age v members met.0 met.3 one.0 met.4 met.1
        (omega (arith, in_roster g met.0 s.group (there met.0 met.1), s.group.most_members))
        (subst (λ l. Contains l one.0) (sym t.2) (logged-left g w met.0 t.0 one.0 t.1 one.1))
        (subst (λ k. names_next (roster g) g.opening.age k members one.0 ≡ true) one.2.0.in_view
        (vote_names g w met.0 members one.0 s.group s.known
        (subst (λ k. HasView g w k members) (sym one.2.0.in_view) held) one.1))

    top : (y : Vote) × (highest (next_votes (of_set logs set) (roster g) g.opening.age v members) ≡ Some y)
        × (one.0.ballot ≤ y.ballot)
    top = highest-is (next_votes (of_set logs set) (roster g) g.opening.age v members) one.0 found

    from : (y : Vote) × (highest (next_votes (of_set logs set) (roster g) g.opening.age v members) ≡ Some y)
        × (one.0.ballot ≤ y.ballot) → next_on_path (of_set logs set) (roster g) g.opening.age v members ≡ Some next
    from (y, e, l) =
        let a = among-vote (of_set logs set) (roster g) g.opening.age v members y
        (highest-in (next_votes (of_set logs set) (roster g) g.opening.age v members) y e) in
        let t = same_votes a.0 a.1 a.3 a.2 in
        let p = names_parts (roster g) g.opening.age v members y a.5 in
        let value : y.value ≡ ended.1 = left-value g w a.0 ended.0 members ended.1 y s.group s.known
        (subst (λ k. HasView g w k members) (sym p.1) held)
        (subst (λ k. HaveVotedFor w.past.votes members k ended.0 ended.1) (sym p.1) ended.2)
        (omega (arith, l, one.2.0.by_ballot)) (left-vote g w a.0 t.0 y t.1 (subst (λ l. Contains l y) t.2 a.4) p.0) in
        ap (option_map (λ (x : Vote). next_members members x.value.leavers)) e
        ∙ ap (λ (x : Value). Some (next_members members x.leavers)) value ∙ ap Some (sym ended.3)

-- so each view of the histories is on the path, where of each view on it more than half has
pub path-has : (g : Group) (w : World) (choice logs : List LogLists) (tries : List Attempt) (set v members : ℕ)
    → Since g w choice tries logs → ((u mask : ℕ) → on_path (of_set logs set)
    (roster g) g.opening.age g.opening.members u ≡ Some mask → HasQuorum (of_set logs set) mask)
    → HasView g w v members → on_path (of_set logs set) (roster g) g.opening.age g.opening.members v ≡ Some members
unfolding on_path
path-has g w choice logs tries set zero members s quorum held =
    ap Some (sym (first-view g w members s.group s.known held))
path-has g w choice logs tries set (suc v) members s quorum held = by (view-before g w v members s.group s.known held)
    (λ mask. path-has g w choice logs tries set v mask s quorum)
  where
    h : Handed
    h = of_set logs set

    by : (v + 1 < 32) × (mask : ℕ) × HasView g w v mask → ((mask : ℕ) → HasView g w v mask
        → on_path (of_set logs set) (roster g) g.opening.age g.opening.members v ≡ Some mask)
        → (if nat_lt v 255 then option_and_then (next_on_path (of_set logs set) (roster g) g.opening.age v)
        (on_path (of_set logs set) (roster g) g.opening.age g.opening.members v) else None) ≡ Some members
    by (few, mask, before) rest =
        let less : nat_lt v 255 ≡ true = below-last v few in
        let at = rest mask before in
        rw (less, at) (next_is g w choice logs tries set v mask members s before held (quorum v mask at))
