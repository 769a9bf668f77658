-- A replica may vote, act on its vote and commit exactly where that may come, and what it makes of the world.
use Rattle.std.{specs.Prelude.{Option, Some, None, is_some, unwrap_or}, proofs.Math.Path.fun_ext}
use Rattle.std.proofs.Common.{◌≡◌, ◌↔◌, refl, sym, ap, ◌∙◌, subst, ℕ, ◌+◌, ◌^◌, ◌<◌, ◌≤◌, ◌==◌, ◌||◌, ◌⊎◌, inl, inr, not, Bool, true, false, if◌then◌else◌, List, [], ◌∷◌, ◌++◌, length, arith}
use Rattle.std.proofs.lemmas.{Bool.{and_from, and_parts, cases_eq, eq-eqb, eqb-true}, List.length-take-le}
use Rattle.dr_entry.{specs.declared.record.{Value.Value, Vote.Vote}, proofs.NumberFacts.{same_number, other_number}}
use Rattle.dr_entry.proofs.OptionFacts.{not_less, none_test}
use Rattle.dr_history.specs.Members.{has}
use Rattle.dr_rows.{specs.Words.{own, seen}, proofs.Rewrites.{IsWords-rewritten, own_rewritten_all, seen_rewritten}}
use Rattle.dr_words.specs.{Accepts.{Shown, Shows, promise_of}, Changes.{IsProposal, MayAccept, MayCommit, MayPropose}}
use Rattle.dr_words.specs.{Choices.{proposal, shown_value}, Masks.without, Rewrites.accepted_word}
use Rattle.dr_words.proofs.Choices.{accept_test, commit_test, proposal_is, propose_test, shows_value}
use Rattle.dr_words.proofs.{Masks.{has_without_mask, in_roster_small}, Rewrites.accepted_rest}
use Rattle.dr_words.proofs.Values.{proposal_once, shows_once}
use Rattle.dr_machine.specs.{Effects.{accepts, commits, logs_vote, stamped}, Group.{Group, roster}}
use Rattle.dr_machine.specs.{Guards.{CanAccept, CanCommit, CanLogVote, CanPropose}, Votes.vote_in}
use Rattle.dr_machine.{specs.{World.{World, no_vote, shown}, Writes.at}, proofs.Writes.row_written}
use Rattle.dr_faithful.proofs.Copies.{Fits}
use Rattle.dr_program.specs.{Presence.with_present, Reading.{Shared, kept_word, world_of}}
use Rattle.dr_program.specs.Replica.{Replica, accepted, acted, decided, is_inside, is_others, is_own, is_value, is_wedged, may_append, may_commit, may_vote, me, promise, value_due, vote_of, voted}
use Rattle.dr_program.proofs.Holdings.{held_of, holding_of, own_here, replaced, shown_seen, vote_after, vote_changes, commit_after, commit_changes, accept_from, accept_after, accept_changes}
use Rattle.dr_program.proofs.{Present.present_within, Voting.{value_long, value_test}}
use Rattle.dr_program.specs.Replica as replicas
use Rattle.dr_refine.{specs.Programs.{IsMember, acted_table}, proofs.Members.{fits, then_acted}}
use Rattle.dr_refine.proofs.Guards.{IsIdle, in_view_test, may_choose, members_are, running, suspects_are, wedged}

-- ---- the rows

-- the rows that the member shows are those of its replica
shows_rows : (g : Group) (rs : List (Option Replica)) (table : Shared) (m : ℕ) (r : Replica)
    → IsMember g rs table m r → ◌≡◌ {A = ℕ → ℕ → ℕ} (shown (world_of g rs table) m) (seen r.rows)
shows_rows g rs table m r is = fun_ext λ i. fun_ext λ c. shown_seen g rs table m r i c is.there is.of.number

-- what holds of them, of the view and of the suspects holds in the world
to_world : (g : Group) (rs : List (Option Replica)) (table : Shared) (m : ℕ) (r : Replica)
    (P : ℕ → Shown → ℕ → ℕ → ℕ → Type 0) → IsMember g rs table m r
    → P r.roster (seen r.rows) r.members r.suspects (me r)
    → P (roster g) (shown (world_of g rs table) m) ((world_of g rs table).members m)
    ((world_of g rs table).suspects m) m
to_world g rs table m r P is p =
    let w : World = world_of g rs table in
    subst (λ k. P (roster g) (shown w m) (w.members m) (w.suspects m) k) is.of.number
    (subst (λ k. P (roster g) (shown w m) (w.members m) k (me r)) (sym (suspects_are g rs table m r is))
    (subst (λ k. P (roster g) (shown w m) k r.suspects (me r)) (sym (members_are g rs table m r is))
    (subst (λ f. P (roster g) f r.members r.suspects (me r)) (sym (shows_rows g rs table m r is))
    (subst (λ k. P k (seen r.rows) r.members r.suspects (me r)) is.of.members p))))

-- and the other way round
from_world : (g : Group) (rs : List (Option Replica)) (table : Shared) (m : ℕ) (r : Replica)
    (P : ℕ → Shown → ℕ → ℕ → ℕ → Type 0) → IsMember g rs table m r
    → P (roster g) (shown (world_of g rs table) m) ((world_of g rs table).members m)
    ((world_of g rs table).suspects m) m → P r.roster (seen r.rows) r.members r.suspects (me r)
from_world g rs table m r P is p =
    let w : World = world_of g rs table in
    subst (λ k. P k (seen r.rows) r.members r.suspects (me r)) (sym is.of.members)
    (subst (λ f. P (roster g) f r.members r.suspects (me r)) (shows_rows g rs table m r is)
    (subst (λ k. P (roster g) (shown w m) k r.suspects (me r)) (members_are g rs table m r is)
    (subst (λ k. P (roster g) (shown w m) (w.members m) k (me r)) (suspects_are g rs table m r is)
    (subst (λ k. P (roster g) (shown w m) (w.members m) (w.suspects m) k) (sym is.of.number) p))))

-- the view is of 16 members at most, and somebody of it is unsuspected: the member itself
view_small : (g : Group) (rs : List (Option Replica)) (table : Shared) (m : ℕ) (r : Replica)
    → IsMember g rs table m r → r.members < 2 ^ 16
view_small g rs table m r is = in_roster_small 16 r.members (λ i there.
    let within : i < r.roster = is.form.roster i there in omega (arith, within, is.of.members, is.group.most_members))

self_left : (g : Group) (rs : List (Option Replica)) (table : Shared) (m : ℕ) (r : Replica)
    → IsMember g rs table m r → is_inside r ≡ true → has (without r.members r.suspects) (me r) ≡ true
self_left g rs table m r is inside = has_without_mask r.members r.suspects (me r) (view_small g rs table m r is)
    ∙ and_from _ _ inside (ap not is.form.trusted)

-- ---- votes

-- what the world allows of a value, at the replica's rows
abbrev IsAllowed : Value → ℕ → Shown → ℕ → ℕ → ℕ → Type 0
IsAllowed v n rows members suspects me =
    (MayPropose n rows members suspects me × IsProposal n rows members suspects v)
    ⊎ (MayAccept n rows members suspects me × Shows n rows members (promise_of n rows me) v)

-- the value is due exactly where it is allowed
allowed_test : (g : Group) (rs : List (Option Replica)) (table : Shared) (m : ℕ) (r : Replica) (v : Value)
    → IsMember g rs table m r → is_inside r ≡ true → length v.trim ≡ 16
    → ((replicas.may_propose r || replicas.may_accept r) ≡ true) × (v ≡ value_due r)
    ↔ IsAllowed v r.roster (seen r.rows) r.members r.suspects (me r)
allowed_test g rs table m r v is inside long = (λ p. from (replicas.may_propose r) refl p, to)
  where
    small : r.members < 2 ^ 16
    small = view_small g rs table m r is

    propose : (replicas.may_propose r ≡ true) ↔ MayPropose r.roster (seen r.rows) r.members r.suspects (me r)
    propose = propose_test r.roster (seen r.rows) r.members r.suspects (me r) small

    accept : (replicas.may_accept r ≡ true) ↔ MayAccept r.roster (seen r.rows) r.members r.suspects (me r)
    accept = accept_test r.roster (seen r.rows) r.members r.suspects (me r) small

    proposes : IsProposal r.roster (seen r.rows) r.members r.suspects
        (proposal r.roster (seen r.rows) r.members r.suspects)
    proposes = proposal_is r.roster (seen r.rows) r.members r.suspects (me r) small
        (self_left g rs table m r is inside)

    shows : Shows r.roster (seen r.rows) r.members (promise_of r.roster (seen r.rows) (me r))
        (shown_value r.roster (seen r.rows) r.members (promise_of r.roster (seen r.rows) (me r)))
    shows = shows_value r.roster (seen r.rows) r.members (promise_of r.roster (seen r.rows) (me r)) small

    due_is : (b : Bool) → replicas.may_propose r ≡ b → value_due r
        ≡ (if b then proposal r.roster (seen r.rows) r.members r.suspects
        else shown_value r.roster (seen r.rows) r.members (promise_of r.roster (seen r.rows) (me r)))
    due_is b e = rw e refl

    from : (b : Bool) → replicas.may_propose r ≡ b → ((replicas.may_propose r || replicas.may_accept r) ≡ true)
        × (v ≡ value_due r) → IsAllowed v r.roster (seen r.rows) r.members r.suspects (me r)
    from true e p = inl (
      propose.0 e,
      subst (IsProposal r.roster (seen r.rows) r.members r.suspects) (sym (p.1 ∙ due_is true e)) proposes,
    )
    from false e p = inr (
      accept.0 (sym (ap (λ b. b || replicas.may_accept r) e) ∙ p.0),
      subst (Shows r.roster (seen r.rows) r.members (promise_of r.roster (seen r.rows) (me r)))
          (sym (p.1 ∙ due_is false e)) shows,
    )

    due_long : length v.trim ≡ length (value_due r).trim
    due_long = long ∙ sym (value_long r)

    to : IsAllowed v r.roster (seen r.rows) r.members r.suspects (me r)
        → ((replicas.may_propose r || replicas.may_accept r) ≡ true) × (v ≡ value_due r)
    to (inl t) =
        let e = propose.1 t.0 in (
          ap (λ b. b || replicas.may_accept r) e,
          proposal_once r.roster (seen r.rows) r.members r.suspects v (value_due r) due_long t.1
              (subst (IsProposal r.roster (seen r.rows) r.members r.suspects) (sym (due_is true e)) proposes),
        )
    to (inr t) = with (replicas.may_propose r) refl
      where
        with : (b : Bool) → replicas.may_propose r ≡ b
            → ((replicas.may_propose r || replicas.may_accept r) ≡ true) × (v ≡ value_due r)
        with true e = absurd (t.0.other (propose.0 e).promised)
        with false e = (
          ap (λ b. b || replicas.may_accept r) e ∙ accept.1 t.0,
          shows_once r.roster (seen r.rows) r.members (promise_of r.roster (seen r.rows) (me r)) v
              (value_due r) due_long t.1
              (subst (Shows r.roster (seen r.rows) r.members (promise_of r.roster (seen r.rows) (me r)))
              (sym (due_is false e)) shows),
        )

-- it votes exactly where that may come
pub vote_guard : (g : Group) (rs : List (Option Replica)) (table : Shared) (m : ℕ) (r : Replica) (v : Value)
    → IsMember g rs table m r → IsIdle r → (may_vote r v ≡ true) ↔ CanLogVote g (world_of g rs table) m v
vote_guard g rs table m r v is free = (
  λ e. let a = and_parts (is_wedged r) _ e in
      let b = and_parts (not (is_some r.committed)) _ a.1 in
      let c = and_parts (not (may_append r)) _ b.1 in
      let d = and_parts (replicas.may_propose r || replicas.may_accept r) (is_value v (value_due r)) c.1 in
      let value : v ≡ value_due r = (value_test v (value_due r) (value_long r)).0 d.1 in
      let long : length v.trim ≡ 16 = ap (λ (x : Value). length x.trim) value ∙ value_long r in
      record {
        may = may_choose g rs table m r is free;
        wedged = (wedged g rs table m r is).0 a.0;
        uncommitted = committed ∙ (none_test r.committed).0 b.0;
        logged = rw (log, history) (caught.0 c.0);
        whole = long;
        allowed = to_world g rs table m r (IsAllowed v) is
            ((allowed_test g rs table m r v is free.2 long).0 (d.0, value));
      },
  λ can. let t = (allowed_test g rs table m r v is free.2 can.whole).1
      (from_world g rs table m r (IsAllowed v) is can.allowed) in
      and_from _ _ ((wedged g rs table m r is).1 can.wedged)
      (and_from _ _ ((none_test r.committed).1 (sym committed ∙ can.uncommitted))
      (and_from _ _ (caught.1 (rw (log, history) at can.logged))
      (and_from _ _ t.0 ((value_test v (value_due r) (value_long r)).1 t.1)))),
)
  where
    committed : (world_of g rs table).committed m ≡ r.committed
    committed = ap (λ h. h.committed) (held_of g rs table m r is.there)

    log : length ((world_of g rs table).past.log m) ≡ r.logged
    log = ap (λ h. length h.log) (held_of g rs table m r is.there) ∙ length-take-le r.logged r.history is.form.logged

    history : length ((world_of g rs table).past.history m) ≡ length r.history
    history = ap (λ h. length h.history) (held_of g rs table m r is.there)

    caught : (not (may_append r) ≡ true) ↔ (length r.history ≤ r.logged)
    caught = (
      λ e. omega (arith, (not_less r.logged (length r.history)).0 e),
      λ l. (not_less r.logged (length r.history)).1 (λ q. absurd (omega (arith, l, q))),
    )

-- ---- the vote that waits

-- it acts on its vote exactly where that may come
pub propose_guard : (g : Group) (rs : List (Option Replica)) (table : Shared) (m : ℕ) (r : Replica)
    → IsMember g rs table m r → r.end ≡ None → is_inside r ≡ true
    → (is_own (me r) r.pending ≡ true) ↔ CanPropose g (world_of g rs table) m
propose_guard g rs table m r is alive inside = (
  λ e. from r.pending refl e,
  λ can. subst (λ o. is_own (me r) o ≡ true) (sym (sym pending ∙ can.waits))
      (eq-eqb can.vote.ballot (me r) (can.own ∙ sym is.of.number)),
)
  where
    pending : (world_of g rs table).pending m ≡ r.pending
    pending = ap (λ h. h.pending) (held_of g rs table m r is.there)

    from : (o : Option Vote) → r.pending ≡ o → is_own (me r) o ≡ true → CanPropose g (world_of g rs table) m
    from None q e = absurd (cc e)
    from (Some x) q e = record {
      alive = running g rs table m r is alive;
      inside = (in_view_test g rs table m r is).0 inside;
      vote = x;
      waits = pending ∙ q;
      own = eqb-true x.ballot (me r) e ∙ is.of.number;
    }

pub accept_guard : (g : Group) (rs : List (Option Replica)) (table : Shared) (m : ℕ) (r : Replica)
    → IsMember g rs table m r → r.end ≡ None → is_inside r ≡ true
    → (is_others (me r) r.pending ≡ true) ↔ CanAccept g (world_of g rs table) m
accept_guard g rs table m r is alive inside = (
  λ e. from r.pending refl e,
  λ can. subst (λ o. is_others (me r) o ≡ true) (sym (sym pending ∙ can.waits))
      (ap not (other_number can.vote.ballot (me r) (λ e. can.other (e ∙ is.of.number)))),
)
  where
    pending : (world_of g rs table).pending m ≡ r.pending
    pending = ap (λ h. h.pending) (held_of g rs table m r is.there)

    differs : (a b : ℕ) → not (a == b) ≡ true → a ≡ b → ⊥
    differs a b e same = absurd (grind (arith, e, same))

    from : (o : Option Vote) → r.pending ≡ o → is_others (me r) o ≡ true → CanAccept g (world_of g rs table) m
    from None q e = absurd (cc e)
    from (Some x) q e = record {
      alive = running g rs table m r is alive;
      inside = (in_view_test g rs table m r is).0 inside;
      vote = x;
      waits = pending ∙ q;
      other = λ same. differs x.ballot (me r) e (same ∙ sym is.of.number);
    }

-- and commits exactly where that may come
pub commit_guard : (g : Group) (rs : List (Option Replica)) (table : Shared) (m : ℕ) (r : Replica)
    → IsMember g rs table m r → IsIdle r → (may_commit r ≡ true) ↔ CanCommit g (world_of g rs table) m
commit_guard g rs table m r is free = (
  λ e. let a = and_parts (is_wedged r) _ e in
      let b = and_parts (not (is_some r.committed)) _ a.1 in record {
        may = may_choose g rs table m r is free;
        wedged = (wedged g rs table m r is).0 a.0;
        uncommitted = committed ∙ (none_test r.committed).0 b.0;
        rows = to_world g rs table m r (λ n rows members suspects me. MayCommit n rows members me) is
            ((commit_test r.roster (seen r.rows) r.members (me r)).0 b.1);
      },
  λ can. and_from _ _ ((wedged g rs table m r is).1 can.wedged)
      (and_from _ _ ((none_test r.committed).1 (sym committed ∙ can.uncommitted))
      ((commit_test r.roster (seen r.rows) r.members (me r)).1
      (from_world g rs table m r (λ n rows members suspects me. MayCommit n rows members me) is can.rows))),
)
  where
    committed : (world_of g rs table).committed m ≡ r.committed
    committed = ap (λ h. h.committed) (held_of g rs table m r is.there)

-- ---- effects

-- a vote goes on the log
pub vote_effect : (g : Group) (rs : List (Option Replica)) (table : Shared) (m : ℕ) (r : Replica) (v : Value)
    → IsMember g rs table m r
    → world_of g (with_present rs m (voted r v)) table ≡ logs_vote g (world_of g rs table) m v
vote_effect g rs table m r v is =
    let vote : vote_in g r.view (promise r) v ≡ vote_of r v = (λ z. record {
      age = sym is.of.age z;
      view = r.view;
      ballot = promise r;
      members = sym is.of.members z;
      value = v;
    }) in
    replaced g rs table table m r (voted r v) (logs_vote g (world_of g rs table) m v) (vote_after g v)
    is.there (vote_changes g (world_of g rs table) m v)
    (λ z. record (holding_of g r) { votes = r.votes ++ vote z ∷ []; pending = Some (vote z) }) refl refl

-- a value is committed
pub commit_effect : (g : Group) (rs : List (Option Replica)) (table : Shared) (m : ℕ) (r : Replica)
    → IsMember g rs table m r → world_of g (with_present rs m (acted (decided r))) (acted_table g table m r)
    ≡ stamped (commits (world_of g rs table) m) m
commit_effect g rs table m r is = then_acted g rs table m (decided r) (commits (world_of g rs table) m)
    (present_within rs m r is.there) (fits g rs table m r is) is.cells (replaced g rs table table m r (decided r)
    (commits (world_of g rs table) m) commit_after is.there (commit_changes (world_of g rs table) m) refl refl refl)

-- what it has voted for is accepted
pub accept_effect : (g : Group) (rs : List (Option Replica)) (table : Shared) (m : ℕ) (r : Replica)
    → IsMember g rs table m r → world_of g (with_present rs m (acted (accepted r))) (acted_table g table m r)
    ≡ stamped (accepts g (world_of g rs table) m) m
accept_effect g rs table m r is = then_acted g rs table m
    (accepted r) (accepts g w m) (present_within rs m r is.there) new_fits is.cells (replaced g rs table table m r
    (accepted r) (accepts g w m) (accept_after g) is.there (accept_changes g w m) same refl refl)
  where
    w : World
    w = world_of g rs table

    f : Fits g m r.rows r.view
    f = fits g rs table m r is

    vote : Vote
    vote = unwrap_or r.pending no_vote

    make : ℕ → ℕ → ℕ
    make = accepted_word r.roster r.members (vote.ballot + 1) vote.value

    new_fits : Fits g m (accepted r).rows r.view
    new_fits = record {
      number = f.number;
      words = IsWords-rewritten r.rows make f.words;
      members = f.members;
      columns = f.columns;
      bank = f.bank;
    }

    words : (c : ℕ) → own (accepted r).rows c
        ≡ accepted_word (roster g) r.members (vote.ballot + 1) vote.value c (own r.rows c)
    words c = own_rewritten_all r.rows make c f.words (λ past. accepted_rest r.roster r.members
        (vote.ballot + 1) vote.value c 0 (inr (omega (arith, is.form.columns, past))))
        ∙ ap (λ n. accepted_word n r.members (vote.ballot + 1) vote.value c (own r.rows c)) is.of.members

    own_is : (holding_of g (accepted r)).own ≡ at (holding_of g r).own r.view
        (λ c. accepted_word (roster g) r.members (vote.ballot + 1) vote.value c (own r.rows c))
    own_is = fun_ext λ v. fun_ext λ c. ap (λ x. if v == r.view then x else kept_word r v c) (words c)
        ∙ row_written (own r.rows) (λ d. accepted_word
        (roster g) r.members (vote.ballot + 1) vote.value d (own r.rows d)) (kept_word r) r.view v c

    seen_is : (holding_of g (accepted r)).seen ≡ (holding_of g r).seen
    seen_is = fun_ext λ i. fun_ext λ c. elim (cases_eq i r.rows.me) [
      | inl mine ↦ rw (mine, same_number r.rows.me) refl
      | inr other ↦ rw (other_number i r.rows.me other) (seen_rewritten r.rows make i c other)
    ]

    same : accept_after g (holding_of g r) ≡ holding_of g (accepted r)
    same = (λ z. accept_from g (holding_of g r) vote (own_here g r z)) ∙ (λ z. record (holding_of g r) {
      own = sym own_is z;
      tag = vote.ballot + 1;
      value = vote.value;
      pending = None;
      seen = sym seen_is z;
    })
