-- Votes: for which value a member may log one, what logs hold behind one more, and what an acceptance makes of
-- the words.
use Rattle.std.{specs.Prelude.unwrap_or, proofs.lemmas.Bool.cases_eq}
use Rattle.std.proofs.Common.{◌≡◌, ◌∙◌, ◌⊎◌, inl, inr, length, sym, ℕ, List, [], refl, ◌++◌, ◌+◌, ◌∷◌, ◌<◌, ap, ◌≢◌, slice_get, Some, arith, ◌≤◌}
use Rattle.dr_entry.{specs.declared.record.{Value.Value, Vote.Vote}, proofs.ListPlaces.{get_more, get_last, get_one}}
use Rattle.dr_history.{specs.History.IsPrefixOf, proofs.Lists.prefix_refl}
use Rattle.dr_machine.specs.{Effects.{logs_vote, vote_for, accepts}, Group.{Group, roster}}
use Rattle.dr_machine.specs.{Guards.{CanLogVote, IsToAccept, IsToPropose}, Run.PastGrew, Votes.{Votes, HasLogged}}
use Rattle.dr_machine.specs.{World.{World, shown, no_vote, own_word, opening_world}, Writes.at}
use Rattle.dr_machine.proofs.{Worlds.{past_same, same_past}, Writes.{at_case, at₂_case, at_other, at₂_read, at_same}}
use Rattle.dr_words.specs.{Columns.{recv_column, head_column}, Rewrites.accepted_word}
use Rattle.dr_words.proofs.{Rewrites.accepted_rest, Values.{proposal_once, shows_once}}

pub one_vote : (g : Group) (w : World) (m : ℕ) (u v : Value) → CanLogVote g w m u → CanLogVote g w m v → u ≡ v
one_vote g w m u v p q = by p.allowed q.allowed
  where
    long : length u.trim ≡ length v.trim
    long = p.whole ∙ sym q.whole

    by : IsToPropose g w m u ⊎ IsToAccept g w m u → IsToPropose g w m v ⊎ IsToAccept g w m v → u ≡ v
    by (inl s) (inl t) = proposal_once (roster g) (shown w m) (w.members m) (w.suspects m) u v long s.1 t.1
    by (inl s) (inr t) = absurd (t.0.other s.0.promised)
    by (inr s) (inl t) = absurd (s.0.other t.0.promised)
    by (inr s) (inr t) = shows_once (roster g) (shown w m) (w.members m) _ u v long s.1 t.1

-- votes only grow
pub vote_past : (g : Group) (w : World) (m : ℕ) (v : Value) → PastGrew w.past (logs_vote g w m v).past
vote_past g w m v =
    let same = past_same w.past in
    let one : List Vote = vote_for g w m v ∷ [] in record {
      view = same.view;
      count = same.count;
      sent = same.sent;
      history = same.history;
      log = same.log;
      votes = at_case (λ i l. IsPrefixOf (w.past.votes i) l) w.past.votes m (w.past.votes m ++ one)
          (λ i d. prefix_refl (w.past.votes i)) (one, refl);
      durable = same.durable;
      acts = same.acts;
    }

-- the vote that waits
abbrev pub vote_waiting : World → ℕ → Vote
vote_waiting w m = unwrap_or (w.pending m) no_vote

abbrev pub accepted_row : Group → World → ℕ → ℕ → ℕ
accepted_row g w m c = accepted_word (roster g) (w.members m) ((vote_waiting w m).ballot + 1)
    (vote_waiting w m).value c (own_word w m c)

-- columns before the accept words are as before
pub plain_after : (g : Group) (w : World) (m i v c : ℕ) → c < recv_column (roster g)
    → (accepts g w m).past.own i v c ≡ w.past.own i v c
plain_after g w m i v c l = at₂_case (λ i v r. r c ≡ w.past.own i v c) w.past.own m
    (w.past.view m) (accepted_row g w m) (λ i v. refl) (accepted_rest (roster g)
    (w.members m) ((vote_waiting w m).ballot + 1) (vote_waiting w m).value c (own_word w m c) (inl l)) i v

-- and so are the words of others
pub others_after : (g : Group) (w : World) (m i c : ℕ) → i ≢ m
    → (accepts g w m).past.own i (w.past.view i) c ≡ own_word w i c
others_after g w m i c d = ap (λ r. r (w.past.view i) c)
    (at_other w.past.own m (at (w.past.own m) (w.past.view m) (accepted_row g w m)) i d)

pub mine_after : (g : Group) (w : World) (m c : ℕ) → (accepts g w m).past.own m (w.past.view m) c ≡ accepted_row g w m c
mine_after g w m c = ap (λ r. r c) (at₂_read w.past.own m (w.past.view m) (accepted_row g w m))

-- an acceptance is not what only grows
pub accept_past : (g : Group) (w : World) (m : ℕ) → PastGrew w.past (accepts g w m).past
accept_past g w m = same_past w.past (accepts g w m).past refl refl refl refl refl refl refl refl

-- the words of another member, or of another view, are as before
pub word_before : (g : Group) (w : World) (m i v c : ℕ) → (i ≢ m) ⊎ (v ≢ w.past.view m)
    → (accepts g w m).past.own i v c ≡ w.past.own i v c
word_before g w m i v c (inl d) = ap (λ r. r v c)
    (at_other w.past.own m (at (w.past.own m) (w.past.view m) (accepted_row g w m)) i d)
word_before g w m i v c (inr d) = by (cases_eq i m)
  where
    by : (i ≡ m) ⊎ (i ≢ m) → (accepts g w m).past.own i v c ≡ w.past.own i v c
    by (inl e) = rw e (ap (λ r. r v c) (at_same w.past.own m (at (w.past.own m) (w.past.view m) (accepted_row g w m)))
        ∙ ap (λ r. r c) (at_other (w.past.own m) (w.past.view m) (accepted_row g w m) v d))
    by (inr o) = ap (λ r. r v c) (at_other w.past.own m (at (w.past.own m) (w.past.view m) (accepted_row g w m)) i o)

-- the logs with one vote more of m
abbrev pub with_vote : Votes → ℕ → Vote → Votes
with_vote votes m x = at votes m (votes m ++ x ∷ [])

-- what stood on a log stays there
pub logged_stays : (votes : Votes) (m : ℕ) (new : Vote) (i : ℕ) (x : Vote) → HasLogged votes i x
    → HasLogged (with_vote votes m new) i x
logged_stays votes m new i x t = by (cases_eq i m)
  where
    by : (i ≡ m) ⊎ (i ≢ m) → HasLogged (with_vote votes m new) i x
    by (inl e) = (
      t.0,
      ap (λ l. slice_get l t.0) (ap (with_vote votes m new) e ∙ at_same votes m (votes m ++ new ∷ []))
          ∙ get_more (votes m) (new ∷ []) t.0 x (ap (λ j. slice_get (votes j) t.0) (sym e) ∙ t.1),
    )
    by (inr d) = (t.0, ap (λ l. slice_get l t.0) (at_other votes m (votes m ++ new ∷ []) i d) ∙ t.1)

-- the new one stands on the log of m
pub logged_new : (votes : Votes) (m : ℕ) (new : Vote) → HasLogged (with_vote votes m new) m new
logged_new votes m new =
    let last = get_last (votes m) new in
    (last.0, ap (λ l. slice_get l last.0) (at_same votes m (votes m ++ new ∷ [])) ∙ last.1)

-- and there is no other
pub logged_before : (votes : Votes) (m : ℕ) (new : Vote) (i : ℕ) (x : Vote)
    → HasLogged (with_vote votes m new) i x → HasLogged votes i x ⊎ ((i ≡ m) × (x ≡ new))
logged_before votes m new i x t = by (cases_eq i m)
  where
    mine : i ≡ m → (slice_get (votes m) t.0 ≡ Some x) ⊎ (x ≡ new) → HasLogged votes i x ⊎ ((i ≡ m) × (x ≡ new))
    mine e (inl old) = inl (t.0, ap (λ j. slice_get (votes j) t.0) e ∙ old)
    mine e (inr one) = inr (e, one)

    by : (i ≡ m) ⊎ (i ≢ m) → HasLogged votes i x ⊎ ((i ≡ m) × (x ≡ new))
    by (inl e) = mine e (get_one (votes m) new t.0 x (ap (λ l. slice_get l t.0) (sym (ap (with_vote votes m new) e
        ∙ at_same votes m (votes m ++ new ∷ []))) ∙ t.1))
    by (inr d) = inl (t.0, ap (λ l. slice_get l t.0) (sym (at_other votes m (votes m ++ new ∷ []) i d)) ∙ t.1)

pub nobody : (i : ℕ) (x : Vote) → HasLogged (λ i. []) i x → ⊥
nobody i x (k, e) = absurd (cc e)

-- no accept word says anything
pub none : (g : Group) (i v c : ℕ) → (recv_column (roster g) ≤ c) × (c < head_column (roster g) 0)
    → (opening_world g).past.own i v c ≡ 0
none g i v c between = grind (arith, between.0)
