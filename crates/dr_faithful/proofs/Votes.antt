-- A member logs a vote, accepts what it has voted for, and commits it: the members stay faithful.
use Rattle.std.{specs.Prelude.unwrap_or, proofs.lemmas.Bool.cases_eq}
use Rattle.std.proofs.Common.{Bool, None, Some, ap, arith, false, inl, inr, le_refl, refl, slice_index, subst, sym, true, ℕ, ◌+◌, ◌<◌, ◌^◌, ◌∙◌, ◌≡◌, ◌≢◌, ◌≤◌, ◌⊎◌}
use Rattle.dr_entry.{specs.declared.record.{Value.Value, Vote.Vote}, proofs.Records.FitsWords}
use Rattle.dr_history.specs.Members.{has}
use Rattle.dr_machine.specs.{Effects.{accepts, commits, logs_vote, vote_for}, Votes.{HasLogged, HasVoted, vote_in}}
use Rattle.dr_machine.specs.{Group.{Group, IsGroup, roster}, Guards.{CanLogVote, IsInView, IsToAccept, IsToPropose}}
use Rattle.dr_machine.specs.{Run.WordsGrew, World.{Past, World, no_vote, own_word, shown}, Writes.at}
use Rattle.dr_machine.proofs.Voting.{vote_past, vote_waiting, accepted_row, plain_after, others_after, mine_after, accept_past, logged_before}
use Rattle.dr_machine.proofs.{Worlds.{shown_own, shown_seen}, Writes.{at_case, at_other, at_same, at₂_case}}
use Rattle.dr_faithful.specs.Faithful.{AreAccepts, AreCounts, AreSuspicions, Faithful, IsWaiting}
use Rattle.dr_faithful.{specs.Tells.{Tells, Views, WordsTell}, proofs.{Acts.beside_keeps, Beside.in_view}}
use Rattle.dr_faithful.proofs.OwnWords.{closed_written, fresh_written, old_later}
use Rattle.dr_faithful.proofs.{Pasts.{tells_accept, tells_later, words_later}, Suspicions.named_in_roster}
use Rattle.dr_words.specs.Accepts.{Shows, part_of, promise_of, tag_of}
use Rattle.dr_words.specs.Changes.{IsFirstValue, IsLeastReceived, MayPropose}
use Rattle.dr_words.specs.{Columns.{leavers_column, recv_column, trim_column}, Form.IsInForm, Grown.HasGrown}
use Rattle.dr_words.specs.{Masks.without, Packing.{accept_promise, accept_tag, accept_value}, Rewrites.is_accept_of}
use Rattle.dr_words.specs.declared.column.TheConstants.{RECEIVED_COLUMN, SUSPECTED_COLUMN}
use Rattle.dr_words.proofs.{Accepts.{accept_within, leavers_accept}, Masks.in_roster_small, Order.HasGrown_refl}
use Rattle.dr_words.proofs.Rewrites.{accepted_by, accepted_grown, accepted_in_form, accepted_promise, accepted_tag, accepted_value}

-- ---- a vote

-- the own promise and tag, as the member's own row shows them
pub own_promise : (g : Group) (V : Views) (w : World) (m : ℕ) → Faithful g V w
    → promise_of (roster g) (shown w m) m ≡ w.promise m
own_promise g V w m f = ap accept_promise (shown_own w m m (leavers_column (roster g)) refl)
    ∙ f.suspicions.accept m (leavers_column (roster g)) (leavers_accept (roster g) (V (w.past.view m)))

pub own_tag : (g : Group) (V : Views) (w : World) (m : ℕ) → Faithful g V w → tag_of (roster g) (shown w m) m ≡ w.tag m
own_tag g V w m f = ap accept_tag (shown_own w m m (leavers_column (roster g)) refl)
    ∙ f.accepts.tagged m (leavers_column (roster g)) (leavers_accept (roster g) (V (w.past.view m)))

-- words that are shown are in form
pub shown_form : (g : Group) (V : Views) (w : World) (m i c : ℕ) → Faithful g V w
    → IsInForm (roster g) c (shown w m i c)
shown_form g V w m i c f = by (cases_eq i m)
  where
    by : (i ≡ m) ⊎ (i ≢ m) → IsInForm (roster g) c (shown w m i c)
    by (inl e) = rw (shown_own w m i c e) (f.form.in_own i (w.past.view m) c)
    by (inr d) = rw (shown_seen w m i c d) (f.form.in_seen m i c)

-- a member that may vote has not yet voted by the ballot of its promise
pub not_yet : (g : Group) (V : Views) (w : World) (m : ℕ) (v : Value) → CanLogVote g w m v
    → Faithful g V w → w.tag m ≤ w.promise m
not_yet g V w m v can f = by can.allowed
  where
    low : w.tag m ≤ w.promise m + 1
    low = f.accepts.low m

    by : IsToPropose g w m v ⊎ IsToAccept g w m v → w.tag m ≤ w.promise m
    by (inl t) = omega (arith, t.0.unproposed, t.0.promised, own_promise g V w m f, own_tag g V w m f, low)
    by (inr t) = omega (arith, t.0.unaccepted, own_promise g V w m f, own_tag g V w m f, low)

-- the leavers and the trims of the value that it votes for
shown_leavers : (g : Group) (V : Views) (w : World) (m i : ℕ) (v : Value) → Faithful g V w
    → Shows (roster g) (shown w m) (w.members m) i v → v.leavers < 2 ^ roster g
shown_leavers g V w m i v f shows =
    rw shows.leavers ((shown_form g V w m i (leavers_column (roster g)) f).leavers refl)

shown_trims : (g : Group) (V : Views) (w : World) (m i : ℕ) (v : Value) → Faithful g V w
    → Shows (roster g) (shown w m) (w.members m) i v → (s : ℕ) → slice_index v.trim s < 2 ^ 32
shown_trims g V w m i v f shows s = by (has (w.members m) s) refl
  where
    by : (b : Bool) → has (w.members m) s ≡ b → slice_index v.trim s < 2 ^ 32
    by true h = rw (shows.trims s h) ((shown_form g V w m i (trim_column (roster g) s) f).trim s
        (f.views.within (w.past.view m) s (ap (λ k. has k s) (sym (f.views.own m)) ∙ h)) refl)
    by false h = rw (shows.others s h) (omega arith)

first_trims : (g : Group) (V : Views) (w : World) (m : ℕ) (v : Value) → Faithful g V w
    → IsFirstValue (shown w m) (w.members m) (w.suspects m) v → (s : ℕ) → slice_index v.trim s < 2 ^ 32
first_trims g V w m v f first s = by (has (w.members m) s) refl
  where
    least : has (w.members m) s ≡ true → IsLeastReceived (shown w m) (without (w.members m)
        (w.suspects m)) s (slice_index v.trim s) → slice_index v.trim s < 2 ^ 32
    least h t = omega (
      arith,
      t.found.2,
      (shown_form g V w m t.found.0 (recv_column s) f).recv s
          (f.views.within (w.past.view m) s (ap (λ k. has k s) (sym (f.views.own m)) ∙ h)) refl,
    )

    by : (b : Bool) → has (w.members m) s ≡ b → slice_index v.trim s < 2 ^ 32
    by true h = least h (first.trims s h)
    by false h = rw (first.others s h) (omega arith)

voted_leavers : (g : Group) (V : Views) (w : World) (m : ℕ) (v : Value) → IsGroup g → Faithful g V w
    → IsToPropose g w m v ⊎ IsToAccept g w m v → v.leavers < 2 ^ roster g
voted_leavers g V w m v is f (inl (may, inl t)) = shown_leavers g V w m t.0 v f t.2
voted_leavers g V w m v is f (inl (may, inr t)) =
    rw t.1.leavers (in_roster_small (roster g) (w.suspects m) (named_in_roster g V w m is f))
voted_leavers g V w m v is f (inr t) = shown_leavers g V w m _ v f t.1

voted_trims : (g : Group) (V : Views) (w : World) (m : ℕ) (v : Value) → Faithful g V w
    → IsToPropose g w m v ⊎ IsToAccept g w m v → (s : ℕ) → slice_index v.trim s < 2 ^ 32
voted_trims g V w m v f (inl (may, inl t)) = shown_trims g V w m t.0 v f t.2
voted_trims g V w m v f (inl (may, inr t)) = first_trims g V w m v f t.1
voted_trims g V w m v f (inr t) = shown_trims g V w m _ v f t.1

-- the vote waits to be acted on
pub vote_keeps : (g : Group) (V : Views) (w : World) (m : ℕ) (v : Value) → IsGroup g → CanLogVote g w m v
    → Faithful g V w → Faithful g V (logs_vote g w m v)
vote_keeps g V w m v is can f = record {
  beginning = f.beginning;
  views = f.views;
  items = f.items;
  sent = f.sent;
  counts = f.counts;
  suspicions = f.suspicions;
  accepts = record {
    tagged = f.accepts.tagged;
    valued = f.accepts.valued;
    low = f.accepts.low;
    waits = at_case (λ i p. (x : Vote) → p ≡ Some x → IsWaiting g (w.promise i) (w.tag i) x) w.pending m
        (Some (vote_for g w m v)) (λ i d. f.accepts.waits i) waits;
  };
  words = words_later g V w (logs_vote g w m v) (vote_past g w m v) refl refl refl refl f.words;
  logs = f.logs;
  delivered = f.delivered;
  fresh = f.fresh;
  closed = f.closed;
  old = f.old;
  form = f.form;
}
  where
    this : IsWaiting g (w.promise m) (w.tag m) (vote_for g w m v)
    this = record {
      ballot = refl;
      above = not_yet g V w m v can f;
      leavers = voted_leavers g V w m v is f can.allowed;
      trims = voted_trims g V w m v f can.allowed;
    }

    waits : (x : Vote) → Some (vote_for g w m v) ≡ Some x → IsWaiting g (w.promise m) (w.tag m) x
    waits x e =
        let same : vote_for g w m v ≡ x = cc e in subst (λ y. IsWaiting g (w.promise m) (w.tag m) y) same this

-- ---- the row

pub is_waiting : (g : Group) (V : Views) (w : World) (m : ℕ) (x : Vote) → w.pending m ≡ Some x
    → Faithful g V w → IsWaiting g (w.promise m) (w.tag m) (vote_waiting w m)
is_waiting g V w m x e f =
    subst (λ o. IsWaiting g (w.promise m) (w.tag m) (unwrap_or o no_vote)) (sym e) (f.accepts.waits m x e)

-- the ballot is that of a member of the roster
pub ballot_small : (g : Group) (V : Views) (w : World) (m : ℕ) → Faithful g V w → w.promise m < roster g
ballot_small g V w m f =
    let c : ℕ = leavers_column (roster g) in
    rw (← f.suspicions.accept m c (leavers_accept (roster g) (V (w.past.view m))))
    ((f.form.in_own m (w.past.view m) c).promise (inl refl))

-- accept words can hold the tag and the value of the vote
fits : (g : Group) (V : Views) (w : World) (m : ℕ) (x : Vote) → IsGroup g → w.pending m ≡ Some x
    → Faithful g V w → FitsWords (roster g) ((vote_waiting w m).ballot + 1) (vote_waiting w m).value
fits g V w m x is e f =
    let waits = is_waiting g V w m x e f in record {
      few = is.most_members;
      ballot = omega (arith, waits.ballot, ballot_small g V w m f);
      leavers = waits.leavers;
      trims = waits.trims;
    }

-- the promise, the tag and the value of the row's accept words
pub row_promise : (g : Group) (V : Views) (w : World) (m c : ℕ) (x : Vote) → IsGroup g
    → w.pending m ≡ Some x → Faithful g V w → is_accept_of (roster g) (w.members m) c ≡ true
    → accept_promise (accepted_row g w m c) ≡ accept_promise (own_word w m c)
row_promise g V w m c x is e f = accepted_promise (roster g) (w.members m) ((vote_waiting w m).ballot + 1)
    (vote_waiting w m).value c (own_word w m c) (fits g V w m x is e f)

pub row_tag : (g : Group) (V : Views) (w : World) (m c : ℕ) (x : Vote) → IsGroup g
    → w.pending m ≡ Some x → Faithful g V w → is_accept_of (roster g) (w.members m) c ≡ true
    → accept_tag (accepted_row g w m c) ≡ (vote_waiting w m).ballot + 1
row_tag g V w m c x is e f = accepted_tag (roster g) (w.members m) ((vote_waiting w m).ballot + 1)
    (vote_waiting w m).value c (own_word w m c) (fits g V w m x is e f)

pub row_value : (g : Group) (V : Views) (w : World) (m c : ℕ) (x : Vote) → IsGroup g
    → w.pending m ≡ Some x → Faithful g V w → is_accept_of (roster g) (w.members m) c ≡ true
    → accept_value (accepted_row g w m c) ≡ part_of (roster g) (vote_waiting w m).value c
row_value g V w m c x is e f = accepted_value (roster g) (w.members m) ((vote_waiting w m).ballot + 1)
    (vote_waiting w m).value c (own_word w m c) (fits g V w m x is e f)

-- each word of the row has grown
row_grown : (g : Group) (V : Views) (w : World) (m c : ℕ) (x : Vote) → w.pending m ≡ Some x
    → Faithful g V w → HasGrown (roster g) c (own_word w m c) (accepted_row g w m c)
row_grown g V w m c x e f =
    let waits = is_waiting g V w m x e f in
    accepted_grown (roster g) (w.members m) ((vote_waiting w m).ballot + 1) (vote_waiting w m).value c
    (own_word w m c) (λ a. omega (arith, waits.ballot, waits.above, f.accepts.tagged m c (rw (← f.views.own m) a)))

own_after : (g : Group) (V : Views) (w : World) (m : ℕ) (x : Vote) → w.pending m ≡ Some x → Faithful g V w
    → (i v c : ℕ) → HasGrown (roster g) c (w.past.own i v c) ((accepts g w m).past.own i v c)
own_after g V w m x e f = at₂_case (λ i v r. (c : ℕ) → HasGrown (roster g) c (w.past.own i v c) (r c)) w.past.own m
    (w.past.view m) (accepted_row g w m) (λ i v c. HasGrown_refl (roster g) c (w.past.own i v c))
    (λ c. row_grown g V w m c x e f)

-- the words grow
pub accept_grew : (g : Group) (V : Views) (w : World) (m : ℕ) (x : Vote) → w.pending m ≡ Some x
    → Faithful g V w → WordsGrew g w (accepts g w m)
accept_grew g V w m x e f = record {
  own = own_after g V w m x e f;
  table = λ v a i c. HasGrown_refl (roster g) c (w.table v a i c);
  seen = λ a i c e. HasGrown_refl (roster g) c (w.seen a i c);
}

-- ---- what the words tell

-- whom a member suspects is told as before
suspicions_after : (g : Group) (V : Views) (w : World) (m : ℕ) (x : Vote) → IsGroup g → w.pending m ≡ Some x
    → Faithful g V w → AreSuspicions g V w.past.view w.suspects w.promise (accepts g w m).past.own
suspicions_after g V w m x is e f = record {
  named = f.suspicions.named;
  inside = f.suspicions.inside;
  trusted = f.suspicions.trusted;
  told = λ i. plain_after g w m i (w.past.view i) SUSPECTED_COLUMN (omega arith) ∙ f.suspicions.told i;
  final = λ i s d h. rw (plain_after g w m i (w.past.view i) (recv_column s)
      (omega (arith, f.views.within (w.past.view i) s h))) (f.suspicions.final i s d h);
  none = f.suspicions.none;
  least = f.suspicions.least;
  accept = λ i c a. accept i c (cases_eq i m) a ∙ f.suspicions.accept i c a;
}
  where
    accept : (i c : ℕ) → (i ≡ m) ⊎ (i ≢ m) → is_accept_of (roster g) (V (w.past.view i)) c ≡ true
        → accept_promise ((accepts g w m).past.own i (w.past.view i) c) ≡ accept_promise (own_word w i c)
    accept i c (inl q) a = rw (q, mine_after g w m c) (row_promise g V w m c x is e f (rw (f.views.own m, ← q) a))
    accept i c (inr d) a = ap accept_promise (others_after g w m i c d)

-- what the members have accepted
accepts_after : (g : Group) (V : Views) (w : World) (m : ℕ) (x : Vote) → IsGroup g → w.pending m ≡ Some x
    → Faithful g V w → AreAccepts g V w.past.view w.promise (accepts g w m).tag (accepts g w m).value
    (accepts g w m).pending (accepts g w m).past.own
accepts_after g V w m x is e f = record {
  tagged = λ i c a. tagged i c (cases_eq i m) a;
  valued = λ i c a. valued i c (cases_eq i m) a;
  low = at_case (λ i t. t ≤ w.promise i + 1) w.tag m ((vote_waiting w m).ballot + 1)
      (λ i d. f.accepts.low i) (omega (arith, (is_waiting g V w m x e f).ballot));
  waits = waits;
}
  where
    tagged : (i c : ℕ) → (i ≡ m) ⊎ (i ≢ m) → is_accept_of (roster g) (V (w.past.view i)) c ≡ true
        → accept_tag ((accepts g w m).past.own i (w.past.view i) c) ≡ (accepts g w m).tag i
    tagged i c (inl q) a = rw (q, mine_after g w m c) (row_tag g V w m c x is e f (rw (f.views.own m, ← q) a)
        ∙ sym (at_same w.tag m ((vote_waiting w m).ballot + 1)))
    tagged i c (inr d) a = ap accept_tag (others_after g w m i c d) ∙ f.accepts.tagged i c a
        ∙ sym (at_other w.tag m ((vote_waiting w m).ballot + 1) i d)

    valued : (i c : ℕ) → (i ≡ m) ⊎ (i ≢ m) → is_accept_of (roster g) (V (w.past.view i)) c ≡ true
        → accept_value ((accepts g w m).past.own i (w.past.view i) c) ≡ part_of (roster g) ((accepts g w m).value i) c
    valued i c (inl q) a = rw (q, mine_after g w m c) (row_value g V w m c x is e f (rw (f.views.own m, ← q) a)
        ∙ ap (λ y. part_of (roster g) y c) (sym (at_same w.value m (vote_waiting w m).value)))
    valued i c (inr d) a = ap accept_value (others_after g w m i c d) ∙ f.accepts.valued i c a
        ∙ ap (λ y. part_of (roster g) y c) (sym (at_other w.value m (vote_waiting w m).value i d))

    waits : (i : ℕ) (y : Vote) → (accepts g w m).pending i ≡ Some y
        → IsWaiting g (w.promise i) ((accepts g w m).tag i) y
    waits i y p = by (cases_eq i m)
      where
        by : (i ≡ m) ⊎ (i ≢ m) → IsWaiting g (w.promise i) ((accepts g w m).tag i) y
        by (inl q) = absurd (cc (sym (ap (at w.pending m None) q ∙ at_same w.pending m None) ∙ p))
        by (inr d) = rw (at_other w.tag m ((vote_waiting w m).ballot + 1) i d)
            (f.accepts.waits i y (sym (at_other w.pending m None i d) ∙ p))

-- the counts are told as before
counts_after : (g : Group) (V : Views) (w : World) (m : ℕ) → Faithful g V w
    → AreCounts g V w.past.view w.suspects (accepts g w m).past.own w.past.count
counts_after g V w m f = record {
  recv = λ i u s l. rw (plain_after g w m i u (recv_column s) (omega (arith, l))) (f.counts.recv i u s l);
  unfinished = λ i s l d. rw (plain_after g w m i (w.past.view i) (recv_column s) (omega (arith, l)))
      (f.counts.unfinished i s l d);
  received = λ i u. plain_after g w m i u RECEIVED_COLUMN (omega arith) ∙ f.counts.received i u;
  few = f.counts.few;
}

-- the words tell as before
words_after : (g : Group) (V : Views) (w : World) (m : ℕ) → Faithful g V w → WordsTell g V (accepts g w m)
words_after g V w m f = record {
  own = at₂_case (λ i v r. (c : ℕ) → Tells g V new i v c (r c)) w.past.own m (w.past.view m)
      (accepted_row g w m) (λ i v c. later i v c (w.past.own i v c) (f.words.own i v c))
      (λ c. mine c (later m (w.past.view m) c (own_word w m c) (f.words.own m (w.past.view m) c)));
  table = λ v a i c. later i v c (w.table v a i c) (f.words.table v a i c);
  seen = λ a i c. later i (w.past.view a) c (w.seen a i c) (f.words.seen a i c);
}
  where
    new : Past
    new = (accepts g w m).past

    later : (i v c word : ℕ) → Tells g V w.past i v c word → Tells g V (accepts g w m).past i v c word
    later i v c word = tells_later g V w.past new i v c word (accept_past g w m)

    mine : (c : ℕ) → Tells g V new m (w.past.view m) c (own_word w m c)
        → Tells g V new m (w.past.view m) c (accepted_row g w m c)
    mine c = accepted_by (roster g) (w.members m) ((vote_waiting w m).ballot + 1) (vote_waiting w m).value c
        (own_word w m c) (Tells g V new m (w.past.view m) c)
        (λ a. tells_accept g V new m (w.past.view m) c _ (accept_within (roster g) (w.members m) c a))

-- the members stay faithful
pub accept_keeps : (g : Group) (V : Views) (w : World) (m : ℕ) (x : Vote) → IsGroup g → IsInView w m
    → w.pending m ≡ Some x → Faithful g V w → Faithful g V (accepts g w m)
accept_keeps g V w m x is inside e f = record {
  beginning = f.beginning;
  views = f.views;
  items = f.items;
  sent = f.sent;
  counts = counts_after g V w m f;
  suspicions = suspicions_after g V w m x is e f;
  accepts = accepts_after g V w m x is e f;
  words = words_after g V w m f;
  logs = f.logs;
  delivered = record {
    held = λ a i h. rw (plain_after g w m i (w.past.view a) RECEIVED_COLUMN (omega arith)) (f.delivered.held a i h);
    none = f.delivered.none;
  };
  fresh = fresh_written g V w.past.view w.past.own w.past.count m (w.past.view m) (accepted_row g w m)
      (le_refl (w.past.view m)) (in_view g V w m f inside) f.fresh;
  closed = closed_written g V w.past.view w.past.own m (accepted_row g w m) f.closed;
  old = old_later g w.past.view w.past.own (accepts g w m).past.own w.table w.seen (own_after g V w m x e f) f.old;
  form = record {
    in_own = at₂_case (λ i v r. (c : ℕ) → IsInForm (roster g) c (r c)) w.past.own m (w.past.view m)
        (accepted_row g w m) f.form.in_own
        (λ c. accepted_in_form (roster g) (w.members m) ((vote_waiting w m).ballot + 1)
        (vote_waiting w m).value c (own_word w m c) (fits g V w m x is e f) (f.form.in_own m (w.past.view m) c));
    in_table = f.form.in_table;
    in_seen = f.form.in_seen;
  };
}

-- ---- a commit

-- and nothing of this changes where a value is committed
pub commit_keeps : (g : Group) (V : Views) (w : World) (m : ℕ) → Faithful g V w → Faithful g V (commits w m)
commit_keeps g V w m f = beside_keeps g V w w.turns w.end (commits w m).committed f

-- the promise of a proposer is to itself
pub proposer : (g : Group) (V : Views) (w : World) (m : ℕ) → Faithful g V w
    → MayPropose (roster g) (shown w m) (w.members m) (w.suspects m) m → w.promise m ≡ m
proposer g V w m f may = sym (own_promise g V w m f) ∙ may.promised

-- a vote of an unsuspected member is old, or by the new ballot
pub old_or_new : (g : Group) (V : Views) (w : World) (m i b : ℕ) (v y : Value) → Faithful g V w
    → MayPropose (roster g) (shown w m) (w.members m) (w.suspects m) m
    → HasVoted g (logs_vote g w m v).past.votes i (w.past.view m) b y
    → HasVoted g w.past.votes i (w.past.view m) b y ⊎ (m ≤ b)
old_or_new g V w m i b v y f may h =
    by (logged_before w.past.votes m (vote_for g w m v) i (vote_in g (w.past.view m) b y) h)
  where
    by : HasLogged w.past.votes i (vote_in g (w.past.view m) b y)
        ⊎ ((i ≡ m) × (vote_in g (w.past.view m) b y ≡ vote_for g w m v))
        → HasVoted g w.past.votes i (w.past.view m) b y ⊎ (m ≤ b)
    by (inl old) = inl old
    by (inr t) =
        let ballot : b ≡ w.promise m = ap (λ z. z.ballot) t.1 in inr (omega (arith, ballot, proposer g V w m f may))
