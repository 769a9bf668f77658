-- Worlds before and after one member's step.
use Rattle.std.proofs.Common.{◌≡◌, ℕ, ◌-◌, inl, inr, [], arith, zero, suc, ◌+◌, min, ◌^◌, List, le_of_eq, subst, sym, ap, refl, le_refl, drop, length, take, ◌++◌, ◌∷◌, unwrap_or, Some, fold, length-append, ◌<◌, ◌≤◌, le_trans, slice_index, ◌⊎◌, ◌≢◌, true, ◌&&◌, ◌==◌, ◌∙◌, nat_lt, None, false}
use Rattle.std.proofs.{Math.Nat.{min-le_left, min-eq_left}, lemmas.Bool.{cases_eq, and_parts, eqb-true}}
use Rattle.dr_entry.specs.declared.{end.{End.TheVariants.Done, SentItem.SentItem}, entry.Entry.Entry}
use Rattle.dr_entry.specs.declared.entry.{Entry.TheVariants.{Msg, View}, Item.{Item, TheVariants.{Null, Text}}}
use Rattle.dr_entry.{specs.declared.record.{Value.Value, Vote.Vote}, proofs.ListPlaces.no_trim}
use Rattle.dr_history.specs.{History.{IsPrefixOf, Sent, up_to_view, last_view}, Members.has, Order.messages_from}
use Rattle.dr_history.{specs.Places.rest_places, proofs.{Bits.has_zero, Keeping.prefix_shorter}}
use Rattle.dr_history.proofs.{Letters.{up_to_view-last, up_to_view-same}, Lists.{prefix_refl, prefix-trans}}
use Rattle.dr_words.specs.{Accepts.{part_of, tag_of}, Masks.{next_members, with_member, least_of, without}}
use Rattle.dr_words.specs.{Changes.tagged_members, Columns.{leavers_column, trim_column}, Rewrites.wedged_word}
use Rattle.dr_words.specs.{Packing.ring_word, declared.column.TheConstants.{DONE_COLUMN, LOGGED_COLUMN, BEAT_COLUMN}}
use Rattle.dr_words.proofs.Masks.{has_mask_of}
use Rattle.dr_machine.specs.{Acts.{does, effect_of}, Group.{Group, roster}, declared.{event.Act.Act, step.Step.Step}}
use Rattle.dr_machine.specs.Effects.{one_more, with_own, appends, entries_of, delivers, sender_at, finishes, finishes_by, with_place, counts_by, finished_history, enters, joins, row_with, suspects, logs_vote, vote_for}
use Rattle.dr_machine.specs.{Guards.{CanJoin, IsInView, CanLogVote, IsUnwedged}, declared.step.Step.TheVariants.Do}
use Rattle.dr_machine.{specs.{Run.PastGrew, Writes.{at₂, at}}, proofs.Groups.does_table}
use Rattle.dr_machine.specs.World.{no_value, Past, World, item_at_place, shown, own_word, opening_world}
use Rattle.dr_machine.proofs.Writes.{at_case, at₂_case, at₂_read, at_other, own_other, cell_apart}

-- nor has the value that nobody votes for
pub no_part : (n c : ℕ) → part_of n no_value c ≡ 0
no_part n c = elim (cases_eq c (leavers_column n)) [
  | inl e ↦ grind arith
  | inr d ↦ grind (arith, no_trim 16 (c - trim_column n 0))
]

-- a number of pushes, so many more
unfoldable pub raised : ℕ → ℕ → ℕ
raised zero pushes = pushes
raised (suc n) pushes = one_more 32 (raised n pushes)

pub raised_by : (n pushes : ℕ) → raised (suc n) pushes ≡ min (pushes + (n + 1)) (2 ^ 32 - 1)
unfolding raised
raised_by zero pushes = omega arith
raised_by (suc n) pushes = omega (arith, raised_by n pushes)

-- what grows is the same
pub same_past : (old new : Past) → new.view ≡ old.view → new.count ≡ old.count
    → new.sent ≡ old.sent → new.history ≡ old.history → new.log ≡ old.log → new.votes ≡ old.votes
    → new.durable ≡ old.durable → new.acts ≡ old.acts → PastGrew old new
same_past old new view count sent history log votes durable acts = record {
  view = λ m. le_of_eq (sym (ap (λ f. f m) view));
  count = λ m v s. le_of_eq (sym (ap (λ f. f m v s) count));
  sent = λ m v. subst (λ (f : Sent). IsPrefixOf (old.sent m v) (f m v)) (sym sent) (prefix_refl (old.sent m v));
  history = λ m. subst (λ (f : ℕ → List Entry). IsPrefixOf (old.history m) (f m)) (sym history)
      (prefix_refl (old.history m));
  log = λ m. subst (λ (f : ℕ → List Entry). IsPrefixOf (old.log m) (f m)) (sym log) (prefix_refl (old.log m));
  votes = λ m. subst (λ (f : ℕ → List Vote). IsPrefixOf (old.votes m) (f m)) (sym votes) (prefix_refl (old.votes m));
  durable = λ m. le_of_eq (sym (ap (λ f. f m) durable));
  acts = λ m. le_of_eq (sym (ap (λ f. f m) acts));
}

-- an own word is not what only grows
pub word_past : (w : World) (m c x : ℕ) → PastGrew w.past (with_own w m c x).past
word_past w m c x = same_past w.past (with_own w m c x).past refl refl refl refl refl refl refl refl

-- nothing has changed
pub past_same : (past : Past) → PastGrew past past
past_same past = record {
  view = λ m. le_refl (past.view m);
  count = λ m v s. le_refl (past.count m v s);
  sent = λ m v. prefix_refl (past.sent m v);
  history = λ m. prefix_refl (past.history m);
  log = λ m. prefix_refl (past.log m);
  votes = λ m. prefix_refl (past.votes m);
  durable = λ m. le_refl (past.durable m);
  acts = λ m. le_refl (past.acts m);
}

-- the log is one entry longer
pub append_past : (w : World) (m : ℕ) → PastGrew w.past (appends w m).past
append_past w m =
    let same = past_same w.past in
    let one : List Entry = take 1 (drop (length (w.past.log m)) (w.past.history m)) in record {
      view = same.view;
      count = same.count;
      sent = same.sent;
      history = same.history;
      log = at_case (λ i l. IsPrefixOf (w.past.log i) l) w.past.log m (w.past.log m ++ one)
          (λ i d. prefix_refl (w.past.log i)) (one, refl);
      votes = same.votes;
      durable = same.durable;
      acts = same.acts;
    }

-- so the last View stays where an item is delivered
pub up_to_view-entries : (h : List Entry) (s : ℕ) (item : Item) → up_to_view (h ++ entries_of h s item) ≡ up_to_view h
unfolding up_to_view
up_to_view-entries h s Null = up_to_view-same h [] refl
up_to_view-entries h s (Text bytes) = up_to_view-same h (Msg s (length (messages_from s h)) bytes ∷ []) refl

-- the history goes on
pub deliver_past : (w : World) (m : ℕ) → PastGrew w.past (delivers w m).past
deliver_past w m =
    let same = past_same w.past in
    let new : List Entry = entries_of (w.past.history m) (sender_at w m (w.next m))
    (item_at_place w m (w.next m)) in record {
      view = same.view;
      count = same.count;
      sent = same.sent;
      history = at_case (λ i l. IsPrefixOf (w.past.history i) l) w.past.history m (w.past.history m ++ new)
          (λ i d. prefix_refl (w.past.history i)) (new, refl);
      log = same.log;
      votes = same.votes;
      durable = same.durable;
      acts = same.acts;
    }

-- what holds of a member that has committed a value holds of the value that it takes
pub committed_is : (w : World) (m : ℕ) (x : Value) (P : World → Type 0) (g : Group)
    → w.committed m ≡ Some x → P (finishes_by g w m x) → P (finishes g w m)
committed_is w m x P g e p = subst (λ y. P (finishes_by g w m y)) (sym (ap (λ r. unwrap_or r no_value) e)) p

-- places that are delivered add to a history
rest_prefix : (w : World) (m : ℕ) (history : List Entry) (ps : List ℕ)
    → IsPrefixOf history (fold (with_place w m) history ps)
rest_prefix w m history [] = prefix_refl history
rest_prefix w m history (p ∷ ps) = prefix-trans history (with_place w m history p) _
    (entries_of history (sender_at w m p) (item_at_place w m p), refl) (rest_prefix w m (with_place w m history p) ps)

-- the history goes on to the next View
pub history_goes_on : (g : Group) (w : World) (m : ℕ) (x : Value)
    → IsPrefixOf (w.past.history m) (finished_history g w m x)
history_goes_on g w m x =
    let ps : List ℕ = rest_places (counts_by w m x) (w.next m) in
    prefix-trans (w.past.history m) (fold (with_place w m) (w.past.history m) ps) _ (rest_prefix w m
    (w.past.history m) ps) (View g.opening.age (w.past.view m + 1) (next_members (w.members m) x.leavers) ∷ [], refl)

-- which stands behind all that the member had
pub history_behind : (g : Group) (w : World) (m : ℕ) (x : Value)
    → length (w.past.history m) < length (up_to_view (finished_history g w m x))
unfolding up_to_view
history_behind g w m x = omega (
  arith,
  ap length (up_to_view-last held [] g.opening.age (w.past.view m + 1) members refl),
  length-append held (View g.opening.age (w.past.view m + 1) members ∷ []),
  prefix_shorter (w.past.history m) held (rest_prefix w m (w.past.history m) ps),
)
  where
    ps : List ℕ
    ps = rest_places (counts_by w m x) (w.next m)

    held : List Entry
    held = fold (with_place w m) (w.past.history m) ps

    members : ℕ
    members = next_members (w.members m) x.leavers

pub enter_past : (w : World) (m to members : ℕ) (history : List Entry) → w.past.view m < to
    → IsPrefixOf (w.past.history m) history → PastGrew w.past (enters w m to members history).past
enter_past w m to members history later goes_on =
    let same = past_same w.past in record {
      view = at_case (λ i v. w.past.view i ≤ v) w.past.view m to
          (λ i d. le_refl (w.past.view i)) (omega (arith, later));
      count = same.count;
      sent = same.sent;
      history = at_case (λ i l. IsPrefixOf (w.past.history i) l) w.past.history m
          history (λ i d. prefix_refl (w.past.history i)) goes_on;
      log = same.log;
      votes = same.votes;
      durable = same.durable;
      acts = same.acts;
    }

pub finish_past : (g : Group) (w : World) (m : ℕ) (x : Value) → PastGrew w.past (finishes_by g w m x).past
finish_past g w m x = enter_past w m (w.past.view m + 1) (next_members (w.members m) x.leavers)
    (finished_history g w m x) (omega arith) (history_goes_on g w m x)

-- what holds of a member that comes into the view of its letter holds of it once it has joined
pub joined_is : (w : World) (m : ℕ) (l : List Entry) (P : World → Type 0) → w.letter m ≡ Some l
    → P (enters w m (last_view (0, 0) l).0 (last_view (0, 0) l).1 l) → P (joins w m)
joined_is w m l P e p =
    subst (λ h. P (enters w m (last_view (0, 0) h).0 (last_view (0, 0) h).1 h)) (sym (ap (λ r. unwrap_or r []) e)) p

-- growth, and then growth again
pub past_on : (a b c : Past) → PastGrew a b → PastGrew b c → PastGrew a c
past_on a b c p q = record {
  view = λ m. le_trans (p.view m) (q.view m);
  count = λ m v s. le_trans (p.count m v s) (q.count m v s);
  sent = λ m v. prefix-trans (a.sent m v) (b.sent m v) (c.sent m v) (p.sent m v) (q.sent m v);
  history = λ m. prefix-trans (a.history m) (b.history m) (c.history m) (p.history m) (q.history m);
  log = λ m. prefix-trans (a.log m) (b.log m) (c.log m) (p.log m) (q.log m);
  votes = λ m. prefix-trans (a.votes m) (b.votes m) (c.votes m) (p.votes m) (q.votes m);
  durable = λ m. le_trans (p.durable m) (q.durable m);
  acts = λ m. le_trans (p.acts m) (q.acts m);
}

pub row_in : (row : ℕ → ℕ) (from k part : ℕ) (list : List ℕ) → part < length list
    → row_with row from k list (from + part) ≡ ring_word k (slice_index list part)
row_in row from k part list l =
    let there : from + part - from ≡ part = omega arith in rw there (grind (arith, l))

pub row_out : (row : ℕ → ℕ) (from k c : ℕ) (list : List ℕ) → (c < from)
    ⊎ (from + length list ≤ c) → row_with row from k list c ≡ row c
row_out row from k c list (inl l) = grind arith
row_out row from k c list (inr l) = grind arith

abbrev pub sent_after : World → ℕ → SentItem → Sent
sent_after w m x = at₂ w.past.sent m (w.past.view m) (w.past.sent m (w.past.view m) ++ x ∷ [])

-- what was put stays, and one more element stands behind it
pub sent_grew : (w : World) (m : ℕ) (x : SentItem) (a u : ℕ) → IsPrefixOf (w.past.sent a u) (sent_after w m x a u)
sent_grew w m x = at₂_case (λ a u l. IsPrefixOf (w.past.sent a u) l) w.past.sent m (w.past.view m) _
    (λ a u. prefix_refl (w.past.sent a u)) (x ∷ [], refl)

-- the own word in the own row, and else the one that was seen
pub shown_own : (w : World) (m i c : ℕ) → i ≡ m → shown w m i c ≡ w.past.own i (w.past.view m) c
shown_own w m i c e = grind arith

pub shown_seen : (w : World) (m i c : ℕ) → i ≢ m → shown w m i c ≡ w.seen m i c
shown_seen w m i c d = grind arith

pub rises : (a x : ℕ) → x ≤ a → a < 2 ^ 64 → (x ≤ one_more 64 a) × (one_more 64 a < 2 ^ 64)
rises a x l b = (omega arith, omega arith)

abbrev pub mask_after : World → ℕ → ℕ → ℕ
mask_after w m j = with_member (w.suspects m) j

abbrev pub promise_after : World → ℕ → ℕ → ℕ
promise_after w m j = least_of (without (w.members m) (mask_after w m j))

abbrev pub row_after : Group → World → ℕ → ℕ → ℕ → ℕ
row_after g w m j c = wedged_word (roster g) (w.members m) (mask_after w m j) (promise_after w m j) c (own_word w m c)

-- a suspicion is not what only grows
pub suspect_past : (g : Group) (w : World) (m j : ℕ) → PastGrew w.past (suspects g w m j).past
suspect_past g w m j = same_past w.past (suspects g w m j).past refl refl refl refl refl refl refl refl

-- the own words of the member, and of the others, in their views
pub own_here : (g : Group) (w : World) (m j c : ℕ) → (suspects g w m j).past.own m (w.past.view m) c ≡ row_after g w m j c
own_here g w m j c = ap (λ r. r c) (at₂_read w.past.own m (w.past.view m) (row_after g w m j))

pub own_there : (g : Group) (w : World) (m j i c : ℕ) → i ≢ m
    → (suspects g w m j).past.own i (w.past.view i) c ≡ own_word w i c
own_there g w m j i c d = ap (λ r. r (w.past.view i) c)
    (at_other w.past.own m (at (w.past.own m) (w.past.view m) (row_after g w m j)) i d)

-- an item gives one entry at most
pub one_entry : (history : List Entry) (s : ℕ) (item : Item) → length (entries_of history s item) ≤ 1
one_entry history s Null = omega arith
one_entry history s (Text bytes) = omega arith

pub one_more_at_most : (a : ℕ) → one_more 32 a ≤ a + 1
one_more_at_most a = min-le_left (a + 1) 4294967295

-- a turn more within a limit of 32 bits
pub one_turn : (a b : ℕ) → a < b → b < 2 ^ 32 → one_more 32 a ≡ a + 1
one_turn a b h g = min-eq_left (omega arith)

-- the members whose row has the own tag
pub tagged_is : (g : Group) (w : World) (m i tag : ℕ) → has (tagged_members (roster g)
    (shown w m) (w.members m) tag) i ≡ true → (has (w.members m) i ≡ true) × (tag_of (roster g) (shown w m) i ≡ tag)
tagged_is g w m i tag h =
    let there = and_parts (nat_lt i 16) _ (sym (has_mask_of (λ i. has (w.members m) i
    && tag_of (roster g) (shown w m) i == tag) i) ∙ h) in
    let both = and_parts (has (w.members m) i) _ there.1 in (both.0, eqb-true _ _ both.1)

-- who suspects nobody has no vote that waits, and has committed nothing
abbrev pub AreQuiet : World → Type 0
AreQuiet w = (m : ℕ) → w.suspects m ≡ 0 → (w.pending m ≡ None) × (w.committed m ≡ None)

-- whoever may join comes into a later view
abbrev pub JoinsLater : Group → World → Type 0
JoinsLater g w = (m : ℕ) (can : CanJoin g w m) → w.past.view m < (last_view (0, 0) can.letter).0

-- those who show done have completed their history, and nobody ends as done before all of its view show it
pub record Complete (g : Group) (w : World) : Type 0 where
  -- who shows done knows its whole history to be durable
  pub durable : (m : ℕ) → m < roster g → own_word w m DONE_COLUMN ≡ 1 → w.past.durable m ≡ length (w.past.history m)
  -- all members of the view of one that has ended as done show it
  pub shown : (m : ℕ) → w.end m ≡ Some Done → (i : ℕ) → has (w.members m) i ≡ true
      → w.past.own i (w.past.view m) DONE_COLUMN ≡ 1
  -- which it is in
  pub inside : (m : ℕ) → w.end m ≡ Some Done → IsInView w m

-- what a member shows itself is its own word
pub shows_own : (w : World) (m c x : ℕ) → x < shown w m m c → x < own_word w m c
shows_own w m c x l = grind (arith, l)

-- what the next place adds
abbrev pub added : World → ℕ → List Entry
added w m = entries_of (w.past.history m) (sender_at w m (w.next m)) (item_at_place w m (w.next m))

pub opening-complete : (g : Group) → Complete g (opening_world g)
opening-complete g = record { durable = λ m l e. refl; shown = λ m e. absurd (cc); inside = λ m e. absurd (cc) }

-- a vote of one member takes no vote from another
pub vote-apart : (g : Group) (u : World) (m n : ℕ) (v z : Value) → m ≢ n → CanLogVote g u m v
    → CanLogVote g (logs_vote g u n z) m v
vote-apart g u m n v z apart can = record {
  may = record {
    alive = record { present = can.may.alive.present; running = can.may.alive.running };
    idle = at_other u.pending n (Some (vote_for g u n z)) m apart ∙ can.may.idle;
    inside = can.may.inside;
  };
  wedged = can.wedged;
  uncommitted = can.uncommitted;
  logged = can.logged;
  whole = can.whole;
  allowed = can.allowed;
}

-- whoever suspects nobody doesn't suspect this member
pub trusted : (w : World) (m i : ℕ) → IsUnwedged w m → has (w.suspects m) i ≡ false
trusted w m i calm = ap (λ x. has x i) calm ∙ has_zero i

pub one_act : (n : ℕ) → one_more 64 n ≤ n + 1
one_act n = min-le_left (n + 1) (2 ^ 64 - 1)

pub one_stamp : (n : ℕ) → n + 1 < 2 ^ 64 → one_more 64 n ≡ n + 1
one_stamp n small = min-eq_left (omega (arith, small))

pub published_own : (w : World) (m c x : ℕ) → LOGGED_COLUMN ≢ c
    → own_word (with_own w m c x) m LOGGED_COLUMN < length (w.past.log m)
    → own_word w m LOGGED_COLUMN < length (w.past.log m)
published_own w m c x apart behind =
    omega (arith, behind, own_other w.past.own m (w.past.view m) c x LOGGED_COLUMN apart)

pub publish_own : (w : World) (m c x : ℕ) → LOGGED_COLUMN ≢ c → own_word w m LOGGED_COLUMN < length (w.past.log m)
    → own_word (with_own w m c x) m LOGGED_COLUMN < length (w.past.log m)
publish_own w m c x apart behind =
    omega (arith, behind, own_other w.past.own m (w.past.view m) c x LOGGED_COLUMN apart)

-- an act stores its stamp in the own copy alone
pub act_cells : (g : Group) (w : World) (m : ℕ) (a : Act) (v j i c : ℕ) → (j ≢ m) ⊎ (i ≢ m)
    → (effect_of g w m (Do a)).table v j i c ≡ w.table v j i c
act_cells g w m a v j i c apart = cell_apart (does g w m a).table (w.past.view m) m BEAT_COLUMN
    (one_more 64 ((does g w m a).past.acts m)) v j i c apart ∙ ap (λ t. t v j i c) (does_table g w m a)

-- the rows of the other members stay
pub rows_stay : (g : Group) (w : World) (m : ℕ) (s : Step) (v j i c : ℕ) → i ≢ m
    → (effect_of g w m s).table v j i c ≡ w.table v j i c
rows_stay g w m (Do a) v j i c other = act_cells g w m a v j i c (inr other)
rows_stay g w m s v j i c other = grind (arith, other)

-- its own row shows its own words
pub shown_mine : (w : World) (m i c x : ℕ) → i ≡ m → own_word w m c ≡ x → shown w m i c ≡ x
shown_mine w m i c x same word = grind (arith, same, word)

-- and another's the words that it has seen
pub shown_other : (w : World) (m i c x : ℕ) → i ≢ m → w.seen m i c ≡ x → shown w m i c ≡ x
shown_other w m i c x other word = grind (arith, other, word)

-- a world as if member m had none
abbrev pub unended_in : World → ℕ → World
unended_in w m = record w { end = at w.end m None }
