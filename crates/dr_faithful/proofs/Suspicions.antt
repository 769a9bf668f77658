-- A member suspects another one: its whole row is written anew, and the members stay faithful.
use Rattle.std.proofs.Common.{Bool, ap, arith, false, inl, inr, le_trans, refl, subst, sym, true, Some, ℕ, ◌+◌, ◌-◌, ◌<◌, ◌^◌, ◌∙◌, ◌≡◌, ◌≢◌, ◌≤◌, ◌⊎◌, le_refl, ◌&&◌, not, None, Option}
use Rattle.std.proofs.lemmas.{Bool.cases_eq, Option.none-some}
use Rattle.dr_entry.specs.declared.record.{Value.Value, Vote.Vote}
use Rattle.dr_entry.proofs.NumberFacts.{itself_or, one_before, before_or_behind}
use Rattle.dr_history.{specs.{Members.has, Order.IsNewIn}, proofs.Bits.has_zero}
use Rattle.dr_machine.specs.{Acts.{CanTake, effect_of}, Effects.{suspects, vote_for}, World.{Past, World, own_word}}
use Rattle.dr_machine.specs.{Group.{Group, IsGroup, roster}, declared.step.Step.TheVariants.{Do, LogVote, Join}}
use Rattle.dr_machine.specs.{Guards.{CanSuspect, IsNamable, IsOther, MayChoose, unsuspected_of}, Writes.{at, at₂}}
use Rattle.dr_machine.{specs.Run.WordsGrew, proofs.{Events.standing_after, Presence.in_roster}}
use Rattle.dr_machine.{specs.declared.step.Step.Step, proofs.Writes.{at_case, at_other, at_same, at₂_case, at_both}}
use Rattle.dr_machine.proofs.Worlds.{mask_after, promise_after, row_after, own_here, own_there, suspect_past, AreQuiet}
use Rattle.dr_faithful.specs.Faithful.{AllGoOn, AreAccepts, AreCounts, AreSuspicions, Faithful, IsWaiting, Numbers}
use Rattle.dr_faithful.specs.Tells.{SuspicionsTold, Tells, TellsSuspicion, Views, WordsTell}
use Rattle.dr_faithful.proofs.{Beside.{in_view, none_outside}, OwnWords.{closed_written, fresh_written, old_later}}
use Rattle.dr_faithful.proofs.Pasts.{tells_later, tells_recv, tells_accept, tells_suspected}
use Rattle.dr_words.specs.{Columns.recv_column, declared.column.TheConstants.{RECEIVED_COLUMN, SUSPECTED_COLUMN}}
use Rattle.dr_words.specs.{Form.IsInForm, Grown.HasGrown}
use Rattle.dr_words.{specs.Masks.{IsInRoster, IsLeastOf, IsPartOf, least_of, without}, proofs.Accepts.accept_within}
use Rattle.dr_words.specs.Packing.{accept_promise, accept_tag, accept_value, is_final, recv_count, recv_word}
use Rattle.dr_words.{specs.Rewrites.{is_accept_of, wedged_word}, proofs.Order.{HasGrown_refl, HasGrown_trans}}
use Rattle.dr_words.proofs.Masks.{IsSuspecting, has_with_member, has_without_mask, in_roster_small, least_of_is, left_rises, left_within, more_grows, more_has, more_named, more_trusted, without_small}
use Rattle.dr_words.proofs.Rewrites.{recv_within, wedged_by, wedged_count, wedged_final, wedged_grown, wedged_in_form, wedged_promise, wedged_rest, wedged_tag, wedged_value}
use Rattle.dr_machine.specs.declared.event.Act.TheVariants as acts

-- ---- the mask and the promise

-- whom a member names is of the roster
pub named_in_roster : (g : Group) (V : Views) (w : World) (m : ℕ) → IsGroup g → Faithful g V w
    → IsInRoster (roster g) (w.suspects m)
named_in_roster g V w m is f j h = by (f.suspicions.named m j h)
  where
    by : (has (V (w.past.view m)) j ≡ true) ⊎ IsNewIn g.opening V (w.past.view m) j → j < roster g
    by (inl there) = f.views.within (w.past.view m) j there
    by (inr new) = in_roster g j is new.late.0

-- masks of the view have 16 bits
pub mask_small : (g : Group) (V : Views) (w : World) (mask v : ℕ) → IsGroup g → Faithful g V w
    → IsPartOf mask (V v) → mask < 2 ^ 16
mask_small g V w mask v is f part =
    in_roster_small 16 mask (λ i h. le_trans (f.views.within v i (part i h)) is.most_members)

pub members_small : (g : Group) (V : Views) (w : World) (m : ℕ) → IsGroup g → Faithful g V w → w.members m < 2 ^ 16
members_small g V w m is f = rw (f.views.own m) (mask_small g V w (V (w.past.view m)) (w.past.view m) is f (λ i h. h))

-- j is another member of m's view, or late and in no view so far
abbrev pub IsKnown : Group → Views → World → ℕ → ℕ → Type 0
IsKnown g V w m j = IsOther w m j ⊎ IsNewIn g.opening V (w.past.view m) j

-- m may suspect it, or wish for it
pub record MayName (g : Group) (V : Views) (w : World) (m j : ℕ) : Type 0 where
  pub may : MayChoose g w m
  pub known : IsKnown g V w m j
  pub unsuspected : has (w.suspects m) j ≡ false

pub may_name : (g : Group) (V : Views) (w : World) (m j : ℕ) → AllGoOn g V w → CanSuspect g w m j → MayName g V w m j
may_name g V w m j well can = record { may = can.may; known = by can.namable; unsuspected = can.unsuspected }
  where
    by : IsNamable g w m j → IsKnown g V w m j
    by (inl other) = inl other
    by (inr late) = inr (well.wish m j can.may.alive.present late)

known_within : (g : Group) (V : Views) (w : World) (m j : ℕ) → IsGroup g → IsKnown g V w m j
    → Faithful g V w → j < roster g
known_within g V w m j is (inl other) f =
    f.views.within (w.past.view m) j (ap (λ k. has k j) (sym (f.views.own m)) ∙ other.member)
known_within g V w m j is (inr new) f = in_roster g j is new.late.0

-- what is known of the masks of a member that may suspect another one
suspecting : (g : Group) (V : Views) (w : World) (m j : ℕ) → IsGroup g → MayName g V w m j
    → Faithful g V w → IsSuspecting (roster g) (w.members m) (w.suspects m) m j
suspecting g V w m j is can f = record {
  few = is.most_members;
  roster = λ i h. f.views.within (w.past.view m) i (ap (λ k. has k i) (sym (f.views.own m)) ∙ h);
  named = named_in_roster g V w m is f;
  present = can.may.inside;
  trusted = f.suspicions.trusted m;
  within = known_within g V w m j is can.known f;
  apart = apart can.known;
}
  where
    apart : IsKnown g V w m j → j ≢ m
    apart (inl other) = other.other
    apart (inr new) = λ e. absurd (cc (
      new.absent (w.past.view m) (le_refl (w.past.view m)),
      e,
      in_view g V w m f can.may.inside,
    ))

-- somebody is named now
pub mask_some : (g : Group) (V : Views) (w : World) (m j : ℕ) → IsGroup g → j < roster g
    → Faithful g V w → mask_after w m j ≢ 0
mask_some g V w m j is l f none = absurd (cc (
  has_zero j,
  none,
  has_with_member (w.suspects m) j j
      (in_roster_small 16 (w.suspects m) (λ i h. le_trans (named_in_roster g V w m is f i h) is.most_members))
      (le_trans l is.most_members) ∙ itself_or j (has (w.suspects m) j),
))

-- whom a member may name is of the roster
pub namable_within : (g : Group) (V : Views) (w : World) (m j : ℕ) → IsGroup g → IsNamable g w m j
    → Faithful g V w → j < roster g
namable_within g V w m j is (inl other) f =
    f.views.within (w.past.view m) j (ap (λ k. has k j) (sym (f.views.own m)) ∙ other.member)
namable_within g V w m j is (inr late) f = in_roster g j is late.0.0

-- the promise doesn't fall
pub promise_rises : (g : Group) (V : Views) (w : World) (m j : ℕ) → IsGroup g → MayName g V w m j
    → Faithful g V w → w.promise m ≤ promise_after w m j
promise_rises g V w m j is can f = by (cases_eq (w.suspects m) 0)
  where
    by : (w.suspects m ≡ 0) ⊎ (w.suspects m ≢ 0) → w.promise m ≤ promise_after w m j
    by (inl e) = omega (arith, f.suspicions.none m e)
    by (inr d) = rw (f.suspicions.least m d, ← f.views.own m) (left_rises (suspecting g V w m j is can f))

-- ---- the row

-- the received, logged, done and beat words are as before
pub plain_kept : (own : Numbers) (n members mask promise m v a u c : ℕ) → c < recv_column 0 → c ≢ SUSPECTED_COLUMN
    → at₂ own m v (λ k. wedged_word n members mask promise k (own m v k)) a u c ≡ own a u c
plain_kept own n members mask promise m v a u c l d =
    at₂_case (λ a u r. r c ≡ own a u c) own m v (λ k. wedged_word n members mask promise k (own m v k))
    (λ a u. refl) (wedged_rest n members mask promise c (own m v c) d (inl l)) a u

-- each word of the row has grown
row_grown : (g : Group) (V : Views) (w : World) (m j : ℕ) → IsGroup g → MayName g V w m j
    → Faithful g V w → (c : ℕ) → HasGrown (roster g) c (own_word w m c) (row_after g w m j c)
row_grown g V w m j is can f c = wedged_grown (roster g) (w.members m) (mask_after w m j) (promise_after w m j) c
    (own_word w m c) (λ e. rw (e, f.suspicions.told m) (more_grows (suspecting g V w m j is can f)))
    (λ a. rw (f.suspicions.accept m c (rw (← f.views.own m) a)) (promise_rises g V w m j is can f))

own_after : (g : Group) (V : Views) (w : World) (m j : ℕ) → IsGroup g → MayName g V w m j → Faithful g V w
    → (i v c : ℕ) → HasGrown (roster g) c (w.past.own i v c) ((suspects g w m j).past.own i v c)
own_after g V w m j is can f = at₂_case (λ i v r. (c : ℕ) → HasGrown (roster g) c
    (w.past.own i v c) (r c)) w.past.own m (w.past.view m)
    (row_after g w m j) (λ i v c. HasGrown_refl (roster g) c (w.past.own i v c)) (row_grown g V w m j is can f)

-- the words grow
pub suspect_grew : (g : Group) (V : Views) (w : World) (m j : ℕ) → IsGroup g → MayName g V w m j
    → Faithful g V w → WordsGrew g w (suspects g w m j)
suspect_grew g V w m j is can f = record {
  own = own_after g V w m j is can f;
  table = λ v a i c. HasGrown_refl (roster g) c (w.table v a i c);
  seen = λ a i c e. HasGrown_refl (roster g) c (w.seen a i c);
}

-- ---- what the words tell

counts_suspected : (g : Group) (V : Views) (w : World) (m j : ℕ) → IsGroup g → MayName g V w m j → Faithful g V w
    → AreCounts g V w.past.view (suspects g w m j).suspects (suspects g w m j).past.own w.past.count
counts_suspected g V w m j is can f = record {
  recv = λ a u b l. at₂_case (λ i v r. recv_count (r (recv_column b)) ≡ w.past.count i v b) w.past.own m
      (w.past.view m) (row_after g w m j) (λ i v. f.counts.recv i v b l)
      (wedged_count (roster g) (w.members m) (mask_after w m j) (promise_after w m j) b
      (own_word w m (recv_column b)) l ∙ f.counts.recv m (w.past.view m) b l) a u;
  unfinished = λ a b l. at_case (λ i k. k ≡ 0
      → is_final ((suspects g w m j).past.own i (w.past.view i) (recv_column b)) ≡ false) w.suspects m
      (mask_after w m j)
      (λ i d e. rw (at_other w.past.own m (at (w.past.own m) (w.past.view m) (row_after g w m j)) i d)
      (f.counts.unfinished i b l e))
      (λ e. absurd (mask_some g V w m j is (known_within g V w m j is can.known f) f e)) a;
  received = λ a u. plain_kept w.past.own (roster g) (w.members m) (mask_after w m j) (promise_after w m j)
      m (w.past.view m) a u RECEIVED_COLUMN (omega arith) (omega arith) ∙ f.counts.received a u;
  few = f.counts.few;
}

-- whom the members suspect, and what they promise
suspicions_suspected : (g : Group) (V : Views) (w : World) (m j : ℕ) → IsGroup g → MayName g V w m j → Faithful g V w
    → AreSuspicions g V w.past.view (suspects g w m j).suspects (suspects g w m j).promise (suspects g w m j).past.own
suspicions_suspected g V w m j is can f = record {
  named = at_case (λ i k. (n : ℕ) → has k n ≡ true → (has (V (w.past.view i)) n ≡ true) ⊎ IsNewIn g.opening V
      (w.past.view i) n) w.suspects m mask (λ i d. f.suspicions.named i) (λ n h. named n h (cases_eq n j));
  inside = at_case (λ i k. k ≢ 0 → has (V (w.past.view i)) i ≡ true) w.suspects m mask
      (λ i d. f.suspicions.inside i) (λ d. in_view g V w m f can.may.inside);
  trusted = at_case (λ i k. has k i ≡ false) w.suspects m mask
      (λ i d. f.suspicions.trusted i) (more_trusted (suspecting g V w m j is can f));
  told = λ i. told i (cases_eq i m);
  final = λ i s. final i s (cases_eq i m);
  none = λ i. none i (cases_eq i m);
  least = λ i. least i (cases_eq i m);
  accept = λ i c. accept i c (cases_eq i m);
}
  where
    mask : ℕ
    mask = mask_after w m j

    promise : ℕ
    promise = promise_after w m j

    known : IsKnown g V w m j → (has (V (w.past.view m)) j ≡ true) ⊎ IsNewIn g.opening V (w.past.view m) j
    known (inl other) = inl (ap (λ k. has k j) (sym (f.views.own m)) ∙ other.member)
    known (inr new) = inr new

    named : (n : ℕ) → has (mask_after w m j) n ≡ true → (n ≡ j) ⊎ (n ≢ j)
        → (has (V (w.past.view m)) n ≡ true) ⊎ IsNewIn g.opening V (w.past.view m) n
    named n h (inl e) = subst (λ k. (has (V (w.past.view m)) k ≡ true) ⊎ IsNewIn g.opening V (w.past.view m) k)
        (sym e) (known can.known)
    named n h (inr d) = f.suspicions.named m n
        (one_before n j (has (w.suspects m) n) d (sym (more_has (suspecting g V w m j is can f) n) ∙ h))

    told : (i : ℕ) → (i ≡ m) ⊎ (i ≢ m)
        → (suspects g w m j).past.own i (w.past.view i) SUSPECTED_COLUMN ≡ (suspects g w m j).suspects i
    told i (inl e) = rw e (own_here g w m j SUSPECTED_COLUMN ∙ sym (at_same w.suspects m mask))
    told i (inr d) = own_there g w m j i SUSPECTED_COLUMN d ∙ f.suspicions.told i
        ∙ sym (at_other w.suspects m mask i d)

    final : (i s : ℕ) → (i ≡ m) ⊎ (i ≢ m) → (suspects g w m j).suspects i ≢ 0 → has (V (w.past.view i)) s ≡ true
        → is_final ((suspects g w m j).past.own i (w.past.view i) (recv_column s)) ≡ true
    final i s (inl e) some h =
        let view : has (V (w.past.view m)) s ≡ true = rw (← e) h in
        rw (e, own_here g w m j (recv_column s)) (wedged_final (roster g) (w.members m) mask promise s _
        (f.views.within (w.past.view m) s view) (ap (λ k. has k s) (f.views.own m) ∙ view))
    final i s (inr d) some h = rw (own_there g w m j i (recv_column s) d)
        (f.suspicions.final i s (λ e. some (at_other w.suspects m mask i d ∙ e)) h)

    none : (i : ℕ) → (i ≡ m) ⊎ (i ≢ m) → (suspects g w m j).suspects i ≡ 0 → (suspects g w m j).promise i ≡ 0
    none i (inl e) zeroed = absurd (mask_some g V w m j is (known_within g V w m j is can.known f) f
        (sym (at_same w.suspects m mask) ∙ ap (suspects g w m j).suspects (sym e) ∙ zeroed))
    none i (inr d) zeroed = at_other w.promise m promise i d
        ∙ f.suspicions.none i (sym (at_other w.suspects m mask i d) ∙ zeroed)

    least : (i : ℕ) → (i ≡ m) ⊎ (i ≢ m) → (suspects g w m j).suspects i ≢ 0 → (suspects g w m j).promise i
        ≡ least_of (without (V (w.past.view i)) ((suspects g w m j).suspects i))
    least i (inl e) some = rw (e, at_same w.suspects m mask, ← f.views.own m) (at_same w.promise m promise)
    least i (inr d) some = rw (at_other w.suspects m mask i d) (at_other w.promise m promise i d
        ∙ f.suspicions.least i (λ e. some (at_other w.suspects m mask i d ∙ e)))

    accept : (i c : ℕ) → (i ≡ m) ⊎ (i ≢ m) → is_accept_of (roster g) (V (w.past.view i)) c ≡ true
        → accept_promise ((suspects g w m j).past.own i (w.past.view i) c) ≡ (suspects g w m j).promise i
    accept i c (inl e) a = rw (e, own_here g w m j c) (wedged_promise (roster g)
        (w.members m) mask promise c _ (rw (f.views.own m, ← e) a) ∙ sym (at_same w.promise m promise))
    accept i c (inr d) a = ap accept_promise (own_there g w m j i c d) ∙ f.suspicions.accept i c a
        ∙ sym (at_other w.promise m promise i d)

-- what the members have accepted stays, as the promise rises
accepts_suspected : (g : Group) (V : Views) (w : World) (m j : ℕ) → IsGroup g → MayName g V w m j → Faithful g V w
    → AreAccepts g V w.past.view (suspects g w m j).promise w.tag w.value w.pending (suspects g w m j).past.own
accepts_suspected g V w m j is can f = record {
  tagged = λ i c a. tagged i c (cases_eq i m) a ∙ f.accepts.tagged i c a;
  valued = λ i c a. valued i c (cases_eq i m) a ∙ f.accepts.valued i c a;
  low = at_case (λ i p. w.tag i ≤ p + 1) w.promise m promise (λ i d. f.accepts.low i)
      (omega (arith, f.accepts.low m, promise_rises g V w m j is can f));
  waits = at_case (λ i p. (x : Vote) → w.pending i ≡ Some x → IsWaiting g p (w.tag i) x) w.promise m
      promise (λ i d. f.accepts.waits i) (λ x e. absurd (cc (can.may.idle, e)));
}
  where
    mask : ℕ
    mask = mask_after w m j

    promise : ℕ
    promise = promise_after w m j

    tagged : (i c : ℕ) → (i ≡ m) ⊎ (i ≢ m) → is_accept_of (roster g) (V (w.past.view i)) c ≡ true
        → accept_tag ((suspects g w m j).past.own i (w.past.view i) c) ≡ accept_tag (own_word w i c)
    tagged i c (inl e) a = rw (e, own_here g w m j c)
        (wedged_tag (roster g) (w.members m) mask promise c _ (rw (f.views.own m, ← e) a))
    tagged i c (inr d) a = ap accept_tag (own_there g w m j i c d)

    valued : (i c : ℕ) → (i ≡ m) ⊎ (i ≢ m) → is_accept_of (roster g) (V (w.past.view i)) c ≡ true
        → accept_value ((suspects g w m j).past.own i (w.past.view i) c) ≡ accept_value (own_word w i c)
    valued i c (inl e) a = rw (e, own_here g w m j c)
        (wedged_value (roster g) (w.members m) mask promise c _ (rw (f.views.own m, ← e) a))
    valued i c (inr d) a = ap accept_value (own_there g w m j i c d)

-- the words tell as before
words_suspected : (g : Group) (V : Views) (w : World) (m j : ℕ) → Faithful g V w → WordsTell g V (suspects g w m j)
words_suspected g V w m j f = record {
  own = at₂_case (λ i v r. (c : ℕ) → Tells g V new i v c (r c)) w.past.own m (w.past.view m)
      (row_after g w m j) (λ i v c. later i v c (w.past.own i v c) (f.words.own i v c))
      (λ c. mine c (later m (w.past.view m) c (own_word w m c) (f.words.own m (w.past.view m) c)));
  table = λ v a i c. later i v c (w.table v a i c) (f.words.table v a i c);
  seen = λ a i c. later i (w.past.view a) c (w.seen a i c) (f.words.seen a i c);
}
  where
    new : Past
    new = (suspects g w m j).past

    later : (i v c word : ℕ) → Tells g V w.past i v c word → Tells g V (suspects g w m j).past i v c word
    later i v c word = tells_later g V w.past new i v c word (suspect_past g w m j)

    mine : (c : ℕ) → Tells g V new m (w.past.view m) c (own_word w m c)
        → Tells g V new m (w.past.view m) c (row_after g w m j c)
    mine c told = wedged_by (roster g) (w.members m) (mask_after w m j) (promise_after w m j) c
        (own_word w m c) (Tells g V new m (w.past.view m) c)
        (λ e. subst (λ (k : ℕ). Tells g V new m (w.past.view m) k (mask_after w m j)) (sym e)
        (tells_suspected g V new m (w.past.view m) (mask_after w m j)))
        (λ r. let at = recv_within (roster g) (w.members m) c r in
        let s : ℕ = c - recv_column 0 in
        let there : c ≡ recv_column s = omega (arith, at) in
        let within : s < roster g = omega (arith, at) in
        subst (λ (k : ℕ). Tells g V new m (w.past.view m) k (recv_word (recv_count (own_word w m c)) true))
        (sym there) (tells_recv g V new m (w.past.view m) s (recv_word (recv_count (own_word w m c)) true)
        within (omega (arith, told.recv s within there))))
        (λ a. tells_accept g V new m (w.past.view m) c _ (accept_within (roster g) (w.members m) c a)) told

-- and the members stay faithful
pub suspect_keeps : (g : Group) (V : Views) (w : World) (m j : ℕ) → IsGroup g → MayName g V w m j
    → Faithful g V w → Faithful g V (suspects g w m j)
suspect_keeps g V w m j is can f = record {
  beginning = f.beginning;
  views = f.views;
  items = f.items;
  sent = f.sent;
  counts = counts_suspected g V w m j is can f;
  suspicions = suspicions_suspected g V w m j is can f;
  accepts = accepts_suspected g V w m j is can f;
  words = words_suspected g V w m j f;
  logs = f.logs;
  delivered = record {
    held = λ a i h. rw (plain_kept w.past.own (roster g) (w.members m) (mask_after w m j) (promise_after w m j) m
        (w.past.view m) i (w.past.view a) RECEIVED_COLUMN (omega arith) (omega arith)) (f.delivered.held a i h);
    none = f.delivered.none;
  };
  fresh = fresh_written g V w.past.view w.past.own w.past.count m (w.past.view m) (row_after g w m j)
      (le_refl (w.past.view m)) (in_view g V w m f can.may.inside) f.fresh;
  closed = closed_written g V w.past.view w.past.own m (row_after g w m j) f.closed;
  old = old_later g w.past.view w.past.own (suspects g w m j).past.own w.table w.seen
      (own_after g V w m j is can f) f.old;
  form = record {
    in_own = at₂_case (λ i v r. (c : ℕ) → IsInForm (roster g) c (r c)) w.past.own m (w.past.view m)
        (row_after g w m j) f.form.in_own (λ c. wedged_in_form (roster g) (w.members m) (mask_after w m j)
        (promise_after w m j) c (own_word w m c) (in_roster_small (roster g) (mask_after w m j) (more_named s))
        (left_within s) (f.form.in_own m (w.past.view m) c));
    in_table = f.form.in_table;
    in_seen = f.form.in_seen;
  };
}
  where
    s : IsSuspecting (roster g) (w.members m) (w.suspects m) m j
    s = suspecting g V w m j is can f

-- ---- what is told of suspicions

-- an own word with a final count is that of a member that suspects somebody there
final_wedged : (g : Group) (V : Views) (w : World) (i v s : ℕ) → Faithful g V w → s < roster g
    → is_final (w.past.own i v (recv_column s)) ≡ true → w.past.own i v SUSPECTED_COLUMN ≢ 0
final_wedged g V w i v s f l final none = by (before_or_behind v (w.past.view i))
  where
    by : (v < w.past.view i) ⊎ ((v ≡ w.past.view i) ⊎ (w.past.view i < v)) → ⊥
    by (inl left) = inside (has (V v) i) refl left
      where
        inside : (b : Bool) → has (V v) i ≡ b → v < w.past.view i → ⊥
        inside true here left = (f.closed i v left here).wedged none
        inside false out left = absurd (cc (final, none_outside g V w i v (recv_column s) f out (omega arith)))
    by (inr (inl same)) =
        let here : w.suspects i ≡ 0 = sym (f.suspicions.told i)
        ∙ ap (λ u. w.past.own i u SUSPECTED_COLUMN) (sym same) ∙ none in
        absurd (cc (final, same, f.counts.unfinished i s l here))
    by (inr (inr later)) = absurd (cc (final, f.fresh.unwritten i v (recv_column s) later))

-- a word that its own one has grown from tells of the suspicions
tells_suspicion : (g : Group) (V : Views) (w : World) (i v c word : ℕ) → Faithful g V w
    → HasGrown (roster g) c word (w.past.own i v c) → TellsSuspicion g w.past i v c word
tells_suspicion g V w i v c word f grown = record {
  suspected = λ e. subst (λ k. IsPartOf word k) (ap (w.past.own i v) e) (grown.suspected e);
  final = λ s l e h. let same = grown.final s l e h in (
    same,
    sym (f.counts.recv i v s l) ∙ ap (λ k. recv_count (w.past.own i v k)) (sym e) ∙ ap recv_count same,
    final_wedged g V w i v s f l (ap (λ k. is_final (w.past.own i v k)) (sym e) ∙ ap is_final same ∙ h),
  );
  promise = omega (arith, grown.number);
}

-- all words do
pub suspicions_told : (g : Group) (V : Views) (w : World) → Faithful g V w → SuspicionsTold g w
suspicions_told g V w f = record {
  own = λ i v c. tells_suspicion g V w i v c (w.past.own i v c) f (HasGrown_refl (roster g) c (w.past.own i v c));
  table = λ v j i c. tells_suspicion g V w i v c _ f (f.old.in_table v j i c);
  seen = λ m i c d. tells_suspicion g V w i (w.past.view m) c (w.seen m i c) f
      (HasGrown_trans (roster g) c (w.seen m i c) (w.table (w.past.view m) m i c) _ (f.old.in_seen m i c d)
      (f.old.in_table (w.past.view m) m i c));
  suspects = f.suspicions.told;
  promises = λ i c a. f.suspicions.accept i c (rw (← f.views.own i) a);
}

-- a member that suspects somebody waits for the least that it doesn't suspect
pub promise_least : (g : Group) (V : Views) (w : World) (m : ℕ) → IsGroup g → Faithful g V w
    → w.suspects m ≢ 0 → IsLeastOf (unsuspected_of w m) (w.promise m)
promise_least g V w m is f some = rw (f.suspicions.least m some, ← f.views.own m)
    (least_of_is (unsuspected_of w m) m (without_small (w.members m) (w.suspects m))
    (has_without_mask (w.members m) (w.suspects m) m (members_small g V w m is f)
    ∙ grind (arith, ap (λ k. has k m) (f.views.own m) ∙ f.suspicions.inside m some, f.suspicions.trusted m)))

-- who is not suspected
pub unsuspected_is : (g : Group) (V : Views) (w : World) (m i : ℕ) → IsGroup g → Faithful g V w
    → has (unsuspected_of w m) i ≡ (has (w.members m) i && not (has (w.suspects m) i))
unsuspected_is g V w m i is f = has_without_mask (w.members m) (w.suspects m) i (members_small g V w m is f)

-- each step keeps it so
pub step_quiet : (g : Group) (V : Views) (w : World) (m : ℕ) (s : Step) → IsGroup g → Faithful g V w
    → CanTake g w m s → AreQuiet w → AreQuiet (effect_of g w m s)
step_quiet g V w m (Do (acts.Suspect j)) is f can old = at_case (λ k mask. mask ≡ 0 → (w.pending k ≡ None)
    × (w.committed k ≡ None)) w.suspects m (mask_after w m j)
    (λ k d. old k) (λ none. absurd (mask_some g V w m j is (namable_within g V w m j is can.namable f) f none))
step_quiet g V w m (Do acts.Propose) is f can old = at_case (λ k vote. w.suspects k ≡ 0 → (vote ≡ None)
    × (w.committed k ≡ None)) w.pending m None (λ k d. old k) (λ calm. (refl, (old m calm).1))
step_quiet g V w m (Do acts.Accept) is f can old = at_case (λ k vote. w.suspects k ≡ 0 → (vote ≡ None)
    × (w.committed k ≡ None)) w.pending m None (λ k d. old k) (λ calm. (refl, (old m calm).1))
step_quiet g V w m (Do acts.Commit) is f can old = at_case (λ k choice. w.suspects k ≡ 0 → (w.pending k ≡ None)
    × (choice ≡ None)) w.committed m (Some (w.value m)) (λ k d. old k) (λ calm. absurd (can.wedged calm))
step_quiet g V w m (Do acts.Finish) is f can old =
    at_both (λ k (mask : ℕ) (choice : Option Value). mask ≡ 0 → (w.pending k ≡ None) × (choice ≡ None))
    w.suspects w.committed m 0 None old (λ calm. (can.may.idle, refl))
step_quiet g V w m (Do a) is f can old = old
step_quiet g V w m (LogVote v) is f can old = at_case (λ k vote. w.suspects k ≡ 0 → (vote ≡ None)
    × (w.committed k ≡ None)) w.pending m (Some (vote_for g w m v)) (λ k d. old k) (λ calm. absurd (can.wedged calm))
step_quiet g V w m Join is f can old =
    at_both (λ k (mask : ℕ) (choice : Option Value). mask ≡ 0 → (w.pending k ≡ None) × (choice ≡ None))
    w.suspects w.committed m 0 None old (λ calm. (can.may.idle, refl))
step_quiet g V w m s is f can old = old

-- whoever has committed a value is wedged
pub wedged_stay : (g : Group) (V : Views) (w : World) (m : ℕ) (s : Step) → IsGroup g → CanTake g w m s
    → Faithful g V w → ((k : ℕ) (x : Value) → w.committed k ≡ Some x → w.suspects k ≢ 0)
    → (k : ℕ) (x : Value) → (effect_of g w m s).committed k ≡ Some x → (effect_of g w m s).suspects k ≢ 0
wedged_stay g V w m s is can f old = standing_after g w m s
    (λ x. (k : ℕ) (y : Value) → x.committed k ≡ Some y → x.suspected k ≢ 0) can (record {
      goes_on = λ can. at_both (λ k (mask : ℕ) (c : Option Value). (x : Value) → c ≡ Some x → mask ≢ 0)
          w.suspects w.committed m 0 None old (λ x e. absurd (none-some x e));
      joins = λ can. at_both (λ k (mask : ℕ) (c : Option Value). (x : Value) → c ≡ Some x → mask ≢ 0)
          w.suspects w.committed m 0 None old (λ x e. absurd (none-some x e));
      chooses = λ can. at_case (λ k (c : Option Value). (x : Value) → c ≡ Some x → w.suspects k ≢ 0)
          w.committed m (Some (w.value m)) (λ k d. old k) (λ x e. can.wedged);
      wedges = λ j can. at_case (λ k (mask : ℕ). (x : Value) → w.committed k ≡ Some x → mask ≢ 0) w.suspects m
          (mask_after w m j) (λ k d. old k) (λ x e. mask_some g V w m j is
          (namable_within g V w m j is can.namable f) f);
      stops = λ end alive why. old;
      stays = old;
    })
