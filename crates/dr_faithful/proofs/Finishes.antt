-- A member goes on in a later view, in which nothing of it was written, as it ends its view or joins: the
-- members stay faithful, and the words grow.
use Rattle.std.proofs.Common.{List, None, Some, ap, arith, false, inl, inr, le_refl, le_trans, length, refl, subst, sym, true, ℕ, ◌+◌, ◌<◌, ◌∙◌, ◌≡◌, ◌≢◌, ◌≤◌, ◌⊎◌}
use Rattle.std.proofs.{Math.Path.fun_ext, lemmas.Option.none-some}
use Rattle.dr_entry.specs.{declared.entry.{Entry.Entry, Item.TheVariants.Null}, declared.record.Value.Value}
use Rattle.dr_entry.{specs.declared.record.Vote.Vote, proofs.{BoolFacts.stays_in, ListFacts.no_members}}
use Rattle.dr_entry.proofs.OptionFacts.{below_or_last}
use Rattle.dr_history.specs.{History.{IsPrefixOf, messages_of, up_to_view}, Order.{IsNewIn, messages_from}}
use Rattle.dr_history.{specs.Members.has, proofs.{Bits.has_zero, Keeping.prefix_shorter, Lists.prefix-trans}}
use Rattle.dr_rows.specs.Words.{own}
use Rattle.dr_machine.specs.Effects.{enters, finished_history, finishes_by, one_more, stamped, stamped_in}
use Rattle.dr_machine.specs.{Group.{Group, IsGroup, IsPresent, roster}, Guards.MayChoose, Run.WordsGrew}
use Rattle.dr_machine.specs.{Sending.IsPut, World.{Past, World, no_value}, Writes.at₃}
use Rattle.dr_machine.proofs.Worlds.{no_part, enter_past, history_goes_on, history_behind}
use Rattle.dr_machine.proofs.Writes.{at_both, at_case, at_three, at₃_case, at₃_column, at₃_member, at₃_view, row_member, row_view}
use Rattle.dr_faithful.specs.Faithful.{AreAccepts, AreCounts, AreDelivered, AreSuspicions, Faithful, GoesOnWell, HaveStayed, IsClosed, IsLateBeat, StandsOnLogs, IsWaiting, JoinsWell, Numbers}
use Rattle.dr_faithful.{specs.Tells.{Tells, Views, item_sent}, proofs.Beside.in_view}
use Rattle.dr_faithful.proofs.OwnWords.{IsPlain, accepts_word, counts_word, delivered_word, form_word, old_later, own_grown, suspicions_word}
use Rattle.dr_faithful.proofs.Pasts.{tells_later, tells_logged, tells_nothing}
use Rattle.dr_words.specs.{Accepts.part_of, Columns.recv_column, Form.IsInForm, Grown.HasGrown}
use Rattle.dr_words.{specs.Masks.{least_of, next_members, without}, proofs.Forms.{form_zero, form_free, grown_zero}}
use Rattle.dr_words.{specs.Packing.{accept_promise, accept_tag, accept_value, is_final}, proofs.Accepts.accept_within}
use Rattle.dr_words.{specs.Rewrites.is_accept_of, proofs.{Masks.has_next_members, Order.HasGrown_refl}}
use Rattle.dr_words.specs.declared.column.TheConstants.{LOGGED_COLUMN, RECEIVED_COLUMN, SUSPECTED_COLUMN, BEAT_COLUMN}

-- ---- the words

-- the logged word is the only one of the new view
own_fresh : (g : Group) (V : Views) (w : World) (m to : ℕ) → w.past.view m < to → Faithful g V w → (i v c : ℕ)
    → HasGrown (roster g) c (w.past.own i v c) (at₃ w.past.own m to LOGGED_COLUMN (length (w.past.log m)) i v c)
own_fresh g V w m to later f = own_grown g w.past.own m to LOGGED_COLUMN (length (w.past.log m))
    (subst (λ z. HasGrown (roster g) LOGGED_COLUMN z (length (w.past.log m)))
    (sym (f.fresh.unwritten m to LOGGED_COLUMN later)) (grown_zero (roster g) LOGGED_COLUMN (length (w.past.log m))))

pub enter_grew : (g : Group) (V : Views) (w : World) (m to members : ℕ) (history : List Entry)
    → w.past.view m < to → Faithful g V w → WordsGrew g w (enters w m to members history)
enter_grew g V w m to members history later f = record {
  own = own_fresh g V w m to later f;
  table = λ v j i c. HasGrown_refl (roster g) c (w.table v j i c);
  seen = λ a i c. at_both (λ k (b : ℕ) (s : ℕ → ℕ → ℕ). b ≡ w.past.view k → HasGrown (roster g) c
      (w.seen k i c) (s i c)) w.past.view w.seen m to
      (λ i c. 0) (λ k e. HasGrown_refl (roster g) c (w.seen k i c)) (λ e. absurd (omega (arith, later, e))) a;
}

-- ---- the members stay faithful

-- what is known of a member that goes on in a view of these members with a history: it is a later view, in which
-- it is, its history goes on, and each of its views before that one is closed
pub record EntersWell (g : Group) (V : Views) (w : World) (m to members : ℕ) (history : List Entry) : Type 0 where
  pub idle : w.pending m ≡ None
  pub later : w.past.view m < to
  pub next : V to ≡ members
  pub inside : has (V to) m ≡ true
  pub came : has (V (w.past.view m)) m ≡ true → to ≡ w.past.view m + 1
  pub back : (u : ℕ) → to ≡ u + 1 → has (V u) m ≡ true → w.past.view m ≡ u
  pub closed : (u : ℕ) → u < to → has (V u) m ≡ true → IsClosed g V u m (w.past.own m u)
  pub stayed : HaveStayed g V (w.past.view m) to
  pub goes_on : IsPrefixOf (w.past.history m) history
  pub behind : length (w.past.history m) < length (up_to_view history)
  pub few : length (messages_from m history) ≤ length (messages_of g.opening m)

pub enter_keeps : (g : Group) (V : Views) (w : World) (m to members : ℕ) (history : List Entry) → IsGroup g
    → EntersWell g V w m to members history → Faithful g V w → Faithful g V (enters w m to members history)
enter_keeps g V w m to members history is well f = record {
  beginning = f.beginning;
  views = record {
    own = at_both (λ k a b. a ≡ V b) w.members w.past.view m members to f.views.own (sym well.next);
    came = at_both (λ k (a : ℕ) b. has a k ≡ true → (u : ℕ) × (b ≡ u + 1) × (a ≡ V u)) w.came_from w.past.view m
        (w.members m) to f.views.came (λ e. (
          w.past.view m,
          well.came (ap (λ a. has a m) (sym (f.views.own m)) ∙ e),
          f.views.own m,
        ));
    back = at_both (λ k (a : ℕ) b. (u : ℕ) → b ≡ u + 1 → has (V u) k ≡ true → a ≡ V u) w.came_from
        w.past.view m (w.members m) to f.views.back (λ u next there. f.views.own m ∙ ap V (well.back u next there));
    present = at_case (λ k b. has g.opening.members k ≡ true → has (V b) k ≡ true) w.past.view m to
        (λ k d. f.views.present k) (λ l. well.inside);
    outside = at_case (λ k b. has (V b) k ≡ false → b ≡ 0) w.past.view m to (λ k d. f.views.outside k)
        (λ out. absurd (cc (out, well.inside)));
    within = f.views.within;
  };
  items = record {
    counted = f.items.counted;
    same = λ a s k. at_both
        (λ i (b : ℕ) (item : ℕ → ℕ → _). k < w.past.count i b s → item s k ≡ item_sent g w.past.sent s b k)
        w.past.view w.item m to (λ s k. Null) (λ i. f.items.same i s k)
        (λ l. absurd (omega (arith, l, f.fresh.empty m to s well.later))) a;
    window = f.items.window;
  };
  sent = record {
    all = f.sent.all;
    put = at_both (λ s b base. IsPut base (length (messages_of g.opening s)) (w.past.sent s b))
        w.past.view w.base m to _ f.sent.put nothing;
  };
  counts = record {
    recv = counted.recv;
    unfinished = λ a s l. at_both
        (λ i (mask b : ℕ). mask ≡ 0 → is_final (own i b (recv_column s)) ≡ false) w.suspects w.past.view m 0
        to (λ i. counted.unfinished i s l) (λ e. rw (blank (recv_column s) (omega arith)) refl) a;
    received = counted.received;
    few = f.counts.few;
  };
  suspicions = record {
    named = λ a n. at_both (λ i mask b. has mask n ≡ true
        → (has (V b) n ≡ true) ⊎ IsNewIn g.opening V b n) w.suspects w.past.view m 0 to
        (λ i. f.suspicions.named i n) (λ h. absurd (cc (h, has_zero n))) a;
    inside = at_both (λ i mask b. mask ≢ 0 → has (V b) i ≡ true) w.suspects w.past.view m 0 to
        f.suspicions.inside (λ d. absurd (d refl));
    trusted = at_case (λ i mask. has mask i ≡ false) w.suspects m 0 (λ i d. f.suspicions.trusted i) (has_zero m);
    told = at_both (λ i mask b. own i b SUSPECTED_COLUMN ≡ mask) w.suspects w.past.view m 0
        to suspected.told (blank SUSPECTED_COLUMN (omega arith));
    final = λ a s. at_both
        (λ i (mask b : ℕ). mask ≢ 0 → has (V b) s ≡ true → is_final (own i b (recv_column s)) ≡ true)
        w.suspects w.past.view m 0 to (λ i. suspected.final i s) (λ d. absurd (d refl)) a;
    none = at_both (λ i (mask promise : ℕ). mask ≡ 0 → promise ≡ 0) w.suspects w.promise m 0 0
        f.suspicions.none (λ e. refl);
    least = at_three (λ i (mask promise b : ℕ). mask ≢ 0 → promise ≡ least_of (without (V b) mask))
        w.suspects w.promise w.past.view m 0 0 to f.suspicions.least (λ d. absurd (d refl));
    accept = λ a c. at_both
        (λ i (promise b : ℕ). is_accept_of (roster g) (V b) c ≡ true → accept_promise (own i b c) ≡ promise)
        w.promise w.past.view m 0 to (λ i. suspected.accept i c)
        (λ e. rw (blank c (other_column c (accept_within (roster g) (V to) c e).0)) refl) a;
  };
  accepts = record {
    tagged = λ a c. at_both (λ i (tag b : ℕ). is_accept_of
        (roster g) (V b) c ≡ true → accept_tag (own i b c) ≡ tag) w.tag w.past.view m 0 to (λ i. accepted.tagged i c)
        (λ e. rw (blank c (other_column c (accept_within (roster g) (V to) c e).0)) refl) a;
    valued = λ a c. at_both (λ i (y : Value) (b : ℕ). is_accept_of (roster g) (V b) c ≡ true
        → accept_value (own i b c) ≡ part_of (roster g) y c)
        w.value w.past.view m no_value to (λ i. accepted.valued i c)
        (λ e. rw (blank c (other_column c (accept_within (roster g) (V to) c e).0)) (sym (no_part (roster g) c))) a;
    low = at_both (λ i (tag promise : ℕ). tag ≤ promise + 1) w.tag w.promise m 0 0 f.accepts.low (omega arith);
    waits = at_both (λ i (promise tag : ℕ). (y : Vote) → w.pending i ≡ Some y → IsWaiting g promise tag y) w.promise
        w.tag m 0 0 f.accepts.waits (λ y e. absurd (none-some y (sym well.idle ∙ e)));
  };
  words = record {
    own = at₃_case (λ i v k z. Tells g V new i v k z) w.past.own m to LOGGED_COLUMN (length (w.past.log m))
        (λ i v k. later i v k (w.past.own i v k) (f.words.own i v k))
        (tells_logged g V new m to (length (w.past.log m)) (le_refl (length (w.past.log m))));
    table = λ v j i k. later i v k (w.table v j i k) (f.words.table v j i k);
    seen = λ a i c. at_both (λ k (b : ℕ) (s : ℕ → ℕ → ℕ). Tells g V new i b c (s i c)) w.past.view w.seen m
        to (λ i c. 0) (λ k. later i (w.past.view k) c (w.seen k i c) (f.words.seen k i c))
        (tells_nothing g V new i to c) a;
  };
  logs = record {
    bounded = f.logs.bounded;
    front = at_case (λ i h. IsPrefixOf (w.past.log i) h) w.past.history m history (λ i d. f.logs.front i)
        (prefix-trans (w.past.log m) (w.past.history m) history (f.logs.front m) well.goes_on);
    safe = at_both (λ k b h. IsPresent g k → StandsOnLogs g V w.past.log h k b (w.past.durable k)) w.past.view
        w.past.history m to history f.logs.safe (λ l. let old = f.logs.safe m l in record {
          own = old.own;
          since = old.since;
          come = omega (arith, old.come, well.later);
          before = λ _. omega (
            arith,
            old.own,
            prefix_shorter (w.past.log m) (w.past.history m) (f.logs.front m),
            well.behind,
          );
          logged = old.logged;
          stayed = λ i h e. old.stayed i (well.stayed i h e) e;
        });
    small = f.logs.small;
  };
  delivered = record {
    held = λ a i. at_both (λ k (next b : ℕ). has (V b) i ≡ true → next ≤ own i b RECEIVED_COLUMN) w.next
        w.past.view m 0 to (λ k. delivered.held k i) (λ h. omega arith) a;
    none = at_both (λ k (next b : ℕ). has (V b) k ≡ false → next ≡ 0) w.next w.past.view m 0 to
        f.delivered.none (λ out. refl);
  };
  fresh = record {
    unwritten = at_case (λ k b. (v c : ℕ) → b < v → own k v c ≡ 0) w.past.view m to
        (λ k d v c l. at₃_member w.past.own m to LOGGED_COLUMN _ k v c d ∙ f.fresh.unwritten k v c l)
        (λ v c l. at₃_view w.past.own m to LOGGED_COLUMN _ m v c (omega (arith, l))
        ∙ f.fresh.unwritten m v c (omega (arith, l, well.later)));
    outside = at₃_case (λ i v c z. has (V v) i ≡ false → z ≢ 0 → IsLateBeat g i v c) w.past.own m to LOGGED_COLUMN
        (length (w.past.log m)) f.fresh.outside (λ out some. absurd (cc (out, well.inside)));
    empty = at_case (λ k b. (v s : ℕ) → b < v → w.past.count k v s ≡ 0) w.past.view m to
        (λ k d v s l. f.fresh.empty k v s l) (λ v s l. f.fresh.empty m v s (omega (arith, l, well.later)));
  };
  closed = at_case (λ k b. (v : ℕ) → v < b → has (V v) k ≡ true → IsClosed g V v k (own k v)) w.past.view m to
      (λ k d v l here. subst (IsClosed g V v k) (sym (row_member w.past.own m to _ k v d)) (f.closed k v l here))
      (λ v l here. subst (IsClosed g V v m)
      (sym (row_view w.past.own m to _ m v (earlier v to l))) (well.closed v l here));
  old = record {
    in_table = (old_later g w.past.view w.past.own own w.table w.seen (own_fresh g V w m to well.later f) f.old).in_table;
    in_seen = λ a i c. at_both
        (λ k (b : ℕ) (s : ℕ → ℕ → ℕ). i ≢ k → HasGrown (roster g) c (s i c) (w.table b k i c)) w.past.view
        w.seen m to (λ i c. 0) (λ k. f.old.in_seen k i c) (λ d. grown_zero (roster g) c (w.table to m i c)) a;
  };
  form = record {
    in_own = (form_word g w.past.own w.table w.seen m to LOGGED_COLUMN (length (w.past.log m))
        (form_free (roster g) LOGGED_COLUMN _ (inl (omega arith, omega arith))) f.form).in_own;
    in_table = f.form.in_table;
    in_seen = at_case (λ k (s : ℕ → ℕ → ℕ). (i c : ℕ) → IsInForm (roster g) c (s i c)) w.seen m
        (λ i c. 0) (λ k d. f.form.in_seen k) (λ i c. form_zero (roster g) c is.some_member);
  };
}
  where
    new : Past
    new = (enters w m to members history).past

    own : Numbers
    own = at₃ w.past.own m to LOGGED_COLUMN (length (w.past.log m))

    plain : IsPlain LOGGED_COLUMN
    plain = (omega arith, omega arith, omega arith)

    other_column : (c : ℕ) → recv_column (roster g) ≤ c → c ≢ 3
    other_column c l e = omega (arith, l, e)

    earlier : (v u : ℕ) → v < u → v ≢ u
    earlier v u l e = omega (arith, l, e)

    later : (i v c word : ℕ) → Tells g V w.past i v c word → Tells g V (enters w m to members history).past i v c word
    later i v c word = tells_later g V w.past (enters w m to members history).past i v c word
        (enter_past w m to members history well.later well.goes_on)

    -- no other word of the new view is written
    blank : (c : ℕ) → c ≢ 3 → at₃ w.past.own m to LOGGED_COLUMN (length (w.past.log m)) m to c ≡ 0
    blank c d = at₃_column w.past.own m to LOGGED_COLUMN (length (w.past.log m)) m
        to c d ∙ f.fresh.unwritten m to c well.later

    nothing : IsPut (length (messages_from m history)) (length (messages_of g.opening m)) (w.past.sent m to)
    nothing = subst (λ xs. IsPut (length (messages_from m history)) (length (messages_of g.opening m)) xs)
        (sym (no_members (w.past.sent m to) (f.sent.all m to ∙ f.fresh.empty m to m well.later))) (record {
          index = λ k l. absurd (omega (arith, l));
          left = omega (arith, well.few);
          nulls = λ l. absurd (omega (arith, l));
        })

    counted : AreCounts g V w.past.view w.suspects
        (at₃ w.past.own m to LOGGED_COLUMN (length (w.past.log m))) w.past.count
    counted = counts_word g V w.past.view w.suspects w.past.own w.past.count m to
        LOGGED_COLUMN (length (w.past.log m)) plain f.counts

    suspected : AreSuspicions g V w.past.view w.suspects w.promise
        (at₃ w.past.own m to LOGGED_COLUMN (length (w.past.log m)))
    suspected = suspicions_word g V w.past.view w.suspects w.promise w.past.own m to
        LOGGED_COLUMN (length (w.past.log m)) plain f.suspicions

    accepted : AreAccepts g V w.past.view w.promise w.tag w.value w.pending
        (at₃ w.past.own m to LOGGED_COLUMN (length (w.past.log m)))
    accepted = accepts_word g V w.past.view w.promise w.tag w.value w.pending w.past.own m
        to LOGGED_COLUMN (length (w.past.log m)) plain f.accepts

    delivered : AreDelivered V w.past.view w.next (at₃ w.past.own m to LOGGED_COLUMN (length (w.past.log m)))
    delivered = delivered_word g V w.past.view w.next w.past.own m to LOGGED_COLUMN
        (length (w.past.log m)) plain f.delivered

-- ---- it ends its view

-- the view that it leaves is closed
left_closed : (g : Group) (V : Views) (w : World) (m : ℕ) → w.suspects m ≢ 0 → Faithful g V w
    → IsClosed g V (w.past.view m) m (w.past.own m (w.past.view m))
left_closed g V w m wedged f = record {
  named = λ j h. f.suspicions.named m j (sym (ap (λ mask. has mask j) told) ∙ h);
  trusted = ap (λ mask. has mask m) told ∙ f.suspicions.trusted m;
  wedged = λ e. wedged (sym told ∙ e);
  final = λ s. f.suspicions.final m s wedged;
  promise = λ c a. f.suspicions.accept m c a ∙ f.suspicions.least m wedged
      ∙ ap (λ mask. least_of (without (V (w.past.view m)) mask)) (sym told);
}
  where
    told : w.past.own m (w.past.view m) SUSPECTED_COLUMN ≡ w.suspects m
    told = f.suspicions.told m

-- and it stays, so it goes on well
finish_enters : (g : Group) (V : Views) (w : World) (m : ℕ) (x : Value) → IsGroup g → MayChoose g w m
    → has x.leavers m ≡ false → GoesOnWell g V w m x → Faithful g V w
    → EntersWell g V w m (w.past.view m + 1) (next_members (w.members m) x.leavers) (finished_history g w m x)
finish_enters g V w m x is may stays well f = record {
  idle = may.idle;
  later = omega arith;
  next = well.next;
  inside = ap (λ k. has k m) well.next ∙ has_next_members (w.members m) x.leavers m small
      ∙ stays_in (has (w.members m) m) (has x.leavers m) may.inside stays;
  came = λ e. refl;
  back = λ u next there. omega (arith, next);
  closed = λ u l. closed u (below_or_last u (w.past.view m) l);
  stayed = well.stayed;
  goes_on = history_goes_on g w m x;
  behind = history_behind g w m x;
  few = well.few;
}
  where
    small : m < 16
    small = le_trans (f.views.within (w.past.view m) m (in_view g V w m f may.inside)) is.most_members

    closed : (u : ℕ) → (u < w.past.view m) ⊎ (u ≡ w.past.view m) → has (V u) m ≡ true
        → IsClosed g V u m (w.past.own m u)
    closed u (inl less) here = f.closed m u less here
    closed u (inr same) here = subst (λ v. IsClosed g V v m (w.past.own m v)) (sym same)
        (left_closed g V w m well.wedged f)

pub finish_grew : (g : Group) (V : Views) (w : World) (m : ℕ) (x : Value) → Faithful g V w
    → WordsGrew g w (finishes_by g w m x)
finish_grew g V w m x f = enter_grew g V w m (w.past.view m + 1) (next_members (w.members m) x.leavers)
    (finished_history g w m x) (omega arith) f

pub finish_keeps : (g : Group) (V : Views) (w : World) (m : ℕ) (x : Value) → IsGroup g → MayChoose g w m
    → has x.leavers m ≡ false → GoesOnWell g V w m x → Faithful g V w → Faithful g V (finishes_by g w m x)
finish_keeps g V w m x is may stays well f =
    enter_keeps g V w m (w.past.view m + 1) (next_members (w.members m) x.leavers)
    (finished_history g w m x) is (finish_enters g V w m x is may stays well f) f

-- ---- it joins

pub join_keeps : (g : Group) (V : Views) (w : World) (m v members : ℕ) (letter : List Entry) → IsGroup g
    → w.pending m ≡ None → JoinsWell g V w m v members letter → Faithful g V w
    → Faithful g V (enters w m v members letter)
join_keeps g V w m v members letter is idle well f = enter_keeps g V w m v members letter is (record {
  idle = idle;
  later = well.later;
  next = well.next;
  inside = well.inside;
  came = λ e. absurd (cc (well.first (w.past.view m) well.later, e));
  back = λ u next there. absurd (cc (well.first u (omega (arith, next)), there));
  closed = λ u l here. absurd (cc (well.first u l, here));
  stayed = well.stayed;
  goes_on = well.begins;
  behind = well.behind;
  few = well.few;
}) f

-- an act's stamp and the end of the view may change places
stamps_apart : (own : ℕ → ℕ → ℕ → ℕ) (m v x y : ℕ) → at₃ (at₃ own m v BEAT_COLUMN x) m (v + 1) LOGGED_COLUMN y
    ≡ at₃ (at₃ own m (v + 1) LOGGED_COLUMN y) m v BEAT_COLUMN x
stamps_apart own m v x y = fun_ext λ i. fun_ext λ u. fun_ext λ c. grind arith

pub stamped_first : (g : Group) (w : World) (m : ℕ) (x : Value)
    → finishes_by g (stamped w m) m x ≡ stamped_in (finishes_by g w m x) m (w.past.view m)
stamped_first g w m x =
    let one = stamps_apart w.past.own m (w.past.view m) (one_more 64 (w.past.acts m)) (length (w.past.log m)) in
    λ z. record (stamped_in (finishes_by g w m x) m (w.past.view m)) {
      past = record (stamped_in (finishes_by g w m x) m (w.past.view m)).past { own = one z };
    }
