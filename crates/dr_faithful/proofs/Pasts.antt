-- What only grows has grown, and what is told of it stays told.
use Rattle.std.proofs.Common.{List, arith, inl, le_refl, le_trans, length, map, refl, slice_index_or, subst, sym, take, ap, ℕ, ◌<◌, ◌∙◌, ◌≡◌, ◌≤◌, true, length-append, ◌++◌}
use Rattle.std.proofs.lemmas.List.{get_or_append_left}
use Rattle.dr_entry.specs.declared.{end.SentItem.{SentItem, TheVariants.Null}, entry.Entry.Entry}
use Rattle.dr_history.specs.{History.{IsPrefixOf, Sent}, Members.{members_of, has}, Order.messages_from}
use Rattle.dr_history.{specs.Places.front_of, proofs.{Fronts.fronts_rise, Keeping.prefix_shorter}}
use Rattle.dr_history.proofs.{Lists.durable_front, NumberedLemmas.messages_from-append}
use Rattle.dr_machine.specs.{Group.{Group, roster}, Run.PastGrew, World.{Past, Table, World}}
use Rattle.dr_words.specs.{Columns.{head_column, recv_column}, Packing.recv_count}
use Rattle.dr_words.specs.declared.column.TheConstants.{BEAT_COLUMN, LOGGED_COLUMN, DONE_COLUMN, RECEIVED_COLUMN, SUSPECTED_COLUMN}
use Rattle.dr_faithful.{specs.Faithful.Numbers, proofs.Pieces.later}
use Rattle.dr_faithful.specs.Tells.{HasAll, Tells, TellsPiece, Views, WordsTell, item_named, item_sent, part_column}

-- ---- prefixes

-- the items that were put stay
pub item_kept : (g : Group) (old new : Sent) (s v k : ℕ) → IsPrefixOf (old s v) (new s v) → k < length (old s v)
    → item_sent g new s v k ≡ item_sent g old s v k
item_kept g old new s v k p l = ap (λ (xs : List SentItem). item_named g s (slice_index_or xs k Null)) (sym p.1)
    ∙ ap (item_named g s) (get_or_append_left (old s v) p.0 Null k l)

-- ---- what grows

-- a longer history has no fewer messages
pub has_all_more : (g : Group) (mask : ℕ) (xs ys : List Entry) → IsPrefixOf xs ys → HasAll g mask xs
    → HasAll g mask ys
has_all_more g mask xs ys p all s member =
    let e : length (messages_from s xs ++ messages_from s p.0) ≡ length (messages_from s ys) =
    ap length (sym (messages_from-append s xs p.0) ∙ ap (messages_from s) p.1) in
    omega (arith, all s member, length-append (messages_from s xs) (messages_from s p.0), e)

-- what a word tells stays true
pub tells_later : (g : Group) (V : Views) (old new : Past) (i v c word : ℕ) → PastGrew old new
    → Tells g V old i v c word → Tells g V new i v c word
tells_later g V old new i v c word grew t = record {
  beat = λ e. le_trans (t.beat e) (grew.acts i);
  received = λ e. le_trans (t.received e)
      (fronts_rise (old.count i v) (new.count i v) (members_of (V v)) (grew.count i v));
  logged = λ e. le_trans (t.logged e) (prefix_shorter (old.log i) (new.log i) (grew.log i));
  done = λ e. (
    (t.done e).0,
    λ one. has_all_more g (V v) (take (old.durable i) (old.history i)) (take (new.durable i) (new.history i))
        (durable_front (old.durable i) (new.durable i) (old.history i) (new.history i) (grew.durable i)
        (grew.history i)) ((t.done e).1 one),
  );
  recv = λ s l e. le_trans (t.recv s l e) (grew.count i v s);
  ring = λ slot part l p e. later g (length (old.sent i v)) (length (new.sent i v)) (item_sent g old.sent i v)
      (item_sent g new.sent i v) slot part word (prefix_shorter (old.sent i v) (new.sent i v) (grew.sent i v))
      (λ k n. item_kept g old.sent new.sent i v k (grew.sent i v) n) (t.ring slot part l p e);
}

-- the same of all words of a world, where they are as before
pub words_later : (g : Group) (V : Views) (w u : World) → PastGrew w.past u.past → u.past.own ≡ w.past.own
    → u.past.view ≡ w.past.view → u.table ≡ w.table → u.seen ≡ w.seen → WordsTell g V w → WordsTell g V u
words_later g V w u grew own view table seen f = record {
  own = λ i v c. tells_later g V w.past u.past i v c (u.past.own i v c) grew
      (subst (λ (o : Numbers). Tells g V w.past i v c (o i v c)) (sym own) (f.own i v c));
  table = λ v j i c. tells_later g V w.past u.past i v c (u.table v j i c) grew
      (subst (λ (t : Table). Tells g V w.past i v c (t v j i c)) (sym table) (f.table v j i c));
  seen = λ m i c. tells_later g V w.past u.past i (u.past.view m) c (u.seen m i c) grew
      (subst (λ (t : Numbers). Tells g V w.past i (u.past.view m) c (t m i c)) (sym seen)
      (subst (λ (h : ℕ → ℕ). Tells g V w.past i (h m) c (w.seen m i c)) (sym view) (f.seen m i c)));
}

-- ---- words of one column

-- a word 0 tells nothing
pub tells_nothing : (g : Group) (V : Views) (past : Past) (i v c : ℕ) → Tells g V past i v c 0
tells_nothing g V past i v c = record {
  beat = λ e. omega arith;
  received = λ e. omega arith;
  logged = λ e. omega arith;
  done = λ e. (omega arith, λ one. absurd (omega (arith, one)));
  recv = λ s l e. omega arith;
  ring = λ slot part l p e. inl refl;
}

-- a beat word tells of acts
pub tells_beat : (g : Group) (V : Views) (past : Past) (i v word : ℕ) → word ≤ past.acts i
    → Tells g V past i v BEAT_COLUMN word
tells_beat g V past i v word l = record {
  beat = λ e. l;
  received = λ e. absurd (omega (arith, e));
  logged = λ e. absurd (omega (arith, e));
  done = λ e. absurd (omega (arith, e));
  recv = λ s l e. absurd (omega (arith, e));
  ring = λ slot part l p e. absurd (omega (arith, e));
}

-- a suspected word tells nothing of that
pub tells_suspected : (g : Group) (V : Views) (past : Past) (i v word : ℕ) → Tells g V past i v SUSPECTED_COLUMN word
tells_suspected g V past i v word = record {
  beat = λ e. absurd (omega (arith, e));
  received = λ e. absurd (omega (arith, e));
  logged = λ e. absurd (omega (arith, e));
  done = λ e. absurd (omega (arith, e));
  recv = λ s l e. absurd (omega (arith, e));
  ring = λ slot part l p e. absurd (omega (arith, e));
}

-- and neither does an accept word
pub tells_accept : (g : Group) (V : Views) (past : Past) (i v c word : ℕ)
    → (recv_column (roster g) ≤ c) × (c < head_column (roster g) 0) → Tells g V past i v c word
tells_accept g V past i v c word between = record {
  beat = λ e. absurd (omega (arith, e, between));
  received = λ e. absurd (omega (arith, e, between));
  logged = λ e. absurd (omega (arith, e, between));
  done = λ e. absurd (omega (arith, e, between));
  recv = λ s l e. absurd (omega (arith, l, e, between));
  ring = λ slot part l p e. absurd (omega (arith, e, between));
}

-- a received word tells of the front
pub tells_received : (g : Group) (V : Views) (past : Past) (i v word : ℕ) → word
    ≤ front_of (map (past.count i v) (members_of (V v))) → Tells g V past i v RECEIVED_COLUMN word
tells_received g V past i v word l = record {
  beat = λ e. absurd (omega (arith, e));
  received = λ e. l;
  logged = λ e. absurd (omega (arith, e));
  done = λ e. absurd (omega (arith, e));
  recv = λ s l e. absurd (omega (arith, e));
  ring = λ slot part l p e. absurd (omega (arith, e));
}

-- a logged word tells of the log
pub tells_logged : (g : Group) (V : Views) (past : Past) (i v word : ℕ) → word ≤ length (past.log i)
    → Tells g V past i v LOGGED_COLUMN word
tells_logged g V past i v word l = record {
  beat = λ e. absurd (omega (arith, e));
  received = λ e. absurd (omega (arith, e));
  logged = λ e. l;
  done = λ e. absurd (omega (arith, e));
  recv = λ s l e. absurd (omega (arith, e));
  ring = λ slot part l p e. absurd (omega (arith, e));
}

-- a done word tells that all is there, durably
pub tells_done : (g : Group) (V : Views) (past : Past) (i v : ℕ)
    → HasAll g (V v) (take (past.durable i) (past.history i)) → Tells g V past i v DONE_COLUMN 1
tells_done g V past i v all = record {
  beat = λ e. absurd (omega (arith, e));
  received = λ e. absurd (omega (arith, e));
  logged = λ e. absurd (omega (arith, e));
  done = λ e. (le_refl 1, λ one. all);
  recv = λ s l e. absurd (omega (arith, e));
  ring = λ slot part l p e. absurd (omega (arith, e));
}

-- a recv word tells of the count of its sender
pub tells_recv : (g : Group) (V : Views) (past : Past) (i v s word : ℕ) → s < roster g
    → recv_count word ≤ past.count i v s → Tells g V past i v (recv_column s) word
tells_recv g V past i v s word within l = record {
  beat = λ e. absurd (omega (arith, e));
  received = λ e. absurd (omega (arith, e));
  logged = λ e. absurd (omega (arith, e));
  done = λ e. absurd (omega (arith, e));
  recv = λ t m e. let same : s ≡ t = omega (arith, e) in
      subst (λ (k : ℕ). recv_count word ≤ past.count i v k) same l;
  ring = λ slot part l p e. absurd (omega (arith, e, within));
}

-- a word of a ring tells of pieces
pub tells_ring : (g : Group) (V : Views) (past : Past) (i v c word : ℕ) → head_column (roster g) 0 ≤ c
    → ((slot part : ℕ) → slot < g.window → part < 17 → c ≡ part_column g slot part
    → TellsPiece g (length (past.sent i v)) (item_sent g past.sent i v) slot part word) → Tells g V past i v c word
tells_ring g V past i v c word high piece = record {
  beat = λ e. absurd (omega (arith, e, high));
  received = λ e. absurd (omega (arith, e, high));
  logged = λ e. absurd (omega (arith, e, high));
  done = λ e. absurd (omega (arith, e, high));
  recv = λ s l e. absurd (omega (arith, e, high, l));
  ring = piece;
}

pub tells_by : (g : Group) (V W : Views) (past : Past) (i v c word : ℕ) → V v ≡ W v
    → Tells g W past i v c word → Tells g V past i v c word
tells_by g V W past i v c word same t = record {
  beat = t.beat;
  received = λ e. subst (λ mask. word ≤ front_of (map (past.count i v) (members_of mask))) (sym same) (t.received e);
  logged = t.logged;
  done = λ e. let d = t.done e in
      (d.0, λ one s member. d.1 one s (subst (λ mask. has mask s ≡ true) same member));
  recv = t.recv;
  ring = t.ring;
}
