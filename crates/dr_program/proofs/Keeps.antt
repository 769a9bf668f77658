-- Each act of a replica keeps its form, and its words grow.
use Rattle.std.proofs.Common.{◌<◌, arith, ◌≡◌, ℕ, ◌^◌, ◌≤◌, List, length, Option, false, ◌≢◌, ◌+◌, true, sym, ap, subst, ◌∙◌, ◌⊎◌, inl, inr, [], refl, Some, ◌++◌, not, nat_lt, length-append, ◌==◌, ◌*◌, get_or, set, map, slice_index, is_some, ◌&&◌, unwrap_or, suc, zero, Bool, le_trans}
use Rattle.std.proofs.lemmas.Bool.{cases_eq, and_parts, ltb-true, eqb-false, not-true, cases_lt, Decides.nat_tests}
use Rattle.std.proofs.lemmas.List.{length-set, get_or-set_same, get_or-set_other}
use Rattle.dr_entry.{specs.{declared.end.End.End, declared.record.Vote.Vote}, proofs.ListFacts.counts_bounded}
use Rattle.dr_entry.specs.declared.{end.SentItem.SentItem, entry.{Entry.Entry, Item.{Item, TheVariants.Null}}}
use Rattle.dr_history.{specs.{History.messages_in, Members.has, Places.front_of}, proofs.Fronts.front_rises}
use Rattle.dr_history.proofs.{Indices.messages_within, Ranks.some_member}
use Rattle.dr_rows.specs.{Along.{Pushes, pushed_along, with_push}, Words.{own, with_own, seen, Words, changed}}
use Rattle.dr_rows.proofs.{Along.{push_is, push_is_none}, Grids.{own_left, own_seen, with_word-column}}
use Rattle.dr_rows.proofs.WordsLemmas.{IsWords-pushed}
use Rattle.dr_rows.specs.Words as rows
use Rattle.dr_words.{specs.{Columns.{recv_column, columns_of}, Grown.{Grown, HasGrown}}, proofs.Accepts.accept_within}
use Rattle.dr_words.specs.{Form.IsInForm, Rewrites.is_accept_of}
use Rattle.dr_words.specs.{Masks.IsInRoster, Packing.{accept_promise, accept_tag, accept_value, ring_tag, recv_word}}
use Rattle.dr_words.specs.declared.column.TheConstants.{BEAT_COLUMN, LOGGED_COLUMN, DONE_COLUMN, SUSPECTED_COLUMN, RECEIVED_COLUMN}
use Rattle.dr_words.proofs.{Forms.{form_free, grown_free, form_done, grown_done}, Order.{Grown_trans, Grown_refl}}
use Rattle.dr_words.proofs.Gains.{shown, table_shown, shown_left, shown_recv, shown_received, shown_grown}
use Rattle.dr_words.proofs.Tables.{IsTable, table_set, own_written, set_grown, table_looked, looked_grown}
use Rattle.dr_ring.{specs.Slots.{slot_column, IsFree, is_free}, proofs.Freedom.IsFree-from_test}
use Rattle.dr_machine.specs.{Effects.{one_more, entries_of}, Sending.IsPut, declared.event.Act.Act}
use Rattle.dr_machine.proofs.Worlds.{one_entry}
use Rattle.dr_machine.specs.declared.event.Act.TheVariants as acts
use Rattle.dr_program.specs.{Acts.{may, done, taken}, Form.HasForm}
use Rattle.dr_program.specs.Replica.{Replica, me, is_inside, published, count, put, received, suspected, decided, acted, beaten, ended, least_seen, reported, may_append, appended, is_wedged, sender_of_place, item_of_place, may_deliver, delivered, marked, is_other, looked, pushed, greatest, members_in_view, gained, may_receive, ready_item, next_index, may_send, accepted}
use Rattle.dr_program.{specs.Steps.NoWordFell, proofs.{Accepting.{accepted_form, accepted_grown}, Beside.beside_form}}
use Rattle.dr_program.proofs.{Least.{grown_received, unstamped}, Replicas.{greatest_most, MayLook, looked_on}}

-- the rows of a replica in form
pub table_of : (r : Replica) → HasForm r → IsTable r.roster r.window r.rows
table_of r f = record { rows = f.rows; members = f.members; columns = f.columns; words = f.words }

-- its own number is one of the roster, and so is that of each member of its view
pub me_within : (r : Replica) → HasForm r → me r < r.roster
me_within r f = omega (arith, f.rows.present, f.members)

rest_keeps : (r : Replica) (next logged durable turns acts : ℕ) (history : List Entry) (end : Option End) → HasForm r
    → r.logged ≤ logged → logged ≤ length history → length history ≤ r.room → r.acts ≤ acts
    → acts < 2 ^ 64 → (is_inside r ≡ false → logged ≡ length history) → HasForm (record r {
      next = next;
      history = history;
      logged = logged;
      durable = durable;
      turns = turns;
      acts = acts;
      end = end;
    })
rest_keeps r next logged durable turns acts history end f more within room rises small all =
    beside_form r next logged durable turns acts history end r.committed r.pending r.votes f more within room
    rises small f.waits f.votes f.decided (λ e. ((f.outside e).none, (f.outside e).idle, all e))

-- words that leave what the form says of the own ones
pub record KeepsWords (r : Replica) (words sent : List (List ℕ)) : Type 0 where
  pub table : IsTable r.roster r.window (record r.rows { words = words; sent = sent })
  pub kept : (c : ℕ) → c ≢ BEAT_COLUMN → c ≢ LOGGED_COLUMN → c ≢ DONE_COLUMN
      → own (record r.rows { words = words; sent = sent }) c ≡ own r.rows c
  pub beat : own (record r.rows { words = words; sent = sent }) BEAT_COLUMN ≤ r.acts
  pub published : own (record r.rows { words = words; sent = sent }) LOGGED_COLUMN ≤ r.logged

words_keep : (r : Replica) (words sent : List (List ℕ)) → HasForm r → KeepsWords r words sent
    → HasForm (record r { rows = record r.rows { words = words; sent = sent } })
words_keep r words sent f w = record {
  rows = w.table.rows;
  members = w.table.members;
  columns = w.table.columns;
  words = w.table.words;
  some_slot = f.some_slot;
  most_slots = f.most_slots;
  number = f.number;
  trusted = f.trusted;
  named = f.named;
  frozen = f.frozen;
  bank = f.bank;
  left = f.left;
  roster = f.roster;
  late = f.late;
  outside = λ e. let o = f.outside e in
      record { late = o.late; first = o.first; trusting = o.trusting; none = o.none; idle = o.idle; all = o.all };
  decided = f.decided;
  given = f.given;
  counts = f.counts;
  bounded = f.bounded;
  few = f.few;
  items = f.items;
  suspected = w.kept SUSPECTED_COLUMN (λ e. omega arith) (λ e. omega arith) (λ e. omega arith) ∙ f.suspected;
  recv = λ s lt. w.kept (recv_column s) (λ e. omega arith) (λ e. omega arith) (λ e. omega arith) ∙ f.recv s lt;
  accept = λ c is. ap accept_promise (same c is) ∙ f.accept c is;
  tagged = λ c is. ap accept_tag (same c is) ∙ f.tagged c is;
  valued = λ c is. ap accept_value (same c is) ∙ f.valued c is;
  low = f.low;
  waits = f.waits;
  votes = f.votes;
  received = w.kept RECEIVED_COLUMN (λ e. omega arith) (λ e. omega arith) (λ e. omega arith) ∙ f.received;
  beat = w.beat;
  acts = f.acts;
  published = w.published;
  ring = λ k part lt. subst (λ (x : ℕ). ring_tag x ≤ count r (me r))
      (sym (w.kept (slot_column r.roster r.window k + part) (λ e. omega arith) (λ e. omega arith)
      (λ e. omega arith))) (f.ring k part lt);
  messages = f.messages;
  short = f.short;
  bytes = f.bytes;
  put = f.put;
  order = f.order;
  logged = f.logged;
  room = f.room;
  small = f.small;
}
  where
    same : (c : ℕ) → is_accept_of r.roster r.members c ≡ true
        → own (record r.rows { words = words; sent = sent }) c ≡ own r.rows c
    same c is = let high = accept_within r.roster r.members c is in
        w.kept c (λ e. omega (arith, high)) (λ e. omega (arith, high)) (λ e. omega (arith, high))

-- an own word of the beat, the logged and the done column
own_keeps : (r : Replica) (c v : ℕ) → HasForm r → (c ≡ BEAT_COLUMN)
    ⊎ ((c ≡ LOGGED_COLUMN) ⊎ (c ≡ DONE_COLUMN)) → IsInForm r.roster c v → (c ≡ BEAT_COLUMN → v ≤ r.acts)
    → (c ≡ LOGGED_COLUMN → v ≤ r.logged) → HasForm (record r { rows = with_own r.rows c v })
own_keeps r c v f which is beat logged = words_keep r (with_own r.rows c v).words r.rows.sent f record {
  table = table_set r.roster r.window r.rows c v (table_of r f) low is;
  kept = λ d p q s. own_left r.rows c v d (λ e. other d p q s e which);
  beat = elim (cases_eq c BEAT_COLUMN) [
    | inl same ↦ let new = own_written r.roster r.window r.rows c v (table_of r f) low in
        subst (λ (x : ℕ). own (with_own r.rows c v) x ≤ r.acts) same (omega (arith, new, beat same))
    | inr apart ↦ omega (arith, own_left r.rows c v BEAT_COLUMN (λ e. apart (sym e)), f.beat)
  ];
  published = elim (cases_eq c LOGGED_COLUMN) [
    | inl same ↦ let new = own_written r.roster r.window r.rows c v (table_of r f) low in
        subst (λ (x : ℕ). own (with_own r.rows c v) x ≤ r.logged) same (omega (arith, new, logged same))
    | inr apart ↦ omega (arith, own_left r.rows c v LOGGED_COLUMN (λ e. apart (sym e)), f.published)
  ];
}
  where
    low : c < columns_of r.roster r.window
    low = elim which [ inl e ↦ omega arith | inr (inl e) ↦ omega arith | inr (inr e) ↦ omega arith ]

    other : (d : ℕ) → d ≢ BEAT_COLUMN → d ≢ LOGGED_COLUMN → d ≢ DONE_COLUMN → d ≡ c
        → (c ≡ BEAT_COLUMN) ⊎ ((c ≡ LOGGED_COLUMN) ⊎ (c ≡ DONE_COLUMN)) → ⊥
    other d p q s e (inl b) = p (e ∙ b)
    other d p q s e (inr (inl l)) = q (e ∙ l)
    other d p q s e (inr (inr m)) = s (e ∙ m)

-- it counts, and its own beat word says so
pub acted_keeps : (r : Replica) → HasForm r → HasForm (acted r)
acted_keeps r f =
    let acts : ℕ = one_more 64 r.acts in
    let counted = rest_keeps r r.next r.logged r.durable r.turns acts r.history r.end f
    (omega arith) f.logged f.room (omega (arith, f.acts)) (omega arith) (λ e. (f.outside e).all) in
    own_keeps (record r { acts = acts }) BEAT_COLUMN acts counted (inl refl) (form_free r.roster BEAT_COLUMN acts
    (inl (omega arith, omega arith))) (λ e. omega arith) (λ e. absurd (omega arith))

pub acted_grown : (r : Replica) → HasForm r
    → Grown r.roster r.rows.words (acted r).rows.words r.rows.frozen (acted r).rows.frozen
acted_grown r f =
    let acts : ℕ = one_more 64 r.acts in
    set_grown r.roster r.window r.rows BEAT_COLUMN acts (table_of r f) (omega arith) (grown_free r.roster BEAT_COLUMN
    (own r.rows BEAT_COLUMN) acts (inl (omega arith, omega arith)) (omega (arith, f.beat, f.acts)))

pub beaten_keeps : (r : Replica) → HasForm r → HasForm (acted (beaten r))
beaten_keeps r f = acted_keeps (beaten r)
    (rest_keeps r r.next r.logged r.durable (one_more 32 r.turns) r.acts r.history r.end f
    (omega arith) f.logged f.room (omega arith) f.acts (λ e. (f.outside e).all))

pub ended_keeps : (r : Replica) (end : End) → HasForm r → HasForm (acted (ended r end))
ended_keeps r end f = acted_keeps (ended r end) (rest_keeps r r.next r.logged r.durable r.turns r.acts r.history
    (Some end) f (omega arith) f.logged f.room (omega arith) f.acts (λ e. (f.outside e).all))

pub reported_keeps : (r : Replica) → HasForm r → HasForm (acted (reported r))
reported_keeps r f = acted_keeps (reported r)
    (rest_keeps r r.next r.logged (least_seen r LOGGED_COLUMN) r.turns r.acts r.history r.end f
    (omega arith) f.logged f.room (omega arith) f.acts (λ e. (f.outside e).all))

-- an append keeps a replica in form
pub appended_keeps : (r : Replica) → HasForm r → may_append r ≡ true → HasForm (appended r)
appended_keeps r f may = rest_keeps r r.next (r.logged + 1) r.durable r.turns r.acts r.history r.end f
    (omega arith) (grind (arith, nat_tests, may)) f.room (omega arith) f.acts
    (λ e. let all = (f.outside e).all in absurd (grind (arith, nat_tests, may, all)))

-- a delivery keeps a replica in form
pub delivered_keeps : (r : Replica) → HasForm r → is_inside r ≡ true → may_deliver r ≡ true
    → HasForm (acted (delivered r))
delivered_keeps r f inside may =
    let new : List Entry = entries_of r.history (sender_of_place r r.next) (item_of_place r r.next) in
    let one = one_entry r.history (sender_of_place r r.next) (item_of_place r r.next) in
    let more = length-append r.history new in
    let room : length r.history < r.room = ltb-true (length r.history) r.room
    (and_parts (nat_lt r.next (least_seen r RECEIVED_COLUMN)) (nat_lt (length r.history) r.room)
    (and_parts (not (is_wedged r)) _ may).1).1 in
    acted_keeps (delivered r) (rest_keeps r (r.next + 1) r.logged r.durable r.turns r.acts
    (r.history ++ new) r.end f (omega arith) (omega (arith, more, f.logged))
    (omega (arith, more, one, room)) (omega arith) f.acts (λ e. absurd (cc (inside, e))))

-- publishing keeps a replica in form
pub published_form : (r : Replica) → HasForm r → HasForm (published r)
published_form r f = own_keeps r LOGGED_COLUMN r.logged f (inr (inl refl)) (form_free r.roster LOGGED_COLUMN r.logged
    (inl (omega arith, omega arith))) (λ e. absurd (omega arith)) (λ e. omega arith)

-- the act of publishing keeps a replica in form
pub published_keeps : (r : Replica) → HasForm r → HasForm (acted (published r))
published_keeps r f = acted_keeps (published r) (published_form r f)

-- no word falls by the act of publishing
pub published_grown : (r : Replica) → HasForm r
    → Grown r.roster r.rows.words (acted (published r)).rows.words r.rows.frozen (acted (published r)).rows.frozen
published_grown r f = Grown_trans r.roster r.rows.words (published r).rows.words
    (acted (published r)).rows.words r.rows.frozen r.rows.frozen r.rows.frozen
    (set_grown r.roster r.window r.rows LOGGED_COLUMN r.logged (table_of r f) (omega arith)
    (grown_free r.roster LOGGED_COLUMN (own r.rows LOGGED_COLUMN) r.logged
    (inl (omega arith, omega arith)) f.published)) (acted_grown (published r) (published_form r f))

-- marking keeps a replica in form
pub marked_form : (r : Replica) → HasForm r → HasForm (marked r)
marked_form r f = own_keeps r DONE_COLUMN 1 f (inr (inr refl)) (form_done r.roster 1 (omega arith))
    (λ e. absurd (omega arith)) (λ e. absurd (omega arith))

-- the act of marking keeps a replica in form
pub marked_keeps : (r : Replica) → HasForm r → HasForm (acted (marked r))
marked_keeps r f = acted_keeps (marked r) (marked_form r f)

-- no word falls by the act of marking
pub marked_grown : (r : Replica) → HasForm r
    → Grown r.roster r.rows.words (acted (marked r)).rows.words r.rows.frozen (acted (marked r)).rows.frozen
marked_grown r f = Grown_trans r.roster r.rows.words (marked r).rows.words
    (acted (marked r)).rows.words r.rows.frozen r.rows.frozen r.rows.frozen
    (set_grown r.roster r.window r.rows DONE_COLUMN 1 (table_of r f) (omega arith)
    (grown_done r.roster (own r.rows DONE_COLUMN) ((f.words (me r) DONE_COLUMN).done refl)))
    (acted_grown (marked r) (marked_form r f))

-- another member of the view is one of the roster, and not itself
other_apart : (r : Replica) (i : ℕ) → HasForm r → is_other r i ≡ true
    → (has r.members i ≡ true) × (i < r.roster) × (i ≢ me r)
other_apart r i f other =
    let both = and_parts (has r.members i) (not (i == me r)) other in
    (both.0, f.roster i both.0, λ e. eqb-false i (me r) (not-true (i == me r) both.1) e)

-- a look at another row's word that is in form keeps a replica in form
pub looked_keeps : (r : Replica) (i c v : ℕ) → HasForm r → is_other r i ≡ true → c
    < columns_of r.roster r.window → IsInForm r.roster c v → HasForm (looked r i c v)
looked_keeps r i c v f other column is =
    let apart = other_apart r i f other in
    words_keep r (rows.looked r.rows i c v).words r.rows.sent f record {
      table = table_looked r.roster r.window r.rows i c v (table_of r f) apart.1 column is;
      kept = λ d p q s. own_seen r.rows i c v d apart.2;
      beat = omega (arith, own_seen r.rows i c v BEAT_COLUMN apart.2, f.beat);
      published = omega (arith, own_seen r.rows i c v LOGGED_COLUMN apart.2, f.published);
    }

-- no word falls by a look at a word that has grown since it was seen
pub looked_rises : (r : Replica) (i c v : ℕ) → HasForm r → is_other r i ≡ true
    → has r.suspects i ≡ false → c < columns_of r.roster r.window → HasGrown r.roster c (seen r.rows i c) v
    → Grown r.roster r.rows.words (looked r i c v).rows.words r.rows.frozen (looked r i c v).rows.frozen
looked_rises r i c v f other trusted column grown = looked_grown r.roster r.window r.rows i c v
    (table_of r f) (other_apart r i f other).1 column (f.frozen i ∙ trusted) grown

-- a push to a member of the roster keeps a replica in form
pub pushed_keeps : (r : Replica) (j c : ℕ) → HasForm r → j < r.roster → HasForm (pushed r j c)
pushed_keeps r j c f within = words_keep r r.rows.words (rows.pushed r.rows j c).sent f record {
  table = record {
    rows = IsWords-pushed r.rows j c f.rows (omega (arith, f.members));
    members = f.members;
    columns = f.columns;
    words = f.words;
  };
  kept = λ d p q s. refl;
  beat = f.beat;
  published = f.published;
}

-- what is put stands in words of its own
pub record IsPutting (r : Replica) (s : ℕ) (words : List (List ℕ)) (puts : List SentItem) : Type 0 where
  -- the replica isn't wedged, s is of the roster, and there is room for its item
  pub unwedged : is_wedged r ≡ false
  pub sender : s < r.roster
  pub room : count r s < greatest r.totals
  -- the words are those from before, up to the ring
  pub table : IsTable r.roster r.window (record r.rows { words = words })
  pub kept : (c : ℕ) → c < 6 + 2 * r.roster → own (record r.rows { words = words }) c ≡ own r.rows c
  -- the ring and what is put are up to the new count
  pub ring : (k part : ℕ) → part < 17 → ring_tag (own (record r.rows { words = words })
      (slot_column r.roster r.window k + part)) ≤ get_or (set r.counts s (count r s + 1)) (me r) 0
  pub put : length puts ≡ get_or (set r.counts s (count r s + 1)) (me r) 0
  pub order : IsPut r.base (length r.messages) puts

-- of one that isn't wedged no count is final
pub open_recv : (r : Replica) (s : ℕ) → HasForm r → is_wedged r ≡ false → s < r.roster
    → own r.rows (recv_column s) ≡ recv_word (count r s) false
open_recv r s f unwedged within = rw unwedged at (f.recv s within)

pub gained_keeps : (r : Replica) (s : ℕ) (item : Item) (words : List (List ℕ)) (puts : List SentItem)
    → HasForm r → IsPutting r s words puts
    → HasForm (gained (record r { rows = record r.rows { words = words }; sent = puts }) s item)
gained_keeps r s item words puts f p =
    let w : Words = record r.rows { words = words } in
    let k : ℕ = count r s + 1 in
    let counts : List ℕ = set r.counts s k in
    let front : ℕ = front_of (map (slice_index counts) (members_in_view r)) in
    let within : s < length r.counts = omega (arith, p.sender, f.counts) in
    let few : k ≤ 4096 = omega (arith, p.room, f.few) in
    let t = table_shown r.roster r.window w s k front p.table p.sender few in
    let low : (c : ℕ) → c < 6 + 2 * r.roster → c ≢ RECEIVED_COLUMN → c ≢ recv_column s
    → own (shown w s k front) c ≡ own r.rows c = λ c l a b. shown_left w s k front c a b ∙ p.kept c l in
    let same : (c : ℕ) → is_accept_of r.roster r.members c ≡ true → own (shown w s k front) c ≡ own r.rows c =
    λ c is. let high = accept_within r.roster r.members c is in
    low c (omega (arith, high)) (λ e. omega (arith, high)) (λ e. omega (arith, high, p.sender)) in
    record {
      rows = t.rows;
      members = t.members;
      columns = t.columns;
      words = t.words;
      some_slot = f.some_slot;
      most_slots = f.most_slots;
      number = f.number;
      trusted = f.trusted;
      named = f.named;
      frozen = f.frozen;
      bank = f.bank;
      left = f.left;
      roster = f.roster;
      late = f.late;
      outside = λ e. let o = f.outside e in
          record { late = o.late; first = o.first; trusting = o.trusting; none = o.none; idle = o.idle; all = o.all };
      decided = f.decided;
      given = f.given;
      counts = length-set r.counts s k ∙ f.counts;
      bounded = counts_bounded r.counts s k (greatest r.totals) within (omega (arith, p.room)) f.bounded;
      few = f.few;
      items = length-set r.items (count r s * r.roster + s) item ∙ f.items;
      suspected = low SUSPECTED_COLUMN (omega arith) (λ e. omega arith) (λ e. omega arith) ∙ f.suspected;
      recv = λ j l. elim (cases_eq j s) [
        | inl same ↦ let set = get_or-set_same r.counts s k 0 within in
            rw (same, set, p.unwedged) (shown_recv r.roster r.window w s k front p.table p.sender)
        | inr other ↦ let kept = get_or-set_other r.counts s j k 0 other in
            rw kept (low (recv_column j) (omega arith) (λ e. omega arith) (λ e. other (omega arith)) ∙ f.recv j l)
      ];
      accept = λ c is. ap accept_promise (same c is) ∙ f.accept c is;
      tagged = λ c is. ap accept_tag (same c is) ∙ f.tagged c is;
      valued = λ c is. ap accept_value (same c is) ∙ f.valued c is;
      low = f.low;
      waits = f.waits;
      votes = f.votes;
      received = shown_received r.roster r.window w s k front p.table p.sender few;
      beat = omega (arith, low BEAT_COLUMN (omega arith) (λ e. omega arith) (λ e. omega arith), f.beat);
      acts = f.acts;
      published = omega (arith, low LOGGED_COLUMN (omega arith) (λ e. omega arith) (λ e. omega arith), f.published);
      ring = λ i part l. let kept = shown_left w s k front (slot_column r.roster r.window i + part) (λ e. omega arith)
          (λ e. omega (arith, p.sender)) in rw kept (p.ring i part l);
      messages = f.messages;
      short = f.short;
      bytes = f.bytes;
      put = p.put;
      order = p.order;
      logged = f.logged;
      room = f.room;
      small = f.small;
    }

pub gained_grown : (r : Replica) (s : ℕ) (item : Item) (words : List (List ℕ)) (puts : List SentItem)
    → HasForm r → is_inside r ≡ true → IsPutting r s words puts → Grown r.roster words (gained
    (record r { rows = record r.rows { words = words }; sent = puts }) s item).rows.words r.rows.frozen r.rows.frozen
gained_grown r s item words puts f inside p =
    let w : Words = record r.rows { words = words } in
    let k : ℕ = count r s + 1 in
    let within : s < length r.counts = omega (arith, p.sender, f.counts) in
    let some = some_member r.members (me r) (omega (arith, f.rows.present, f.rows.few)) inside in
    let rises = front_rises (members_in_view r) r.counts s k some within (omega arith) in
    shown_grown r.roster r.window w s (count r s) k
    (front_of (map (slice_index (set r.counts s k)) (members_in_view r))) p.table p.sender
    (omega (arith, p.room, f.few))
    (p.kept (recv_column s) (omega (arith, p.sender)) ∙ open_recv r s f p.unwedged p.sender) (omega arith)
    (omega (arith, p.kept RECEIVED_COLUMN (omega arith), f.received, rises))

receiving : (r : Replica) (s : ℕ) → HasForm r → may_receive r s ≡ true → IsPutting r s r.rows.words r.sent
receiving r s f may =
    let all = and_parts (not (is_wedged r)) _ may in
    let parts = and_parts (is_other r s) (is_some (ready_item r s) && nat_lt (count r s) (greatest r.totals)) all.1 in
    let apart = other_apart r s f parts.0 in
    let room = ltb-true (count r s) (greatest r.totals)
    (and_parts (is_some (ready_item r s)) (nat_lt (count r s) (greatest r.totals)) parts.1).1 in
    let mine : get_or (set r.counts s (count r s + 1)) (me r) 0
    ≡ count r (me r) = get_or-set_other r.counts s (me r) (count r s + 1) 0 (λ e. apart.2 (sym e)) in
    record {
      unwedged = not-true (is_wedged r) all.0;
      sender = apart.1;
      room = room;
      table = table_of r f;
      kept = λ c l. refl;
      ring = λ k part l. rw mine (f.ring k part l);
      put = f.put ∙ sym mine;
      order = f.order;
    }

-- receiving an item that may be received keeps a replica in form
pub received_form : (r : Replica) (s : ℕ) → HasForm r → may_receive r s ≡ true → HasForm (received r s)
received_form r s f may = gained_keeps r s (unwrap_or (ready_item r s) Null) r.rows.words r.sent f
    (receiving r s f may)

-- the act of receiving keeps a replica in form
pub received_keeps : (r : Replica) (s : ℕ) → HasForm r → may_receive r s ≡ true → HasForm (acted (received r s))
received_keeps r s f may = acted_keeps (received r s) (received_form r s f may)

-- no word falls by the act of receiving
pub received_grown : (r : Replica) (s : ℕ) → HasForm r → is_inside r ≡ true → may_receive r s ≡ true
    → Grown r.roster r.rows.words (acted (received r s)).rows.words r.rows.frozen (acted (received r s)).rows.frozen
received_grown r s f inside may = Grown_trans r.roster r.rows.words (received r s).rows.words
    (acted (received r s)).rows.words r.rows.frozen r.rows.frozen r.rows.frozen
    (gained_grown r s (unwrap_or (ready_item r s) Null) r.rows.words r.sent f inside (receiving r s f may))
    (acted_grown (received r s) (received_form r s f may))

-- a message is left exactly where it has put fewer items than there are messages from its first one on
pub message_left : (r : Replica) → HasForm r
    → nat_lt (r.base + length r.sent) (length r.messages) ≡ nat_lt (next_index r) (length r.messages)
message_left r f = elim (cases_lt (messages_in r.sent) (length r.sent)) [
  | inl null ↦ grind (arith, nat_tests, null, f.order.nulls null)
  | inr all ↦ ap (λ (n : ℕ). nat_lt (r.base + n) (length r.messages)) (omega (arith, all, messages_within r.sent))
]

-- the slot of its next item is free, where the test says so
pub slot_free : (r : Replica) → HasForm r → is_free r.window r.rows r.members (count r (me r)) ≡ true
    → IsFree r.window r.rows r.members (count r (me r))
slot_free r f free = IsFree-from_test r.window r.rows r.members (count r (me r)) f.rows.few
    (subst (λ (n : ℕ). IsInRoster n r.members) (sym f.members) f.roster) free

-- the index of that message is small
pub index_small : (r : Replica) → HasForm r → may_send r ≡ true → next_index r < 2 ^ 32
index_small r f may =
    let both = and_parts (not (is_wedged r)) _ may in
    let two = and_parts (nat_lt (next_index r) (length r.messages)) _ both.1 in
    omega (arith, ltb-true (next_index r) (length r.messages) two.0, f.messages, greatest_most r.totals (me r), f.few)

-- the act of accepting a value
pub accepting_grown : (r : Replica) (x : Vote) → HasForm r → r.pending ≡ Some x
    → Grown r.roster r.rows.words (acted (accepted r)).rows.words r.rows.frozen (acted (accepted r)).rows.frozen
accepting_grown r x f e = Grown_trans r.roster r.rows.words (accepted r).rows.words (acted (accepted r)).rows.words
    r.rows.frozen r.rows.frozen r.rows.frozen (accepted_grown r x f e)
    (acted_grown (accepted r) (accepted_form r x f e))

-- an act that doesn't end the view is done and then stamped
pub taken_other : (r : Replica) (a : Act) → (a ≡ acts.Finish → ⊥) → taken r a ≡ acted (done r a)
taken_other r acts.Finish other = absurd (other refl)
taken_other r a other = refl

-- it is in form, and no word fell
pub looks_keep : (r : Replica) (i : ℕ) (table : List ℕ) (first from m : ℕ) → MayLook r i table first from m
    → HasForm (looked_on r i table first from m) × NoWordFell r (looked_on r i table first from m)
looks_keep r i table first from zero may = (may.form, Grown_refl r.roster r.rows.words r.rows.frozen)
looks_keep r i table first from (suc m) may =
    let rest = looks_keep one i table first (from + 1) m after in (
      rest.0,
      Grown_trans r.roster r.rows.words one.rows.words (looked_on r i table first from (suc m)).rows.words
          r.rows.frozen one.rows.frozen (looked_on r i table first from (suc m)).rows.frozen
          (looked_rises r i from word may.form may.other may.unsuspected (omega (arith, may.within))
          (may.grown from (omega arith) (omega arith))) rest.1,
    )
  where
    word : ℕ
    word = slice_index table (first + from)

    one : Replica
    one = looked r i from word

    after : MayLook one i table first (from + 1) m
    after = record {
      form = looked_keeps r i from word may.form may.other (omega (arith, may.within))
          (may.in_form from (omega arith) (omega arith));
      other = may.other;
      unsuspected = may.unsuspected;
      within = omega (arith, may.within);
      in_form = λ c l h. may.in_form c (omega (arith, l)) (omega (arith, h));
      grown = λ c l h. subst (λ x. HasGrown r.roster c x (slice_index table (first + c)))
          (sym (with_word-column r.rows.words i from word i c (λ e. absurd (omega (arith, l, e)))))
          (may.grown c (omega (arith, l)) (omega (arith, h)));
    }

-- a replica stays in form by the pushes of a row
pub pushes_keep : (r : Replica) (j first : ℕ) (s : Pushes) (from m : ℕ) → j < r.roster
    → HasForm (record r { rows = s.words }) → HasForm (record r { rows = (pushed_along j first s from m).words })
pushes_keep r j first s from zero within form = form
pushes_keep r j first s from (suc m) within form =
    pushes_keep r j first (with_push j first s from) (from + 1) m within (by (changed s.words j from) refl)
  where
    by : (b : Bool) → changed s.words j from ≡ b → HasForm (record r { rows = (with_push j first s from).words })
    by true e = subst (λ (x : Pushes). HasForm (record r { rows = x.words })) (sym (push_is j first s from e))
        (pushed_keeps (record r { rows = s.words }) j from form within)
    by false e = subst (λ (x : Pushes). HasForm (record r { rows = x.words }))
        (sym (push_is_none j first s from e)) form

pub received_received : (r : Replica) (s : ℕ) → HasForm r → is_inside r ≡ true → may_receive r s ≡ true
    → least_seen r RECEIVED_COLUMN ≤ least_seen (received r s) RECEIVED_COLUMN
received_received r s form inside may = le_trans (grown_received r (acted (received r s)) r.rows.frozen
    (acted (received r s)).rows.frozen refl (received_grown r s form inside may)) (unstamped (received r s))
