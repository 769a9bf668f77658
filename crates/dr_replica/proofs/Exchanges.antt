-- The fields after an item was taken or put.
use Rattle.std.{specs.Prelude.vec_capacity, proofs.lemmas.List.{get_or-set_same, get_or_read}}
use Rattle.std.proofs.Common.{◌≡◌, ℕ, ◌+◌, ◌*◌, ◌<◌, ◌≤◌, false, List, [], ◌∷◌, ◌++◌, length, map, get_or, set, slice_index, slice_index_or, Option, Some, unwrap_or, sym, ap, subst, ◌∙◌, arith, le_trans}
use Rattle.dr_entry.specs.declared.{end.SentItem.SentItem, entry.Item.{Item, TheVariants.{Null, Text}}}
use Rattle.dr_history.{specs.{Members.members_of, Places.front_of}, proofs.Fronts.front_rises}
use Rattle.dr_ring.specs.Slots.{item_in, slot_of, with_item}
use Rattle.dr_rows.specs.Words.{Words, own}
use Rattle.dr_words.specs.{Columns.recv_column, Packing.recv_word, declared.column.TheConstants.RECEIVED_COLUMN}
use Rattle.dr_words.proofs.Gains.{shown}
use Rattle.dr_program.{specs.Form.HasForm, proofs.Keeps.open_recv}
use Rattle.dr_program.specs.Replica.{Replica, me, count, greatest, least_seen, next_index, ready_item, gained, put, received}
use Rattle.dr_replica.specs.{Inside.{IsInsideReplica, replica_inside}, Items.{Held, front, taken}}
use Rattle.dr_replica.{specs.declared.replica.Replica.TheInside.Inside, proofs.Insides.same_suspicion}
use Rattle.dr_form.{specs.Puts.MayPut, proofs.Keeps.{message_to_send, putting}}

-- the words that follow an item more
abbrev pub Shown : Words → Words → Held → ℕ → Type 0
Shown old new t s = new ≡ shown old s (slice_index t.counts s) (front t)

-- the new count, and the front that doesn't fall
counted : (a : Inside) (s c : ℕ) → IsInsideReplica a → s < a.shape.members → get_or (set a.items.counts s c) s 0 ≡ c
counted a s c inside within = get_or-set_same a.items.counts s c 0 (omega (arith, inside.form.counts, within))

-- after an item is taken the front is at least the one that the member shows
pub front_after : (a : Inside) (t : Held) (s : ℕ) (item : Item) → IsInsideReplica a → s < a.shape.members
    → t ≡ taken a.items s item → own a.rows RECEIVED_COLUMN ≤ front t
front_after a t s item inside within after =
    let f = inside.form in
    let k : ℕ = get_or a.items.counts s 0 + 1 in
    let some : 0 < length (members_of a.members) = omega (arith, inside.next.rank) in
    let rises = front_rises (members_of a.members) a.items.counts s k some (omega (arith, f.counts, within))
    (omega arith) in
    let same : front (taken a.items s item)
    ≡ front_of (map (slice_index (set a.items.counts s k)) (members_of a.members)) =
    ap (λ (ms : List ℕ). front_of (map (slice_index (set a.items.counts s k)) ms)) inside.members in
    rw after (omega (arith, f.received, rises, same))

gained_after : (a : Inside) (rows w : Words) (t : Held) (s : ℕ) (item : Item) (puts : List SentItem)
    → IsInsideReplica a → s < a.shape.members → t ≡ taken a.items s item → Shown rows w t s
    → record (replica_inside a) { rows = w; counts = t.counts; items = t.items; sent = puts }
    ≡ gained (record (replica_inside a) { rows = rows; sent = puts }) s item
gained_after a rows w t s item puts inside within took after =
    let old : ℕ = get_or a.items.counts s 0 in
    let cs : List ℕ = set a.items.counts s (old + 1) in
    let words : w ≡ shown rows s (old + 1) (front_of (map (slice_index cs) (members_of a.members))) = after
    ∙ ap (λ (h : Held). shown rows s (slice_index h.counts s) (front h)) took
    ∙ ap (λ (n : ℕ). shown rows s n (front (taken a.items s item))) (counted a s (old + 1) inside within)
    ∙ ap (λ (ms : List ℕ). shown rows s (old + 1) (front_of (map (slice_index cs) ms))) inside.members in
    ap (λ (h : Held). record (replica_inside a) { rows = w; counts = h.counts; items = h.items; sent = puts }) took
    ∙ ap (λ (x : Words). record (replica_inside a)
    { rows = x; counts = cs; items = set a.items.items (old * a.items.roster + s) item; sent = puts }) words
    ∙ ap (λ (n : ℕ). record (replica_inside a) {
      rows = shown rows s (old + 1) (front_of (map (slice_index cs) (members_of a.members)));
      counts = cs;
      items = set a.items.items (old * n + s) item;
      sent = puts;
    }) inside.roster

-- ---- what was taken

-- these fields are those of the replica that has received the sender's next item
pub received_after : (a : Inside) (w : Words) (t : Held) (s k : ℕ) (item : Item)
    → IsInsideReplica a → s < a.shape.members → k ≡ slice_index a.items.counts s
    → item_in k (slot_of a.shape.window a.rows s k) ≡ Some item → t ≡ taken a.items s item → Shown a.rows w t s
    → record (replica_inside a) { rows = w; counts = t.counts; items = t.items } ≡ received (replica_inside a) s
received_after a w t s k item inside within count some took after =
    let what : item ≡ unwrap_or (ready_item (replica_inside a) s) Null = ap (λ (x : Option Item). unwrap_or x Null)
    (sym some ∙ ap (λ (n : ℕ). item_in n (slot_of a.shape.window a.rows s n)) count) in
    gained_after a a.rows w t s item a.sent.items inside within took after
    ∙ ap (λ (x : Item). gained (replica_inside a) s x) what

-- ---- what was put

-- the member, the count, and the words and items with the item put
pub record WasPut (a : Inside) (m k : ℕ) (x : Item) (w : Words) (t : Held) : Type 0 where
  pub me : m ≡ a.rows.me
  pub count : k ≡ slice_index a.items.counts m
  pub rows : w ≡ with_item a.shape.window a.rows k x
  pub took : t ≡ taken a.items m x

-- the message that was read is the next one
pub message_read : (a : Inside) (now : Replica) (i : ℕ) (read bytes : List ℕ) → replica_inside a ≡ now
    → next_index now < length now.messages → i ≡ next_index now
    → read ≡ slice_index_or a.messages.items i read → bytes ≡ read → Text bytes ≡ message_to_send now
message_read a now i read bytes same left next there equal =
    let list : a.messages.items ≡ now.messages = ap (λ (r : Replica). r.messages) same in
    let here = get_or_read a.messages.items i read (omega (arith, next, left, ap length list)) there [] in
    ap (λ (x : List ℕ). Text x) (equal ∙ here ∙ ap (λ (xs : List (List ℕ)). get_or xs i []) list
    ∙ ap (λ (j : ℕ). get_or now.messages j []) next)

-- there is room for it
pub room_left : (a : Inside) (m : ℕ) (name : SentItem) (item : Item) → IsInsideReplica a
    → MayPut (replica_inside a) name item → m ≡ a.rows.me → slice_index a.items.counts m < a.items.most
room_left a m name item inside may mine = rw mine (omega (arith, may.room, inside.most))

rows_are : (a : Inside) (m k : ℕ) (item : Item) (rows : Words) (t : Held) → WasPut a m k item rows t
    → rows ≡ with_item a.shape.window a.rows (count (replica_inside a) (me (replica_inside a))) item
rows_are a m k item rows t p = p.rows ∙ ap (λ (n : ℕ). with_item a.shape.window a.rows n item)
    (p.count ∙ ap (λ (i : ℕ). slice_index a.items.counts i) p.me)

-- after a put neither the member's own count nor its front falls
pub put_shows : (a : Inside) (m k : ℕ) (name : SentItem) (item : Item) (rows : Words) (t : Held)
    → IsInsideReplica a → MayPut (replica_inside a) name item → WasPut a m k item rows t
    → (own rows (recv_column m) ≤ recv_word (slice_index t.counts m) false) × (own rows RECEIVED_COLUMN ≤ front t)
put_shows a m k name item rows t inside may p =
    let r : Replica = replica_inside a in
    let f = inside.form in
    let n = putting r name item f may in
    let within : m < a.shape.members = omega (arith, p.me, n.sender) in
    let there = rows_are a m k item rows t p in
    let recv : own rows (recv_column (me r))
    ≡ recv_word (count r (me r)) false = ap (λ (w : Words). own w (recv_column (me r))) there
    ∙ n.kept (recv_column (me r)) (omega (arith, n.sender)) ∙ open_recv r (me r) f n.unwedged n.sender in
    let mine : own rows (recv_column m) ≡ recv_word (count r m) false =
    subst (λ (i : ℕ). own rows (recv_column i) ≡ recv_word (count r i) false) (sym p.me) recv in
    let received : own rows RECEIVED_COLUMN
    ≡ own a.rows RECEIVED_COLUMN = ap (λ (w : Words). own w RECEIVED_COLUMN) there
    ∙ n.kept RECEIVED_COLUMN (omega arith) in
    let new : slice_index t.counts m ≡ count r m + 1 = ap (λ (h : Held). slice_index h.counts m) p.took
    ∙ counted a m (count r m + 1) inside within in
    (omega (arith, mine, new), omega (arith, received, front_after a t m item inside within p.took))

-- these fields are those of the replica that has put the item
pub put_after : (a : Inside) (w : Words) (m k : ℕ) (name : SentItem) (item : Item) (rows : Words)
    (t : Held) (puts : List SentItem) → IsInsideReplica a → MayPut (replica_inside a) name item
    → WasPut a m k item rows t → puts ≡ a.sent.items ++ name ∷ [] → Shown rows w t m
    → record (replica_inside a) { rows = w; counts = t.counts; items = t.items; sent = puts }
    ≡ put (replica_inside a) name item
put_after a w m k name item rows t puts inside may p more after =
    let r : Replica = replica_inside a in
    let within : m < a.shape.members = omega (arith, p.me, (putting r name item inside.form may).sender) in
    gained_after a rows w t m item puts inside within p.took after ∙ ap (λ (x : Words). gained
    (record r { rows = x; sent = puts }) m item) (rows_are a m k item rows t p) ∙ ap (λ (xs : List SentItem). gained
    (record r { rows = with_item a.shape.window a.rows (count r (me r)) item; sent = xs }) m item) more
    ∙ ap (λ (j : ℕ). gained (record r {
      rows = with_item a.shape.window a.rows (count r (me r)) item;
      sent = r.sent ++ name ∷ [];
    }) j item) p.me

-- ---- the fields keep their invariant

-- a taken item leaves the replica in good order inside, where its form is kept
pub items_kept : (a : Inside) (rows : Words) (t : Held) (s : ℕ) (item : Item) (puts : _) → IsInsideReplica a
    → t ≡ taken a.items s item → greatest a.totals ≤ vec_capacity puts
    → rows.me ≡ a.rows.me → HasForm (replica_inside (record a { rows = rows; items = t; sent = puts }))
    → least_seen (replica_inside a) RECEIVED_COLUMN
    ≤ least_seen (replica_inside (record a { rows = rows; items = t; sent = puts })) RECEIVED_COLUMN
    → IsInsideReplica (record a { rows = rows; items = t; sent = puts })
items_kept a rows t s item puts inside took room me form rise = record {
  form = form;
  suspicion = same_suspicion a rows inside me;
  members = ap (λ (h : Held). h.members) took ∙ inside.members;
  roster = ap (λ (h : Held). h.roster) took ∙ inside.roster;
  most = ap (λ (h : Held). h.most) took ∙ inside.most;
  messages = inside.messages;
  next = inside.next;
  received = le_trans inside.received rise;
  sent = room;
  left = inside.left;
  spares = inside.spares;
  enough = inside.enough;
  past = inside.past;
  end = inside.end;
  votes = inside.votes;
}
