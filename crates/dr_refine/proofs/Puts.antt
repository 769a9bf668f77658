-- What an item that is put, and one that is received, make of the world.
use Rattle.std.{specs.Prelude.{nat_lt, not, unwrap_or, is_some, Option, Some}, proofs.lemmas.Option.slice_get-get_or}
use Rattle.std.proofs.Common.{◌≡◌, ◌≢◌, refl, sym, ap, ◌∙◌, subst, ℕ, ◌+◌, ◌-◌, ◌<◌, ◌≤◌, ◌==◌, ◌&&◌, inl, inr, true, if◌then◌else◌, List, [], ◌∷◌, ◌++◌, length, slice_index, slice_index_or, arith, set-set}
use Rattle.std.proofs.{Math.Path.fun_ext, lemmas.Bool.{and_parts, cases_eq, ltb-true, Decides.nat_tests}}
use Rattle.dr_entry.specs.declared.{end.SentItem.{SentItem, TheVariants.Index}, entry.Item.Item}
use Rattle.dr_entry.{specs.declared.entry.Item.TheVariants.{Null, Text}, proofs.ListPlaces.{above_some, most}}
use Rattle.dr_entry.proofs.NumberFacts.{same_number, other_number}
use Rattle.dr_entry.specs.declared.end.SentItem.TheVariants as sent_items
use Rattle.dr_ring.{specs.{Pieces.pieces, Slots.{slot_column, with_item, item_in, is_free}}, proofs.Puts.few_parts}
use Rattle.dr_ring.proofs.Writes.{HasSlot, HasSlot-from, other_rows, IsWords-pieces}
use Rattle.dr_rows.specs.Words.{own}
use Rattle.dr_words.specs.Columns.{columns_of}
use Rattle.dr_machine.specs.Effects.{stamped, gains, puts, sends, nulls, receives, next_item, row_with}
use Rattle.dr_machine.specs.{Group.{Group, roster}, Guards.seen_slot, World.World, Writes.at}
use Rattle.dr_machine.proofs.{Sending.only_messages, Writes.{row_written, view_set}}
use Rattle.dr_machine.specs.Guards as guards
use Rattle.dr_faithful.proofs.{Copies.Fits, Puts.own_pieces}
use Rattle.dr_program.specs.{Presence.with_present, Reading.{Shared, kept_word, left_in, world_of}}
use Rattle.dr_program.specs.Replica.{Replica, me, count, item, gained, received, put, sent, nulled, greatest, next_index, ready_item, is_other, is_behind, is_wedged, may_send, may_null, may_receive, acted}
use Rattle.dr_program.proofs.{Holdings.{holding_of, replaced, own_here, count_here}, Replicas.{MayGain, places}}
use Rattle.dr_program.proofs.{Present.{present_within, present_set}, Puts.{place_from, place_after, place_changes}}
use Rattle.dr_refine.{specs.Programs.{IsMember, acted_table}, proofs.Gains.{fits_gained, gained_world}}
use Rattle.dr_refine.proofs.Guards.{other_member, other_within, count_is, next_is, slot_is}
use Rattle.dr_refine.proofs.Members.{fits, then_acted}

-- ---- received items

-- an item is received
pub receive_effect : (g : Group) (rs : List (Option Replica)) (table : Shared) (m : ℕ) (r : Replica) (s : ℕ)
    → IsMember g rs table m r → may_receive r s ≡ true → world_of g (with_present rs m
    (acted (received r s))) (acted_table g table m r) ≡ stamped (receives g (world_of g rs table) m s) m
receive_effect g rs table m r s is e =
    let w : World = world_of g rs table in
    let f = fits g rs table m r is in
    let two = and_parts (is_other r s) (is_some (ready_item r s) && nat_lt (count r s) (greatest r.totals))
    (and_parts (not (is_wedged r)) _ e).1 in
    let three = and_parts (is_some (ready_item r s)) (nat_lt (count r s) (greatest r.totals)) two.1 in
    let apart : s ≢ m = ((other_member g rs table m r s is).0 two.0).other in
    let may : MayGain g r s = record {
      roster = is.of.members;
      counts = is.form.counts;
      items = is.form.items;
      sender = let within = other_within g rs table m r s is two.0 in omega (arith, within, is.of.members);
      few = grind (arith, nat_tests, three.1);
    } in
    let same : unwrap_or (ready_item r s) Null ≡ next_item g w m s = ap (λ (slot : ℕ → ℕ). unwrap_or
    (item_in (count r s) slot) Null) (sym (slot_is g rs table m r s (count r s) is apart))
    ∙ ap (λ k. unwrap_or (item_in k (seen_slot g w m s k)) Null) (sym (count_is g rs table m r s is)) in
    then_acted g rs table m (received r s) (receives g w m s) (present_within rs m r is.there)
    (fits_gained g m r s f) is.cells
    (gained_world g rs table m r s (unwrap_or (ready_item r s) Null) is.there f may ∙ ap (gains w m s) same)

-- ---- an item that is put, without the counts

abbrev placed : Replica → SentItem → Item → Replica
placed r name item = record r { rows = with_item r.window r.rows (count r (me r)) item; sent = r.sent ++ name ∷ [] }

fits_placed : (g : Group) (m : ℕ) (r : Replica) (name : SentItem) (item : Item) → Fits g m r.rows r.view
    → HasSlot r.window r.rows (count r (me r)) → length (pieces item) ≤ 17 → Fits g m (placed r name item).rows r.view
fits_placed g m r name item f slot few = record {
  number = f.number;
  words = IsWords-pieces r.window r.rows (count r (me r)) (pieces item) slot few f.words;
  members = f.members;
  columns = f.columns;
  bank = f.bank;
}

placed_world : (g : Group) (rs : List (Option Replica)) (table : Shared) (m : ℕ) (r : Replica) (name : SentItem)
    (item : Item) → IsMember g rs table m r → HasSlot r.window r.rows (count r (me r)) → length (pieces item) ≤ 17
    → world_of g (with_present rs m (placed r name item)) table ≡ places g (world_of g rs table) m name item
placed_world g rs table m r name item is slot few =
    replaced g rs table table m r (placed r name item) (places g (world_of g rs table) m name item)
    (place_after g m name item) is.there (place_changes g (world_of g rs table) m name item) same refl refl
  where
    f : Fits g m r.rows r.view
    f = fits g rs table m r is

    row : ℕ → ℕ
    row = row_with (own r.rows) (slot_column (roster g) g.window (count r m)) (count r m) (pieces item)

    words : (d : ℕ) → own (placed r name item).rows d ≡ row d
    words d = own_pieces r.window r.rows (count r (me r)) (pieces item) d slot few ∙ ap (λ n. row_with
        (own r.rows) (slot_column n r.window (count r (me r))) (count r (me r)) (pieces item) d) f.members
        ∙ ap (λ window. row_with (own r.rows) (slot_column (roster g) window (count r (me r)))
        (count r (me r)) (pieces item) d) is.of.window ∙ ap (λ k. row_with
        (own r.rows) (slot_column (roster g) g.window (count r k)) (count r k) (pieces item) d) is.of.number

    own_is : (holding_of g (placed r name item)).own ≡ at (holding_of g r).own r.view row
    own_is = fun_ext λ v. fun_ext λ d. ap (λ x. if v == r.view then x else kept_word r v d) (words d)
        ∙ row_written (own r.rows) row (kept_word r) r.view v d

    sent_is : (holding_of g (placed r name item)).sent ≡ at (holding_of g r).sent r.view (r.sent ++ name ∷ [])
    sent_is = fun_ext λ v. view_set r.sent (r.sent ++ name ∷ []) (λ b. (left_in r b).sent) r.view v

    seen_is : (holding_of g (placed r name item)).seen ≡ (holding_of g r).seen
    seen_is = fun_ext λ i. fun_ext λ d. elim (cases_eq i r.rows.me) [
      | inl mine ↦ rw (mine, same_number r.rows.me) refl
      | inr other ↦ rw (other_number i r.rows.me other)
          (ap (λ row. slice_index row d) (other_rows r.window r.rows (count r (me r)) (pieces item) i other))
    ]

    sent_here : (holding_of g r).sent r.view ≡ r.sent
    sent_here = rw (same_number r.view) refl

    same : place_after g m name item (holding_of g r) ≡ holding_of g (placed r name item)
    same = (λ z. place_from g name item (holding_of g r) (own_here g r z) (count_here g r z m) (sent_here z))
        ∙ (λ z. record (holding_of g r) { own = sym own_is z; sent = sym sent_is z; seen = sym seen_is z })

-- ---- a message that is sent

-- a message that is left, with the premises of putting it
left_over : (g : Group) (rs : List (Option Replica)) (table : Shared) (m : ℕ) (r : Replica)
    → IsMember g rs table m r → next_index r < length r.messages → count r m < greatest r.totals
left_over g rs table m r is left =
    let put : length r.sent ≡ count r m = is.form.put ∙ ap (count r) is.of.number in
    let all = only_messages r.base (length r.messages) r.sent is.form.order left in
    omega (arith, left, put, all, is.form.messages, most r.totals (me r))

-- an item is put
put_effect : (g : Group) (rs : List (Option Replica)) (table : Shared) (m : ℕ) (r : Replica) (name : SentItem)
    (item : Item) → IsMember g rs table m r → length (pieces item) ≤ 17 → count r m < greatest r.totals
    → world_of g (with_present rs m (acted (put r name item))) (acted_table g table m r)
    ≡ stamped (puts g (world_of g rs table) m name item) m
put_effect g rs table m r name item is few below = then_acted g rs table m
    (put r name item) (puts g w m name item) within (fits_gained g m p (me r) mid_fits) is.cells
    (ap (λ qs. world_of g qs table) (sym (set-set rs m (Some p) (Some (gained p (me r) item))))
    ∙ gained_world g (with_present rs m p) table m p (me r) item (present_set rs m p within) mid_fits may
    ∙ ap (λ v. gains v m (me r) item) (placed_world g rs table m r name item is slot few)
    ∙ ap (λ s. gains (places g w m name item) m s item) is.of.number)
  where
    w : World
    w = world_of g rs table

    p : Replica
    p = placed r name item

    within : m < length rs
    within = present_within rs m r is.there

    slot : HasSlot r.window r.rows (count r (me r))
    slot = HasSlot-from r.window r.rows (count r (me r)) is.form.rows
        (omega (arith, is.of.window, is.group.some_slot))
        (is.form.columns ∙ ap (λ n. columns_of n r.window) (sym is.form.members))

    mid_fits : Fits g m p.rows p.view
    mid_fits = fits_placed g m r name item (fits g rs table m r is) slot few

    may : MayGain g p (me r)
    may = record {
      roster = is.of.members;
      counts = is.form.counts;
      items = is.form.items;
      sender = omega (arith, is.form.rows.present, is.form.members);
      few = subst (λ k. count r k < greatest r.totals) (sym is.of.number) below;
    }

-- a message is put
pub send_effect : (g : Group) (rs : List (Option Replica)) (table : Shared) (m : ℕ) (r : Replica)
    → IsMember g rs table m r → may_send r ≡ true → world_of g (with_present rs m
    (acted (sent r))) (acted_table g table m r) ≡ stamped (sends g (world_of g rs table) m) m
send_effect g rs table m r is e =
    put_effect g rs table m r (Index (next_index r)) (Text (slice_index_or r.messages (next_index r) [])) is
    (few_parts (slice_index_or r.messages (next_index r) []) short) (left_over g rs table m r is left)
    ∙ ap (λ i. stamped (puts g w m (Index i) (Text (slice_index_or r.messages i []))) m)
    (sym (next_is g rs table m r is))
    ∙ ap (λ (list : List (List ℕ)). stamped (puts g w m (Index (guards.next_index w m))
    (Text (slice_index_or list (guards.next_index w m) []))) m) is.of.messages
  where
    w : World
    w = world_of g rs table

    left : next_index r < length r.messages
    left = ltb-true (next_index r) (length r.messages) (and_parts (nat_lt (next_index r) (length r.messages))
        (is_free r.window r.rows r.members (count r (me r))) (and_parts (not (is_wedged r)) _ e).1).0

    short : length (slice_index_or r.messages (next_index r) []) ≤ 64
    short = is.form.short (next_index r) (slice_index_or r.messages (next_index r) [])
        (slice_get-get_or r.messages (next_index r) [] left)

-- a null is put
pub null_effect : (g : Group) (rs : List (Option Replica)) (table : Shared) (m : ℕ) (r : Replica)
    → IsMember g rs table m r → may_null r ≡ true → world_of g (with_present rs m
    (acted (nulled r))) (acted_table g table m r) ≡ stamped (nulls g (world_of g rs table) m) m
null_effect g rs table m r is e =
    let parts = and_parts (not (nat_lt (next_index r) (length r.messages))) _ (and_parts (not (is_wedged r)) _ e).1 in
    let ahead = above_some (count r (me r)) r.counts (and_parts (is_behind r) _ parts.1).0 in
    put_effect g rs table m r sent_items.Null Null is (omega arith)
    (omega (arith, ahead.1, is.form.bounded ahead.0, ap (count r) is.of.number))
