-- The fields keep their invariant.
use Rattle.std.specs.Prelude.{Some, slice_get, vec_capacity}
use Rattle.std.proofs.Common.{◌≡◌, ◌≢◌, ℕ, ◌+◌, ◌*◌, ◌/◌, ◌%◌, ◌^◌, ◌<◌, ◌≤◌, true, map, slice_index, slice_index_or, List, ◌++◌, [], ◌∷◌, length, Option, None, unwrap_or, refl, sym, ap, subst, ◌∙◌, arith, le_trans}
use Rattle.dr_entry.specs.{declared.{end.End.End, entry.Item.{Item, TheVariants.Null}}, declared.record.Value.Value}
use Rattle.dr_entry.specs.declared.record.Vote.{Vote}
use Rattle.dr_history.specs.{Members.members_of, Places.front_of}
use Rattle.dr_rows.specs.Words.{Words, rewritten, with_frozen, with_own}
use Rattle.dr_words.specs.{Masks.{with_member, without}, Rewrites.{accepted_word, wedged_word}}
use Rattle.dr_words.{specs.declared.column.TheConstants.RECEIVED_COLUMN, proofs.Masks.least_read}
use Rattle.dr_machine.specs.{Effects.entries_of, World.no_vote}
use Rattle.dr_program.specs.Replica as replica
use Rattle.dr_program.specs.Form.{HasForm}
use Rattle.dr_program.specs.Replica.{Replica, delivered, least_seen, may_deliver, may_suspect, suspected, suspicion_of, accepted, vote_of, voted}
use Rattle.dr_program.proofs.{Accepting.{accepted_form, decided_form, accepted_received}, Replicas.may_of}
use Rattle.dr_program.proofs.{Least.{other_received, next_held}, Wedging.{suspected_form, suspected_received}}
use Rattle.dr_words.specs.Masks as masks
use Rattle.dr_suspect.specs.Suspicion.{Suspicion}
use Rattle.dr_replica.specs.Items as items
use Rattle.dr_replica.specs.{History.Kept, Inside.{IsInsideReplica, replica_inside}, Spots.IsSpot}
use Rattle.dr_replica.specs.declared.{replica.Replica.TheInside.Inside, spot.Spot.Spot}
use Rattle.dr_replica.specs.History as histories

-- the suspicion stays where the rows are of the same member
pub same_suspicion : (a : Inside) (rows : Words) → IsInsideReplica a → rows.me ≡ a.rows.me
    → a.suspects ≡ suspicion_of (record (replica_inside a) { rows = rows })
same_suspicion a rows inside me = inside.suspicion
    ∙ ap (λ (m : ℕ). record a.suspects { me = m; members = a.members }) (sym me)

-- where items, history and what was put stay as they are, only the form is left, and what is kept beside it
fields_kept : (a : Inside) (rows : Words) (suspects : Suspicion) (tag : ℕ) (value : Value) (pending : Option Vote)
    (votes : _) (logged durable turns acts : ℕ) (end : Option End) → let q : Inside = record a {
      rows = rows;
      suspects = suspects;
      tag = tag;
      value = value;
      pending = pending;
      votes = votes;
      logged = logged;
      durable = durable;
      turns = turns;
      acts = acts;
      end = end;
    } in IsInsideReplica a → HasForm (replica_inside q) → q.suspects ≡ suspicion_of (replica_inside q)
    → least_seen (replica_inside a) RECEIVED_COLUMN ≤ least_seen (replica_inside q) RECEIVED_COLUMN
    → a.shape.banks * a.shape.members ≤ vec_capacity q.votes → IsInsideReplica q
fields_kept a rows suspects tag value pending votes logged durable turns acts end inside form suspicion rise
    room = record {
      form = form;
      suspicion = suspicion;
      members = inside.members;
      roster = inside.roster;
      most = inside.most;
      messages = inside.messages;
      next = inside.next;
      received = le_trans inside.received rise;
      sent = inside.sent;
      left = inside.left;
      spares = inside.spares;
      enough = inside.enough;
      past = inside.past;
      end = inside.end;
      votes = room;
    }

pub state_kept : (a : Inside) (rows : Words) (logged durable turns acts : ℕ) (end : Option End)
    → IsInsideReplica a → rows.me ≡ a.rows.me
    → HasForm (replica_inside
    (record a { rows = rows; logged = logged; durable = durable; turns = turns; acts = acts; end = end }))
    → least_seen (replica_inside a) RECEIVED_COLUMN ≤ least_seen (record (replica_inside a) { rows = rows }) RECEIVED_COLUMN
    → IsInsideReplica (record a
    { rows = rows; logged = logged; durable = durable; turns = turns; acts = acts; end = end })
state_kept a rows logged durable turns acts end inside me form rise =
    fields_kept a rows a.suspects a.tag a.value a.pending a.votes logged durable turns acts end inside form
    (same_suspicion a rows inside me) rise inside.votes

-- and where an own word but the received one is set, and so many acts were done
pub word_kept : (a : Inside) (rows : Words) (column word acts : ℕ) → IsInsideReplica a
    → rows ≡ with_own a.rows column word → RECEIVED_COLUMN ≢ column
    → HasForm (record (replica_inside a) { rows = with_own a.rows column word; acts = acts })
    → IsInsideReplica (record a { rows = rows; acts = acts })
word_kept a rows column word acts inside after other form =
    state_kept a rows a.logged a.durable a.turns acts a.end inside (ap (λ (w : Words). w.me) after)
    (subst (λ (w : Words). HasForm (record (replica_inside a) { rows = w; acts = acts })) (sym after) form)
    (subst (λ (w : Words). least_seen (replica_inside a) RECEIVED_COLUMN
    ≤ least_seen (record (replica_inside a) { rows = w }) RECEIVED_COLUMN) (sym after)
    (other_received (replica_inside a) column word other))

-- a value that is committed leaves the fields in good order
pub decided_kept : (a : Inside) → IsInsideReplica a → IsInsideReplica (record a { committed = Some a.value })
decided_kept a inside = record {
  form = decided_form (replica_inside a) inside.form;
  suspicion = inside.suspicion;
  members = inside.members;
  roster = inside.roster;
  most = inside.most;
  messages = inside.messages;
  next = inside.next;
  received = inside.received;
  sent = inside.sent;
  left = inside.left;
  spares = inside.spares;
  enough = inside.enough;
  past = inside.past;
  end = inside.end;
  votes = inside.votes;
}

-- ---- delivery

-- the next place to deliver is a spot of the view's members
pub next_is_spot : (a : Inside) → IsInsideReplica a → IsSpot (length a.items.members) a.next
next_is_spot a inside = subst (λ (ms : List ℕ). IsSpot (length ms) a.next) (sym inside.members) inside.next

-- a member that may deliver has its next place below the front, and can count one more
pub next_before : (a : Inside) (now : Replica) → replica_inside a ≡ now → IsInsideReplica a → may_deliver now
    ≡ true → replica.is_inside now ≡ true → (a.next.place < items.front a.items) × (a.next.place + 1 < 2 ^ 64)
next_before a now same inside may in_view =
    let held = next_held (replica_inside a) inside.form (ap replica.is_inside same ∙ in_view)
    (may_of may_deliver (replica_inside a) now same may) in (
      subst (λ (ms : List ℕ). a.next.place < front_of (map (slice_index a.items.counts) ms))
          (sym inside.members) held.0,
      held.1,
    )

-- these fields are those of the replica that has delivered the item at its next place
pub delivered_after : (a : Inside) (n : Spot) (h : Kept) (s : ℕ) (item : Item) → IsInsideReplica a → s
    ≡ items.sender_held_at a.items a.next.place → item ≡ items.item_held_at a.items a.next.place
    → h ≡ histories.delivered a.history s item → n.place ≡ a.next.place + 1
    → replica_inside (record a { next = n; history = h }) ≡ delivered (replica_inside a)
delivered_after a n h s item inside sender what after next =
    let p : ℕ = a.next.place in
    let who : s ≡ replica.sender_of_place (replica_inside a) p = sender
    ∙ ap (λ (ms : List ℕ). slice_index ms (p % length ms)) inside.members in
    let which : item ≡ replica.item_of_place (replica_inside a) p = what
    ∙ ap (λ (ms : List ℕ). slice_index_or a.items.items
    (p / length ms * a.items.roster + slice_index ms (p % length ms)) Null) inside.members
    ∙ ap (λ (m : ℕ). slice_index_or a.items.items
    (p / length (replica.members_in_view (replica_inside a)) * m + replica.sender_of_place (replica_inside a) p) Null) inside.roster
    in ap (λ (k : Kept). replica_inside (record a { next = n; history = k })) after
    ∙ ap (λ (m : ℕ). record (replica_inside a)
    { next = m; history = a.history.entries ++ entries_of a.history.entries s item }) next
    ∙ ap (λ (i : ℕ). record (replica_inside a)
    { next = p + 1; history = a.history.entries ++ entries_of a.history.entries i item }) who
    ∙ ap (λ (x : Item). record (replica_inside a) {
      next = p + 1;
      history = a.history.entries ++ entries_of a.history.entries (replica.sender_of_place (replica_inside a) p) x;
    }) which

-- ---- suspicion

-- whom it then promises to accept from
pub voter_read : (a : Inside) (s : Suspicion) (m p rest : ℕ) → IsInsideReplica a
    → s ≡ record a.suspects { suspects = s.suspects } → m ≡ s.suspects → rest ≡ without s.members s.suspects
    → slice_get (members_of rest) 0 ≡ Some p → p ≡ masks.least_of (without a.members m)
voter_read a s m p rest inside same mask left there =
    least_read (without a.members m) p (subst (λ (x : ℕ). slice_get (members_of x) 0 ≡ Some p)
    (left ∙ ap (λ (x : ℕ). without x s.suspects) members ∙ ap (without a.members) (sym mask)) there)
  where
    members : s.members ≡ a.members
    members = ap (λ (x : Suspicion). x.members) same ∙ ap (λ (x : Suspicion). x.members) inside.suspicion

-- the fields are those of the replica that suspects one member more
pub suspected_after : (a : Inside) (s : Suspicion) (rows mid : Words) (j m p : ℕ) → IsInsideReplica a
    → s.suspects ≡ with_member a.suspects.suspects j → m ≡ s.suspects → p ≡ masks.least_of (without a.members m)
    → mid ≡ rewritten a.rows (wedged_word a.shape.members a.members m p) → rows ≡ with_frozen mid j
    → replica_inside (record a { rows = rows; suspects = s }) ≡ suspected (replica_inside a) j
suspected_after a s rows mid j m p inside more mask voter words frozen =
    ap (λ (x : ℕ). record (replica_inside a) { rows = rows; suspects = x }) more
    ∙ ap (λ (w : Words). record (replica_inside a) { rows = w; suspects = with_member a.suspects.suspects j })
    (frozen ∙ ap (λ (w : Words). with_frozen w j) (words
    ∙ ap (λ (q : ℕ). rewritten a.rows (wedged_word a.shape.members a.members m q)) voter
    ∙ ap (λ (x : ℕ). rewritten a.rows (wedged_word a.shape.members a.members x
    (masks.least_of (without a.members x)))) (mask ∙ more)))

-- they keep their invariant
pub suspected_kept : (a : Inside) (s : Suspicion) (rows : Words) (j : ℕ) → IsInsideReplica a
    → replica.is_inside (replica_inside a) ≡ true
    → may_suspect (replica_inside a) j ≡ true → s ≡ record a.suspects { suspects = s.suspects }
    → replica_inside (record a { rows = rows; suspects = s }) ≡ suspected (replica_inside a) j
    → IsInsideReplica (record a { rows = rows; suspects = s })
suspected_kept a s rows j inside in_view may rest there =
    fields_kept a rows s a.tag a.value a.pending a.votes a.logged a.durable a.turns a.acts a.end inside
    (subst HasForm (sym there) (suspected_form (replica_inside a) j inside.form in_view may))
    (rest ∙ ap (λ (x : Suspicion). record x { suspects = s.suspects }) inside.suspicion
    ∙ ap (λ (m : ℕ). record { me = m; members = a.members; suspects = s.suspects })
    (sym (ap (λ (r : Replica). r.rows.me) there)))
    (subst (λ (q : Replica). least_seen (replica_inside a) RECEIVED_COLUMN ≤ least_seen q RECEIVED_COLUMN) (sym there)
    (suspected_received (replica_inside a) j inside.form in_view may)) inside.votes

-- ---- votes

-- the member that it has promised, as it is read
pub promise_read : (a : Inside) (now : Replica) (rest p : ℕ) → IsInsideReplica a → replica_inside a ≡ now
    → replica.is_wedged now ≡ true → rest ≡ without a.suspects.members a.suspects.suspects
    → slice_get (members_of rest) 0 ≡ Some p → p ≡ replica.promise now
promise_read a now rest p inside same wedged left there = least_read (without a.members a.suspects.suspects) p
    (subst (λ (x : ℕ). slice_get (members_of x) 0 ≡ Some p)
    (left ∙ ap (λ (x : ℕ). without x a.suspects.suspects) members) there) ∙ sym promised ∙ ap replica.promise same
  where
    members : a.suspects.members ≡ a.members
    members = ap (λ (x : Suspicion). x.members) inside.suspicion

    here : replica.is_wedged (replica_inside a) ≡ true
    here = ap replica.is_wedged same ∙ wedged

    promised : replica.promise (replica_inside a) ≡ masks.least_of (without a.members a.suspects.suspects)
    promised = rw here refl

-- the fields are those of the replica that has voted
pub voted_after : (a : Inside) (now : Replica) (v : Value) (x : Vote) (votes : List Vote) → replica_inside a ≡ now
    → x ≡ vote_of now v → votes ≡ a.votes.items ++ x ∷ []
    → record (replica_inside a) { pending = Some x; votes = votes } ≡ voted (replica_inside a) v
voted_after a now v x votes same vote more =
    ap (λ (xs : List Vote). record (replica_inside a) { pending = Some x; votes = xs }) more
    ∙ ap (λ (y : Vote). record (replica_inside a) { pending = Some y; votes = a.votes.items ++ y ∷ [] })
    (vote ∙ ap (λ (r : Replica). vote_of r v) (sym same))

pub votes_kept : (a : Inside) (pending : Option Vote) (votes : _) → IsInsideReplica a
    → a.shape.banks * a.shape.members ≤ vec_capacity votes
    → HasForm (replica_inside (record a { pending = pending; votes = votes }))
    → IsInsideReplica (record a { pending = pending; votes = votes })
votes_kept a pending votes inside room form =
    fields_kept a a.rows a.suspects a.tag a.value pending votes a.logged a.durable a.turns a.acts a.end inside
    form inside.suspicion (omega arith) room

-- the fields are those of the replica that has accepted the value of the vote that waits
pub accepted_after : (a : Inside) (x : Vote) (rows : Words) → a.pending ≡ Some x
    → rows ≡ rewritten a.rows (accepted_word a.shape.members a.members (x.ballot + 1) x.value)
    → record (replica_inside a) { rows = rows; tag = x.ballot + 1; value = x.value; pending = None }
    ≡ accepted (replica_inside a)
accepted_after a x rows waits words =
    ap (λ (w : Words). record (replica_inside a)
    { rows = w; tag = x.ballot + 1; value = x.value; pending = None }) words
    ∙ ap (λ (y : Vote). record (replica_inside a) {
      rows = rewritten a.rows (accepted_word a.shape.members a.members (y.ballot + 1) y.value);
      tag = y.ballot + 1;
      value = y.value;
      pending = None;
    }) (sym (ap (λ (o : Option Vote). unwrap_or o no_vote) waits))

pub accepted_kept : (a : Inside) (x : Vote) (rows : Words) → IsInsideReplica a → a.pending ≡ Some x
    → record (replica_inside a) { rows = rows; tag = x.ballot + 1; value = x.value; pending = None }
    ≡ accepted (replica_inside a)
    → IsInsideReplica (record a { rows = rows; tag = x.ballot + 1; value = x.value; pending = None })
accepted_kept a x rows inside waits there =
    fields_kept a rows a.suspects (x.ballot + 1) x.value None a.votes a.logged a.durable a.turns a.acts a.end
    inside (subst HasForm (sym there) (accepted_form (replica_inside a) x inside.form waits))
    (same_suspicion a rows inside (ap (λ (r : Replica). r.rows.me) there))
    (subst (λ (q : Replica). least_seen (replica_inside a) RECEIVED_COLUMN ≤ least_seen q RECEIVED_COLUMN) (sym there)
    (accepted_received (replica_inside a) x inside.form waits)) inside.votes
