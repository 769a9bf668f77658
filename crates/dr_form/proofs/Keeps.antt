-- Each act of a replica keeps its form, and its words grow.
use Rattle.std.proofs.Common.{◌≡◌, ℕ, ◌+◌, ◌<◌, ◌≤◌, true, List, [], ◌∷◌, ◌++◌, length, get_or, set, not, nat_lt, ◌&&◌, refl, sym, ap, ◌∙◌, arith, le_trans}
use Rattle.std.proofs.lemmas.Bool.{and_parts, ltb-true, not-true, Decides.nat_tests}
use Rattle.std.proofs.lemmas.{List.{length_push, get_or-set_same}, Option.slice_get-get_or}
use Rattle.dr_entry.specs.declared.{end.SentItem.{SentItem, TheVariants.Index}, entry.Item.TheVariants.{Null, Text}}
use Rattle.dr_entry.{specs.declared.entry.Item.Item, proofs.{ListPlaces.behind_some, Records.none_waits}}
use Rattle.dr_entry.specs.declared.end.SentItem.TheVariants as sent_items
use Rattle.dr_ring.specs.Slots.{slot_column, is_free, with_item}
use Rattle.dr_ring.proofs.OwnPuts.{table_put, put_left, put_tags, put_grown}
use Rattle.dr_words.{specs.{Grown.Grown, declared.column.TheConstants.RECEIVED_COLUMN}, proofs.Order.Grown_trans}
use Rattle.dr_machine.specs.declared.{event.Act.Act, step.Step.TheVariants.Do}
use Rattle.dr_machine.proofs.Sending.{next_message, next_null, only_messages}
use Rattle.dr_program.{specs.{Acts.{may, taken}, Form.HasForm}, proofs.Finishing.finished_form}
use Rattle.dr_program.specs.Replica.{Replica, me, count, greatest, is_inside, is_others, is_own, is_wedged, may_finish, may_suspect, least_seen, may_deliver, is_behind, may_receive, may_send, may_null, next_index, acted, put, suspected, accepted, decided}
use Rattle.dr_program.proofs.{Accepting.{accepted_form, decided_form, others_wait, own_waits}, Replicas.greatest_most}
use Rattle.dr_program.proofs.Keeps.{slot_free, table_of, me_within, IsPutting, gained_keeps, acted_keeps, acted_grown, gained_grown, beaten_keeps, ended_keeps, reported_keeps, delivered_keeps, published_keeps, marked_keeps, received_keeps, published_grown, marked_grown, received_grown, accepting_grown}
use Rattle.dr_program.proofs.{Least.{grown_received, unstamped}, Wedging.{suspected_form, suspected_grown}}
use Rattle.dr_program.specs.Steps as steps
use Rattle.dr_machine.specs.declared.event.Act.TheVariants as acts
use Rattle.dr_form.specs.Puts.{MayPut}

-- ---- putting

-- the message that it sends next
abbrev pub message_to_send : Replica → Item
message_to_send r = Text (get_or r.messages (next_index r) [])

-- a member that may send may put its next message
pub sending : (r : Replica) → HasForm r → may_send r ≡ true → MayPut r (Index (next_index r)) (message_to_send r)
sending r f may =
    let i : ℕ = next_index r in
    let both = and_parts (not (is_wedged r)) _ may in
    let two = and_parts (nat_lt i (length r.messages)) (is_free r.window r.rows r.members (count r (me r))) both.1 in
    let left : i < length r.messages = ltb-true i (length r.messages) two.0 in
    let there = slice_get-get_or r.messages i [] left in
    let all = only_messages r.base (length r.messages) r.sent f.order left in
    record {
      unwedged = not-true (is_wedged r) both.0;
      ranges = (f.short i (get_or r.messages i []) there, f.bytes i (get_or r.messages i []) there);
      room = omega (arith, left, f.messages, greatest_most r.totals (me r), f.put, all);
      free = slot_free r f two.1;
      order = next_message r.base (length r.messages) r.sent f.order left;
    }

-- one that may put a null may put it
pub filling : (r : Replica) → HasForm r → may_null r ≡ true → MayPut r sent_items.Null Null
filling r f may =
    let all = and_parts (not (is_wedged r)) _ may in
    let two = and_parts (not (nat_lt (next_index r) (length r.messages))) _ all.1 in
    let three = and_parts (is_behind r) _ two.1 in
    record {
      unwedged = not-true (is_wedged r) all.0;
      ranges = tt;
      room = behind_some (count r (me r)) (greatest r.totals) r.counts f.bounded three.0;
      free = slot_free r f three.1;
      order = next_null r.base (length r.messages) r.sent f.order (grind (arith, nat_tests, two.0));
    }

-- what a member may put stands in words of its own
pub putting : (r : Replica) (name : SentItem) (item : Item) → HasForm r → MayPut r name item
    → IsPutting r (me r) (with_item r.window r.rows (count r (me r)) item).words (r.sent ++ name ∷ [])
putting r name item f may =
    let k : ℕ = count r (me r) in
    let mine : get_or (set r.counts (me r) (k + 1)) (me r) 0
    ≡ k + 1 = get_or-set_same r.counts (me r) (k + 1) 0 (omega (arith, me_within r f, f.counts)) in
    record {
      unwedged = may.unwedged;
      sender = me_within r f;
      room = may.room;
      table = table_put r.roster r.window r.rows k item (table_of r f) f.some_slot may.ranges;
      kept = λ c l. put_left r.roster r.window r.rows k item c (table_of r f) f.some_slot may.ranges l;
      ring = λ i part l. rw mine (put_tags r.roster r.window r.rows k item
          (slot_column r.roster r.window i + part) (table_of r f) f.some_slot may.ranges (f.ring i part l));
      put = length_push r.sent name ∙ ap (λ (n : ℕ). n + 1) f.put ∙ sym mine;
      order = may.order;
    }

-- putting it keeps a replica in form
pub put_form : (r : Replica) (name : SentItem) (item : Item) → HasForm r → MayPut r name item
    → HasForm (put r name item)
put_form r name item f may = gained_keeps r (me r) item (with_item r.window r.rows (count r (me r)) item).words
    (r.sent ++ name ∷ []) f (putting r name item f may)

-- and so does the act of putting it
pub put_keeps : (r : Replica) (name : SentItem) (item : Item) → HasForm r → MayPut r name item
    → HasForm (acted (put r name item))
put_keeps r name item f may = acted_keeps (put r name item) (put_form r name item f may)

-- no word falls by it
pub put_rises : (r : Replica) (name : SentItem) (item : Item) → HasForm r → is_inside r ≡ true → MayPut r name item
    → Grown r.roster r.rows.words (acted (put r name item)).rows.words r.rows.frozen
    (acted (put r name item)).rows.frozen
put_rises r name item f inside may =
    let words : List (List ℕ) = (with_item r.window r.rows (count r (me r)) item).words in
    Grown_trans r.roster r.rows.words (put r name item).rows.words
    (acted (put r name item)).rows.words r.rows.frozen r.rows.frozen r.rows.frozen
    (Grown_trans r.roster r.rows.words words (put r name item).rows.words r.rows.frozen r.rows.frozen r.rows.frozen
    (put_grown r.roster r.window r.rows (count r (me r)) item (table_of r f) f.some_slot may.ranges
    (λ part lt. f.ring (count r (me r)) part lt))
    (gained_grown r (me r) item words (r.sent ++ name ∷ []) f inside (putting r name item f may)))
    (acted_grown (put r name item) (put_form r name item f may))

-- ---- every act

-- each act that a replica may take keeps it in form
pub taken_keeps : (r : Replica) (a : Act) → HasForm r → steps.allows r (Do a) ≡ true
    → steps.is_free r (Do a) ≡ true → HasForm (taken r a)
taken_keeps r acts.Beat f m free = beaten_keeps r f
taken_keeps r (acts.Crash end) f m free = ended_keeps r end f
taken_keeps r (acts.Receive s) f m free = received_keeps r s f (and_parts (nat_lt s r.roster)
    (may_receive r s) (and_parts (is_inside r) (nat_lt s r.roster && may_receive r s) m).1).1
taken_keeps r acts.Send f m free = put_keeps r _ _ f (sending r f (and_parts (is_inside r) (may_send r) m).1)
taken_keeps r acts.Null f m free = put_keeps r _ _ f (filling r f (and_parts (is_inside r) (may_null r) m).1)
taken_keeps r acts.Deliver f m free =
    let two = and_parts (is_inside r) (may_deliver r) m in delivered_keeps r f two.0 two.1
taken_keeps r acts.Publish f m free = published_keeps r f
taken_keeps r acts.Report f m free = reported_keeps r f
taken_keeps r acts.Mark f m free = marked_keeps r f
taken_keeps r (acts.Suspect j) f m free =
    let two = and_parts (is_inside r) (may_suspect r j) m in
    acted_keeps (suspected r j) (suspected_form r j f two.0 two.1)
taken_keeps r acts.Propose f m free =
    let x = own_waits (me r) r.pending (and_parts (is_inside r) (is_own (me r) r.pending) m).1 in
    acted_keeps (accepted r) (accepted_form r x.0 f x.1)
taken_keeps r acts.Accept f m free =
    let x = others_wait (me r) r.pending (and_parts (is_inside r) (is_others (me r) r.pending) m).1 in
    acted_keeps (accepted r) (accepted_form r x.0 f x.1)
taken_keeps r acts.Commit f m free = acted_keeps (decided r) (decided_form r f)
taken_keeps r (acts.Halt end) f m free = ended_keeps r end f
taken_keeps r acts.Finish f m free =
    let two = and_parts (is_inside r) (may_finish r r.committed) m in
    finished_form (acted r) (acted_keeps r f) two.0 two.1 (none_waits r.pending free)

-- no word falls by an act that a replica may take, by which it stays in its view
pub taken_grown : (r : Replica) (a : Act) → HasForm r → steps.allows r (Do a) ≡ true → (taken r a).view ≡ r.view
    → Grown r.roster r.rows.words (taken r a).rows.words r.rows.frozen (taken r a).rows.frozen
taken_grown r (acts.Receive s) f m same =
    let two = and_parts (is_inside r) (nat_lt s r.roster && may_receive r s) m in
    received_grown r s f two.0 (and_parts (nat_lt s r.roster) (may_receive r s) two.1).1
taken_grown r acts.Send f m same =
    let two = and_parts (is_inside r) (may_send r) m in put_rises r _ _ f two.0 (sending r f two.1)
taken_grown r acts.Null f m same =
    let two = and_parts (is_inside r) (may_null r) m in put_rises r _ _ f two.0 (filling r f two.1)
taken_grown r acts.Publish f m same = published_grown r f
taken_grown r acts.Mark f m same = marked_grown r f
taken_grown r (acts.Suspect j) f m same =
    let two = and_parts (is_inside r) (may_suspect r j) m in
    Grown_trans r.roster r.rows.words (suspected r j).rows.words (acted (suspected r j)).rows.words
    r.rows.frozen (suspected r j).rows.frozen (suspected r j).rows.frozen (suspected_grown r j f two.0 two.1)
    (acted_grown (suspected r j) (suspected_form r j f two.0 two.1))
taken_grown r acts.Propose f m same =
    let x = own_waits (me r) r.pending (and_parts (is_inside r) (is_own (me r) r.pending) m).1 in
    accepting_grown r x.0 f x.1
taken_grown r acts.Accept f m same =
    let x = others_wait (me r) r.pending (and_parts (is_inside r) (is_others (me r) r.pending) m).1 in
    accepting_grown r x.0 f x.1
taken_grown r acts.Finish f m same = absurd (omega (arith, same))
taken_grown r a f m same = acted_grown r f

-- it doesn't fall where an item is put or received
pub put_received : (r : Replica) (name : SentItem) (item : Item) → HasForm r → is_inside r ≡ true → MayPut r name item
    → least_seen r RECEIVED_COLUMN ≤ least_seen (put r name item) RECEIVED_COLUMN
put_received r name item form inside may = le_trans (grown_received r (acted (put r name item)) r.rows.frozen
    (acted (put r name item)).rows.frozen refl (put_rises r name item form inside may)) (unstamped (put r name item))
