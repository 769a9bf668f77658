-- The history of a member that ends its view.
use Rattle.std.specs.Prelude.{unwrap_or, if◌then◌else◌, ◌&&◌, nat_lt}
use Rattle.std.proofs.Common.{◌≡◌, sym, ap, ◌∙◌, ℕ, ◌+◌, List, [], ◌∷◌, ◌++◌, append-nil, append_assoc, map, fold, slice_index, ◌-◌, length, take, le_refl, arith, ◌*◌, ◌<◌, ◌≤◌, true, None, ◌≢◌, false, ◌^◌, Bool, not, length-append, refl, Some, Option, subst}
use Rattle.std.proofs.{Math.{Nat.suc-mul, Seq.take-append_seam}, lemmas.Bool.{and_parts, ltb-true}}
use Rattle.std.proofs.lemmas.List.{take_all, length-replicate, length_push}
use Rattle.dr_entry.specs.{declared.entry.Entry.{Entry, TheVariants.View}, declared.record.Value.Value}
use Rattle.dr_entry.proofs.{ListPlaces.copy_at, NumberFacts.other_number}
use Rattle.dr_history.{specs.{Members.has, Order.messages_from, Places.rest_places}, proofs.Bits.has_zero}
use Rattle.dr_history.proofs.{Masks.has_within, Places.front_of_none}
use Rattle.dr_rows.{specs.Words.{begun, own}, proofs.WordsLemmas.{IsFresh-begun, IsWords-begun, IsWords-looked}}
use Rattle.dr_machine.{specs.{Effects.entries_of, World.no_value, declared.event.Act.Act}, proofs.Worlds.no_part}
use Rattle.dr_words.{specs.{Columns.recv_column, Masks.{next_members, IsInRoster}}, proofs.Layouts.first_in_form}
use Rattle.dr_words.specs.Packing.{accept_promise, accept_tag, accept_value, recv_word}
use Rattle.dr_words.specs.declared.column.TheConstants.{LOGGED_COLUMN, RECEIVED_COLUMN, SUSPECTED_COLUMN}
use Rattle.dr_words.proofs.{Accepts.accept_within, Masks.{with_member_small, has_next_members, next_members_within}}
use Rattle.dr_ring.specs.Slots.{slot_column}
use Rattle.dr_program.{specs.{Acts.taken, Form.{HasForm, waiting}}, proofs.{Opening.first_own, Voting.promise_within}}
use Rattle.dr_program.specs.Replica.{Replica, finished_history, item_of_place, members_in_view, sender_of_place, with_place, acted, finished, gave, LeftView, me, count, entered, greatest, finished_by, is_inside, left_now, may_end, may_finish}

-- places add to a history
rest_more : (r : Replica) (history : List Entry) (ps : List ℕ)
    → (more : List Entry) × (fold (with_place r) history ps ≡ history ++ more)
rest_more r history [] = ([], sym (append-nil history))
rest_more r history (p ∷ ps) =
    let new : List Entry = entries_of history (sender_of_place r p) (item_of_place r p) in
    let rest = rest_more r (history ++ new) ps in (new ++ rest.0, rest.1 ∙ append_assoc history new rest.0)

-- so does the end of a view
pub finished_more : (r : Replica) (x : Value) → (more : List Entry) × (finished_history r x ≡ r.history ++ more)
finished_more r x =
    let last : List Entry = View r.age (r.view + 1) (next_members r.members x.leavers) ∷ [] in
    let rest = rest_more r r.history (rest_places (map (λ s. slice_index x.trim s) (members_in_view r)) r.next) in
    (rest.0 ++ last, ap (λ es. es ++ last) rest.1 ∙ append_assoc r.history rest.0 last)

-- the history begins as before: at the end of a view too
pub begins_so : (r : Replica) (a : Act) → take (length r.history) (taken r a).history ≡ r.history
begins_so r a = grind (arith, itself, take-append_seam {A = Entry}, ended)
  where
    itself : (h : List Entry) → take (length h) h ≡ h
    itself h = take_all (length h) h (le_refl _)

    ended : take (length r.history) (finished (acted r)).history ≡ r.history
    ended = let all = finished_more (acted r) (unwrap_or r.committed no_value) in
        ap (take (length r.history)) all.1 ∙ take-append_seam r.history all.0

-- having given a letter keeps a replica in form
pub gave_form : (r : Replica) (j : ℕ) → HasForm r → HasForm (gave r j)
gave_form r j f = record {
  rows = f.rows;
  members = f.members;
  columns = f.columns;
  words = f.words;
  some_slot = f.some_slot;
  most_slots = f.most_slots;
  number = f.number;
  trusted = f.trusted;
  named = f.named;
  frozen = f.frozen;
  bank = f.bank;
  left = f.left;
  roster = f.roster;
  late = f.late;
  outside = λ e. let o = f.outside e in
      record { late = o.late; first = o.first; trusting = o.trusting; none = o.none; idle = o.idle; all = o.all };
  counts = f.counts;
  bounded = f.bounded;
  few = f.few;
  items = f.items;
  suspected = f.suspected;
  recv = f.recv;
  accept = f.accept;
  tagged = f.tagged;
  valued = f.valued;
  low = f.low;
  decided = f.decided;
  given = with_member_small r.given j;
  waits = f.waits;
  votes = f.votes;
  received = f.received;
  beat = f.beat;
  acts = f.acts;
  published = f.published;
  ring = f.ring;
  messages = f.messages;
  short = f.short;
  bytes = f.bytes;
  put = f.put;
  order = f.order;
  logged = f.logged;
  room = f.room;
  small = f.small;
}

-- a replica may go on in a view of these members with this history, and keep this of the views before
pub record MayEnter (r : Replica) (view members : ℕ) (history : List Entry) (left : List LeftView) : Type 0 where
  pub none : r.pending ≡ None
  pub bank : view < r.banks
  pub kept : length left ≡ view
  pub roster : IsInRoster r.roster members
  pub inside : has members (me r) ≡ true
  pub room : length history ≤ r.room
  pub base : length (messages_from (me r) history) ≤ length r.messages
  pub grows : r.logged ≤ length history
  pub votes : length r.votes ≤ view * r.roster

pub entered_form : (r : Replica) (view members : ℕ) (history : List Entry) (left : List LeftView) → HasForm r
    → MayEnter r view members history left → HasForm (entered r view members history left)
entered_form r view members history left f may =
    let n : ℕ = r.roster in
    let k : ℕ = r.rows.columns in
    let q : Replica = entered r view members history left in
    let few : r.rows.members ≤ 16 = f.rows.few in
    let inside : me r < r.rows.members = f.rows.present in
    let low : LOGGED_COLUMN < k = omega (arith, f.columns) in
    let word : (c : ℕ) → c ≢ LOGGED_COLUMN → own q.rows c ≡ 0 =
    λ c other. first_own r.rows.members k (me r) r.logged c few f.rows.narrow inside low
    ∙ ap (λ b. if b then r.logged else 0) (other_number c LOGGED_COLUMN other) in
    let zero : (i : ℕ) → count q i ≡ 0 = copy_at {X = ℕ} n 0 in
    record {
      rows = IsWords-looked (begun r.rows.members k (me r)) (me r) LOGGED_COLUMN r.logged
          (IsWords-begun r.rows.members k (me r) few f.rows.narrow inside) inside;
      members = f.members;
      columns = f.columns;
      words = first_in_form r.rows.members k (me r) r.logged (omega (arith, inside));
      some_slot = f.some_slot;
      most_slots = f.most_slots;
      number = f.number;
      trusted = has_zero (me r);
      named = λ i there. absurd (grind (arith, has_zero i, there));
      frozen = λ i. (IsFresh-begun r.rows.members k (me r)).unfrozen i ∙ sym (has_zero i);
      suspected = word SUSPECTED_COLUMN (omega arith);
      bank = may.bank;
      left = may.kept;
      roster = may.roster;
      late = f.late;
      outside = λ e. absurd (cc (may.inside, e));
      counts = length-replicate n 0;
      bounded = λ i. omega (arith, zero i);
      few = f.few;
      items = length-replicate (greatest r.totals * n) _;
      recv = λ i l. word (recv_column i) (omega arith) ∙ sym (ap (λ x. recv_word x false) (zero i));
      accept = λ c is. ap accept_promise (word c (λ e. omega (arith, accept_within n q.members c is, e)));
      tagged = λ c is. ap accept_tag (word c (λ e. omega (arith, accept_within n q.members c is, e)));
      valued = λ c is. ap accept_value (word c (λ e. omega (arith, accept_within n q.members c is, e)))
          ∙ sym (no_part n c);
      low = omega arith;
      decided = λ x e. absurd (cc e);
      given = omega arith;
      waits = λ v e. absurd (cc (may.none, e));
      votes = omega (arith, may.votes);
      received = word RECEIVED_COLUMN (omega arith) ∙ sym (front_of_none n (members_in_view q));
      beat = omega (arith, word 0 (omega arith));
      acts = f.acts;
      published = omega (
        arith,
        first_own r.rows.members k (me r) r.logged LOGGED_COLUMN few f.rows.narrow inside low,
      );
      ring = λ i part l. let none_there = word (slot_column n r.window i + part) (omega arith) in
          omega (arith, none_there);
      messages = f.messages;
      short = f.short;
      bytes = f.bytes;
      put = sym (zero (me r));
      order = record {
        index = λ j l. absurd (omega (arith, l));
        left = omega (arith, may.base);
        nulls = λ l. absurd (omega (arith, l));
      };
      logged = may.grows;
      room = may.room;
      small = f.small;
    }

-- ending its view with a value that it may end it with keeps a replica in form, where no vote waits
finished_by_form : (r : Replica) (x : Value) → HasForm r → is_inside r ≡ true → x.leavers < 2 ^ r.roster
    → may_end r x ≡ true → r.pending ≡ None → HasForm (finished_by r x)
finished_by_form r x f inside named may none =
    let q : Replica = finished_by r x in
    let stays = and_parts (not (has x.leavers (me r))) _ may in
    let bank = and_parts (nat_lt (r.view + 1) r.banks) _ stays.1 in
    let there = and_parts _ (nat_lt (length q.history) (r.room + 1) && nat_lt q.base
    (length r.messages + 1)) bank.1 in
    let fits = and_parts (nat_lt (length q.history) (r.room + 1)) (nat_lt q.base (length r.messages + 1)) there.1 in
    let room : length q.history ≤ r.room = omega (arith, ltb-true (length q.history) (r.room + 1) fits.0) in
    let base : q.base ≤ length r.messages = omega (arith, ltb-true q.base (length r.messages + 1) fits.1) in
    let more = finished_more r x in
    let grows : length q.history ≡ length r.history + length more.0 = ap length more.1
    ∙ length-append r.history more.0 in
    entered_form r (r.view + 1) (next_members r.members x.leavers) (finished_history r x)
    (r.left ++ left_now r ∷ []) f (record {
      none = none;
      bank = ltb-true (r.view + 1) r.banks bank.0;
      kept = length_push r.left _ ∙ ap (λ (v : ℕ). v + 1) f.left;
      roster = λ i is. next_within i is (has r.members i) refl;
      inside = has_next_members r.members x.leavers (me r) (omega (arith, f.number, f.members, f.rows.few))
          ∙ stays_in (has r.members (me r)) (has x.leavers (me r)) inside stays.0;
      room = room;
      base = base;
      grows = omega (arith, f.logged, grows);
      votes = omega (arith, f.votes, f.low, promise_within r f, suc-mul r.view r.roster, ap waiting none);
    })
  where
    stays_in : (a b : Bool) → a ≡ true → not b ≡ true → (if b then not a else a) ≡ true
    stays_in a true e d = absurd (cc d)
    stays_in a false e d = e

    next_within : (i : ℕ) → has (next_members r.members x.leavers) i ≡ true → (b : Bool) → has r.members i ≡ b
        → i < r.roster
    next_within i is true e = f.roster i e
    next_within i is false e =
        let low : i < 16 = next_members_within r.members x.leavers i is in
        has_within x.leavers r.roster i named (newly (has x.leavers i) (has r.members i) e
        (sym (has_next_members r.members x.leavers i low) ∙ is))
      where
        newly : (b a : Bool) → a ≡ false → (if b then not a else a) ≡ true → b ≡ true
        newly true a e t = refl
        newly false a e t = absurd (cc (e, t))

-- so does ending it with the value that it has committed
pub finished_form : (r : Replica) → HasForm r → is_inside r ≡ true → may_finish r r.committed ≡ true
    → r.pending ≡ None → HasForm (finished r)
finished_form r f inside may none = by r.committed refl may
  where
    by : (o : Option Value) → r.committed ≡ o → may_finish r o ≡ true → HasForm (finished r)
    by None e m = absurd (cc m)
    by (Some x) e m = subst (λ (o : Option Value). HasForm (finished_by r (unwrap_or o no_value))) (sym e)
        (finished_by_form r x f inside (f.decided x e) m none)
