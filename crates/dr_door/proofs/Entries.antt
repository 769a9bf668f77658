-- What a member delivers is valid, whatever words it has seen.
use Rattle.std.specs.{List.{list_all, range_with_len}, Prelude.{All, slice_set, unwrap_or, not, Option, None, Some}}
use Rattle.std.proofs.Common.{◌≡◌, ◌⊎◌, ◌∙◌, inl, inr, refl, sym, ap, subst, ℕ, ◌+◌, ◌*◌, ◌%◌, ◌/◌, ◌<◌, ◌≤◌, ◌==◌, ◌&&◌, ◌||◌, nat_le, Bool, true, false, if◌then◌else◌, List, [], ◌∷◌, ◌++◌, fold, length, map, slice_index, slice_index_or, take, length-take, arith}
use Rattle.std.proofs.lemmas.Bool.{and_parts, cases_Bool, cases_lt, cond-false, cond-true, leb-true, not-true}
use Rattle.std.proofs.lemmas.List.{get_or_past, Elements.{All-append, All-cons, All-nil, All-replicate, All-set}}
use Rattle.dr_entry.specs.{Spelling.IsValidEntry, declared.entry.{Entry.{Entry, TheVariants.{Msg, View}}, Item.Item}}
use Rattle.dr_entry.specs.declared.{entry.Item.TheVariants.{Null, Text}, limits.TheConstants.MAX_MESSAGE_LENGTH}
use Rattle.dr_entry.specs.declared.record.Value.{Value}
use Rattle.dr_form.proofs.Keeps.{sending}
use Rattle.dr_history.{specs.{Members.has, Order.messages_from, Places.rest_places}, proofs.Bits.has_zero}
use Rattle.dr_machine.specs.{Effects.entries_of, World.no_value, declared.{event.Act.Act, step.Step.Step}}
use Rattle.dr_machine.specs.declared.step.Step.TheVariants.{Do}
use Rattle.dr_machine.specs.declared.event.Act.TheVariants as acts
use Rattle.dr_program.{specs.{Acts.taken, Form.HasForm, Steps.{allows, stepped}}, proofs.Keeps.acted_keeps}
use Rattle.dr_program.specs.Replica.{Replica, acted, count, finished_history, greatest, is_inside, item_of_place, may_finish, may_send, me, members_in_view, next_index, ready_item, sender_of_place, with_place}
use Rattle.dr_ring.specs.{Pieces.{bytes_of, is_head, item_of, null_mark, body_len}, Slots.{is_of, item_in, slot_of}}
use Rattle.dr_words.{specs.{Masks.next_members, Packing.ring_low}, proofs.Masks.{has_next_members, member_below}}
use Rattle.dr_door.specs.Inside.{IsShort}

-- ---- items

short_of : (head : ℕ) (body : List ℕ) → is_head head ≡ true → IsShort (item_of head body)
short_of head body is = by (head == null_mark) refl
  where
    by : (b : Bool) → (head == null_mark) ≡ b → IsShort (if b then Null else Text (take head (bytes_of body)))
    by true e = tt
    by false e =
        let low : head ≤ MAX_MESSAGE_LENGTH =
        leb-true head MAX_MESSAGE_LENGTH (sym (ap (λ b. b || nat_le head MAX_MESSAGE_LENGTH) e) ∙ is) in
        omega (arith, length-take head (bytes_of body), low)

-- an item that is read is short, whatever the words are
item_short : (k : ℕ) (slot : ℕ → ℕ) → IsShort (unwrap_or (item_in k slot) Null)
item_short k slot = by (cases_Bool whole)
  where
    head : ℕ
    head = ring_low (slot 0)

    body : List ℕ
    body = map slot (range_with_len 1 (body_len head))

    whole : Bool
    whole = is_of k (slot 0) && (is_head head && list_all (is_of k) body)

    item : Item
    item = item_of head (map ring_low body)

    by : (whole ≡ true) ⊎ (whole ≡ false) → IsShort (unwrap_or (item_in k slot) Null)
    by (inl t) =
        let rest = and_parts (is_of k (slot 0)) (is_head head && list_all (is_of k) body) t in
        let is = and_parts (is_head head) (list_all (is_of k) body) rest.1 in
        subst (λ o. IsShort (unwrap_or o Null)) (sym (cond-true whole (Some item) None t))
        (short_of head (map ring_low body) is.0)
    by (inr f) = subst (λ o. IsShort (unwrap_or o Null)) (sym (cond-false whole (Some item) None f)) tt

item_at : (items : List Item) (k : ℕ) → All IsShort items → IsShort (slice_index_or items k Null)
item_at items k short = by (cases_lt k (length items))
  where
    by : (k < length items) ⊎ (length items ≤ k) → IsShort (slice_index_or items k Null)
    by (inl l) = short k Null l
    by (inr l) = subst IsShort (sym (get_or_past items k Null l)) tt

-- ---- entries

add_entry : (es : List Entry) (s : ℕ) (item : Item) → s < 16 → IsShort item → All IsValidEntry es
    → All IsValidEntry (es ++ entries_of es s item)
add_entry es s Null l short valid = All-append IsValidEntry es [] valid (All-nil IsValidEntry)
add_entry es s (Text bytes) l short valid = All-append IsValidEntry es (Msg s (length (messages_from s es)) bytes ∷ [])
    valid (All-cons IsValidEntry (Msg s (length (messages_from s es)) bytes) [] (l, short) (All-nil IsValidEntry))

-- the replica's senders are members that a roster can have
module _ (r : Replica) (form : HasForm r) (short : All IsShort r.items) where
  sender_small : (p : ℕ) → sender_of_place r p < 16
  sender_small p = omega (
    arith,
    member_below r.roster r.members (p % length (members_in_view r)) (omega (arith, form.number)) form.roster,
    form.rows.few,
    form.members,
  )

  add_place : (es : List Entry) (p : ℕ) → All IsValidEntry es → All IsValidEntry (with_place r es p)
  add_place es p valid = add_entry es (sender_of_place r p) (item_of_place r p) (sender_small p)
      (item_at r.items (p / length (members_in_view r) * r.roster + sender_of_place r p) short) valid

  add_places : (es : List Entry) (ps : List ℕ) → All IsValidEntry es → All IsValidEntry (fold (with_place r) es ps)
  add_places es [] valid = valid
  add_places es (p ∷ ps) valid = add_places (with_place r es p) ps (add_place es p valid)

  -- a member that stays as it ends its view is in the next one
  add_view : (x : Value) → is_inside r ≡ true → has x.leavers (me r) ≡ false → All IsValidEntry r.history
      → All IsValidEntry (finished_history r x)
  add_view x inside stays valid = All-append IsValidEntry
      (fold (with_place r) r.history (rest_places (map (λ s. slice_index x.trim s) (members_in_view r)) r.next))
      (View r.age (r.view + 1) (next_members r.members x.leavers) ∷ [])
      (add_places r.history (rest_places (map (λ s. slice_index x.trim s) (members_in_view r)) r.next) valid)
      (All-cons IsValidEntry (View r.age (r.view + 1) (next_members r.members x.leavers)) [] some
      (All-nil IsValidEntry))
    where
      small : me r < 16
      small = omega (arith, form.number, form.rows.few, form.members)

      there : has (next_members r.members x.leavers) (me r) ≡ true
      there = has_next_members r.members x.leavers (me r) small
          ∙ cond-false (has x.leavers (me r)) (not (has r.members (me r))) (has r.members (me r)) stays ∙ inside

      some : 0 < next_members r.members x.leavers
      some = by (cases_lt 0 (next_members r.members x.leavers))
        where
          by : (0 < next_members r.members x.leavers) ⊎ (next_members r.members x.leavers ≤ 0)
              → 0 < next_members r.members x.leavers
          by (inl l) = l
          by (inr l) =
              let none : next_members r.members x.leavers ≡ 0 = omega (arith, l) in
              absurd (cc (sym there ∙ ap (λ m. has m (me r)) none ∙ has_zero (me r)))

-- ---- steps

abbrev pub AreValid : Replica → Type 0
AreValid r = All IsValidEntry r.history × All IsShort r.items

gains : (r : Replica) (k : ℕ) (item : Item) → IsShort item → AreValid r
    → All IsValidEntry r.history × All IsShort (slice_set r.items k item)
gains r k item is valid = (valid.0, All-set IsShort r.items k item is valid.1)

taken_valid : (r : Replica) (a : Act) → HasForm r → allows r (Do a) ≡ true → AreValid r → AreValid (taken r a)
taken_valid r (acts.Receive s) form is valid = gains r (count r s * r.roster + s)
    (unwrap_or (ready_item r s) Null) (item_short (count r s) (slot_of r.window r.rows s (count r s))) valid
taken_valid r acts.Send form is valid = gains r (count r (me r) * r.roster + me r)
    (Text (slice_index_or r.messages (next_index r) []))
    (sending r form (and_parts (is_inside r) (may_send r) is).1).ranges.0 valid
taken_valid r acts.Null form is valid = gains r (count r (me r) * r.roster + me r) Null tt valid
taken_valid r acts.Deliver form is valid = (add_place r form valid.1 r.history r.next valid.0, valid.1)
taken_valid r acts.Finish form is valid = by r.committed refl
  where
    both : (is_inside r ≡ true) × (may_finish r r.committed ≡ true)
    both = and_parts (is_inside r) (may_finish r r.committed) is

    by : (o : Option Value) → r.committed ≡ o → AreValid (taken r acts.Finish)
    by None none = absurd (cc (sym (ap (may_finish r) none) ∙ both.1))
    by (Some x) some = (
      subst (λ o. All IsValidEntry (finished_history (acted r) (unwrap_or o no_value))) (sym some)
          (add_view (acted r) (acted_keeps r form) valid.1 x both.0 (not-true (has x.leavers (me r))
          (and_parts (not (has x.leavers (me r))) _ (sym (ap (may_finish r) some) ∙ both.1)).0) valid.0),
      All-replicate IsShort (greatest r.totals * r.roster) Null tt,
    )
taken_valid r a form is valid = valid

-- whatever a member does, and sees
pub step_valid : (word : ℕ) (r : Replica) (s : Step) → HasForm r → allows r s ≡ true → AreValid r
    → AreValid (stepped word r s)
step_valid word r (Do a) form is valid = taken_valid r a form is valid
step_valid word r s form is valid = valid

-- ---- letters
