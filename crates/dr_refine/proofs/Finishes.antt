-- A member that ends its view: when it may, and what it makes of the world.
use Rattle.std.specs.{List.list_all, Prelude.{Option, None, Some, nat_lt, unwrap_or}}
use Rattle.std.proofs.Common.{◌≡◌, ◌≢◌, refl, sym, ap, ◌∙◌, ◌↔◌, subst, ℕ, ◌+◌, ◌*◌, ◌%◌, ◌<◌, ◌≤◌, ◌==◌, inl, inr, not, Bool, true, false, if◌then◌else◌, List, [], ◌∷◌, ◌++◌, length, map, fold, take, slice_index, slice_index_or, arith, set-set}
use Rattle.std.proofs.{Math.Path.fun_ext, lemmas.Bool.{and_from, and_parts, cases_eq, Decides.nat_tests}}
use Rattle.std.proofs.lemmas.{List.{get_or_past, length-take-le, take-append-le}, Option.none-some}
use Rattle.dr_entry.specs.declared.entry.{Entry.TheVariants.View, Item.{Item, TheVariants.Null}}
use Rattle.dr_entry.{specs.declared.record.Value.Value, proofs.{BoolFacts.both_same, Items.item_shown}}
use Rattle.dr_entry.proofs.{ListPlaces.copy_at, NumberFacts.{same_number, other_number}}
use Rattle.dr_history.specs.{Members.{has, members_of}, Order.messages_from, Places.rest_places}
use Rattle.dr_history.proofs.Tests.{all_members}
use Rattle.dr_rows.specs.Words.{Words, begun, own, with_own}
use Rattle.dr_words.{specs.Masks.{IsInRoster, next_members}, proofs.{Masks.member_below, Tests.each_member}}
use Rattle.dr_words.{specs.declared.column.TheConstants.{BEAT_COLUMN, LOGGED_COLUMN}, proofs.Layouts.first_seen}
use Rattle.dr_machine.specs.Effects.{committed_value, entries_of, finishes, finishes_by, one_more, stamped_in}
use Rattle.dr_machine.specs.{Group.{Group, roster}, Guards.CanFinish, World.{World, items_received, no_value}}
use Rattle.dr_machine.{specs.Writes.at₂, proofs.Writes.at_same}
use Rattle.dr_machine.specs.Effects as effects
use Rattle.dr_program.{specs.Presence.{present_at, with_present}, proofs.Replicas.{kept_last, kept_other}}
use Rattle.dr_program.{specs.Reading.{Shared, kept_word, world_of}, proofs.Present.{present_within, present_set}}
use Rattle.dr_program.specs.Replica.{LeftView, Replica, me, acted, count, finished, finished_by, finished_history, item_of_place, left_now, may_end, may_finish, nothing_left, sender_of_place, members_in_view, with_place}
use Rattle.dr_program.proofs.{Finishing.finished_more, Opening.first_own}
use Rattle.dr_program.proofs.Holdings.{Holding, held, holding_of, held_of, replaced, place_from, history_from, finish_after, finish_changes}
use Rattle.dr_faithful.proofs.{Copies.{Fits, fits_own}, Finishes.stamped_first}
use Rattle.dr_refine.{specs.Programs.{IsMember, acted_table}, proofs.Guards.{IsIdle, count_is, may_choose}}
use Rattle.dr_refine.proofs.Members.{acted_world, fits}

-- ---- when it may

-- it ends its view exactly where that may come, and it has room
pub finish_guard : (g : Group) (rs : List (Option Replica)) (table : Shared) (m : ℕ) (r : Replica)
    → IsMember g rs table m r → IsIdle r → (may_finish r r.committed ≡ true) ↔ (CanFinish g (world_of g rs table) m
    × (length (finished r).history ≤ r.room) × ((finished r).base ≤ length r.messages))
finish_guard g rs table m r is free = by r.committed refl
  where
    w : World
    w = world_of g rs table

    committed : w.committed m ≡ r.committed
    committed = ap (λ h. h.committed) (held_of g rs table m r is.there)

    members : w.members m ≡ r.members
    members = ap (λ h. h.members) (held_of g rs table m r is.there)

    view : w.past.view m ≡ r.view
    view = ap (λ h. h.view) (held_of g rs table m r is.there)

    same : (x y : Value) → Some x ≡ Some y → x ≡ y
    same x y e = cc e

    flip : (b : Bool) → not b ≡ true → b ≡ false
    flip true e = absurd (cc e)
    flip false e = refl

    back : (b : Bool) → b ≡ false → not b ≡ true
    back true e = absurd (cc e)
    back false e = refl

    history : (x : Value) → r.committed ≡ Some x → finished_history r (unwrap_or r.committed no_value)
        ≡ finished_history r x
    history x e = ap (λ o. finished_history r (unwrap_or o no_value)) e

    few : r.roster ≤ 16
    few = omega (arith, is.of.members, is.group.most_members)

    forth : (x : Value) → r.committed ≡ Some x → may_end r x ≡ true
        → CanFinish g w m × (length (finished_history r (unwrap_or r.committed no_value)) ≤ r.room)
        × (length (messages_from (me r) (finished_history r (unwrap_or r.committed no_value))) ≤ length r.messages)
    forth x e test =
        let a = and_parts (not (has x.leavers (me r))) _ test in
        let b = and_parts (nat_lt (r.view + 1) r.banks) _ a.1 in
        let c = and_parts (list_all (λ s. nat_lt (slice_index x.trim s) (count r s + 1)) (members_in_view r)) _ b.1 in
        let bank : r.view + 1 < r.banks = grind (arith, nat_tests, b.0) in
        let d = and_parts (nat_lt (length (finished_history r x)) (r.room + 1)) _ c.1 in
        let room : length (finished_history r x) < r.room + 1 = grind (arith, nat_tests, d.0) in
        let own : length (messages_from (me r) (finished_history r x)) < length r.messages + 1 =
        grind (arith, nat_tests, d.1) in (
          record {
            may = may_choose g rs table m r is free;
            value = x;
            committed = committed ∙ e;
            stays = ap (has x.leavers) (sym is.of.number) ∙ flip _ a.0;
            bank = omega (arith, view, bank, is.of.banks);
            items = λ s h.
                let test = each_member (λ s. nat_lt (slice_index x.trim s) (count r s + 1)) r.roster r.members few
                is.form.roster c.0 s (ap (λ k. has k s) (sym members) ∙ h) in
                let below : slice_index x.trim s < count r s + 1 = grind (arith, nat_tests, test) in
                omega (arith, below, count_is g rs table m r s is);
          },
          omega (arith, room, ap length (history x e)),
          omega (arith, own, ap (λ es. length (messages_from (me r) es)) (history x e)),
        )

    from : (x : Value) → r.committed ≡ Some x → CanFinish g w m
        → length (finished_history r (unwrap_or r.committed no_value)) ≤ r.room → length (messages_from (me r)
        (finished_history r (unwrap_or r.committed no_value))) ≤ length r.messages → may_end r x ≡ true
    from x e can room few =
        let one : can.value ≡ x = same can.value x (sym can.committed ∙ committed ∙ e) in
        let bank : r.view + 1 < r.banks = omega (arith, view, can.bank, is.of.banks) in
        let rooms : length (finished_history r x) < r.room + 1 = omega (arith, room, ap length (history x e)) in
        let mine : length (messages_from (me r) (finished_history r x)) < length r.messages + 1 =
        omega (arith, few, ap (λ es. length (messages_from (me r) es)) (history x e)) in
        and_from _ _
        (back _ (ap (has x.leavers) is.of.number ∙ subst (λ (y : Value). has y.leavers m ≡ false) one can.stays))
        (and_from _ _ (grind (arith, nat_tests, bank)) (and_from _ _
        (all_members (λ s. nat_lt (slice_index x.trim s) (count r s + 1)) r.members (λ s h. below s (omega (
          arith,
          subst (λ (y : Value). slice_index y.trim s ≤ items_received w m s) one
              (can.items s (ap (λ k. has k s) members ∙ h)),
          count_is g rs table m r s is,
        ))))
        (and_from (nat_lt (length (finished_history r x)) (r.room + 1))
        (nat_lt (length (messages_from (me r) (finished_history r x))) (length r.messages + 1))
        (grind (arith, nat_tests, rooms)) (grind (arith, nat_tests, mine)))))
      where
        below : (s : ℕ) → slice_index x.trim s < count r s + 1 → nat_lt (slice_index x.trim s) (count r s + 1) ≡ true
        below s l = grind (arith, nat_tests, l)

    by : (o : Option Value) → r.committed ≡ o → (may_finish r o ≡ true)
        ↔ (CanFinish g w m × (length (finished_history r (unwrap_or r.committed no_value)) ≤ r.room)
        × (length (messages_from (me r) (finished_history r (unwrap_or r.committed no_value))) ≤ length r.messages))
    by None e = (
      λ test. absurd (cc test),
      λ can. absurd (none-some can.0.value (sym e ∙ sym committed ∙ can.0.committed)),
    )
    by (Some x) e = (forth x e, λ can. from x e can.0 can.1 can.2)

-- ---- what is kept

-- what a replica needs to go on in the next view
pub record MayGoOn (g : Group) (m : ℕ) (r : Replica) : Type 0 where
  pub fits : Fits g m r.rows r.view
  pub age : r.age ≡ g.opening.age
  pub members : r.roster ≡ roster g
  pub some : 1 ≤ roster g
  pub roster : IsInRoster r.roster r.members
  pub left : length r.left ≡ r.view
  pub logged : r.logged ≤ length r.history

-- the world of a member that goes on
pub finish_world : (g : Group) (rs : List (Option Replica)) (table : Shared) (m : ℕ) (r : Replica) (x : Value)
    → present_at rs m ≡ Some r → MayGoOn g m r
    → world_of g (with_present rs m (finished_by r x)) table ≡ finishes_by g (world_of g rs table) m x
finish_world g rs table m r x there f = replaced g rs table table m r (finished_by r x) (finishes_by g
    (world_of g rs table) m x) (finish_after g m x) there (finish_changes g (world_of g rs table) m x) same refl refl
  where
    q : Replica
    q = finished_by r x

    h : Holding
    h = holding_of g r

    now : LeftView
    now = left_now r

    rows : Words
    rows = with_own (begun r.rows.members r.rows.columns (me r)) LOGGED_COLUMN r.logged

    -- the history
    places : place_from (holding_of g r) ≡ with_place r
    places = fun_ext λ history. fun_ext λ p.
        let s : ℕ = sender_of_place r p in
        let within : s < roster g = rw f.members at (member_below r.roster r.members
        (p % length (members_of r.members)) (omega (arith, f.members, f.some)) f.roster) in
        ap (λ (i : Item). history ++ entries_of history s i) (item_shown (roster g) s (item_of_place r p) within)

    history : history_from g x (holding_of g r) ≡ finished_history r x
    history = ap (λ add. fold add r.history (rest_places (map (λ s. slice_index x.trim s) (members_in_view r)) r.next)
        ++ View g.opening.age (r.view + 1) (next_members r.members x.leavers) ∷ []) places ∙ ap (λ age. fold
        (with_place r) r.history (rest_places (map (λ s. slice_index x.trim s) (members_in_view r)) r.next)
        ++ View age (r.view + 1) (next_members r.members x.leavers) ∷ []) (sym f.age)

    log : take r.logged (finished_history r x) ≡ take r.logged r.history
    log =
        let rest = finished_more r x in ap (take r.logged) rest.1 ∙ take-append-le r.logged r.history rest.0 f.logged

    base : length (messages_from m (history_from g x (holding_of g r)))
        ≡ length (messages_from (me r) (finished_history r x))
    base = ap (λ es. length (messages_from m es)) history
        ∙ ap (λ k. length (messages_from k (finished_history r x))) (sym f.fits.number)

    -- the words
    wide : LOGGED_COLUMN < r.rows.columns
    wide = omega (arith, f.fits.columns)

    logged_is : length (take r.logged r.history) ≡ r.logged
    logged_is = length-take-le r.logged r.history f.logged

    first : (c : ℕ) → own (with_own (begun r.rows.members r.rows.columns (me r)) LOGGED_COLUMN r.logged) c
        ≡ (if c == LOGGED_COLUMN then r.logged else 0)
    first c = first_own r.rows.members r.rows.columns (me r) r.logged c f.fits.words.few f.fits.words.narrow
        f.fits.words.present wide

    beyond : slice_index_or r.left (r.view + 1) nothing_left ≡ nothing_left
    beyond = get_or_past r.left (r.view + 1) nothing_left (omega (arith, f.left))

    -- of a view other than the next one the replica keeps what it has
    kept : (v : ℕ) → v ≢ r.view
        → slice_index_or (r.left ++ left_now r ∷ []) v nothing_left ≡ slice_index_or r.left v nothing_left
    kept v other = kept_other r.left now nothing_left v (λ e. other (e ∙ f.left))

    kept_here : slice_index_or (r.left ++ left_now r ∷ []) r.view nothing_left ≡ left_now r
    kept_here = ap (λ v. slice_index_or (r.left ++ left_now r ∷ []) v nothing_left) (sym f.left)
        ∙ kept_last r.left now nothing_left

    pick : {X : Type 0} (v : ℕ) (get : LeftView → X) (mine : X) → get (left_now r) ≡ mine → v ≢ r.view + 1
        → (if v == r.view then mine else get (slice_index_or r.left v nothing_left))
        ≡ get (slice_index_or (r.left ++ left_now r ∷ []) v nothing_left)
    pick v get mine e other = elim (cases_eq v r.view) [
      | inl here ↦ rw (here, same_number r.view) (sym e ∙ ap get (sym kept_here))
      | inr d ↦ rw (other_number v r.view d) (ap get (sym (kept v d)))
    ]

    own_is : at₂ (holding_of g r).own (r.view + 1) LOGGED_COLUMN (length (take r.logged r.history))
        ≡ (holding_of g (finished_by r x)).own
    own_is = fun_ext λ v. fun_ext λ c. elim (cases_eq v (r.view + 1)) [
      | inl next ↦ rw (next, same_number (r.view + 1), other_number (r.view + 1) r.view (omega arith))
          (ap (λ l. if c == LOGGED_COLUMN then l else kept_word r (r.view + 1) c) logged_is
          ∙ ap (λ (l : LeftView). if c == LOGGED_COLUMN then r.logged else slice_index l.own c) beyond
          ∙ sym (first c))
      | inr d ↦ rw (other_number v (r.view + 1) d) (pick v (λ l. slice_index l.own c) (own r.rows c) refl d)
    ]

    count_is : (holding_of g r).count ≡ (holding_of g (finished_by r x)).count
    count_is = fun_ext λ v. fun_ext λ s. elim (cases_eq v (r.view + 1)) [
      | inl next ↦ rw (next, same_number (r.view + 1), other_number (r.view + 1) r.view (omega arith))
          (ap (λ (l : LeftView). slice_index l.counts s) beyond ∙ sym (copy_at {X = ℕ} r.roster 0 s))
      | inr d ↦ rw (other_number v (r.view + 1) d) (pick v (λ l. slice_index l.counts s) (count r s) refl d)
    ]

    sent_is : (holding_of g r).sent ≡ (holding_of g (finished_by r x)).sent
    sent_is = fun_ext λ v. elim (cases_eq v (r.view + 1)) [
      | inl next ↦ rw (next, same_number (r.view + 1), other_number (r.view + 1) r.view (omega arith))
          (ap (λ (l : LeftView). l.sent) beyond)
      | inr d ↦ rw (other_number v (r.view + 1) d) (pick v (λ l. l.sent) r.sent refl d)
    ]

    item_is : ◌≡◌ {A = ℕ → ℕ → Item} (λ s k. Null) (holding_of g (finished_by r x)).item
    item_is = fun_ext λ s. fun_ext λ k. sym (ap (λ i. if nat_lt s (roster g) then i else Null)
        (copy_at _ Null (k * r.roster + s)) ∙ both_same (nat_lt s (roster g)) Null)

    seen_is : ◌≡◌ {A = ℕ → ℕ → ℕ} (λ i c. 0) (holding_of g (finished_by r x)).seen
    seen_is = fun_ext λ i. fun_ext λ c. sym (first_seen r.rows.members r.rows.columns (me r) r.logged i c)

    same : finish_after g m x (holding_of g r) ≡ holding_of g (finished_by r x)
    same = λ z. record (finish_after g m x (holding_of g r)) {
      own = own_is z;
      count = count_is z;
      item = item_is z;
      sent = sent_is z;
      history = history z;
      log = sym log z;
      base = base z;
      seen = seen_is z;
    }

-- it ends its view
pub finish_effect : (g : Group) (rs : List (Option Replica)) (table : Shared) (m : ℕ) (r : Replica)
    → IsMember g rs table m r → world_of g (with_present rs m (finished (acted r))) (acted_table g table m r)
    ≡ stamped_in (finishes g (world_of g rs table) m) m ((world_of g rs table).past.view m)
finish_effect g rs table m r is = ap (λ qs. world_of g qs cells)
    (sym (set-set rs m (Some (acted r)) (Some (finished (acted r))))) ∙ finish_world g (with_present rs m
    (acted r)) cells m (acted r) x (present_set rs m (acted r) (present_within rs m r is.there)) may
    ∙ ap (λ u. finishes_by g u m x) (acted_world g rs table m r is.there f is.cells)
    ∙ stamped_first g w m x ∙ ap (λ y. stamped_in (finishes_by g w m y) m (w.past.view m)) (sym value)
  where
    w : World
    w = world_of g rs table

    cells : Shared
    cells = acted_table g table m r

    x : Value
    x = unwrap_or r.committed no_value

    f : Fits g m r.rows r.view
    f = fits g rs table m r is

    may : MayGoOn g m (acted r)
    may = record {
      fits = fits_own g m r.rows r.view BEAT_COLUMN (one_more 64 r.acts) f;
      age = is.of.age;
      members = is.of.members;
      some = is.group.some_member;
      roster = is.form.roster;
      left = is.form.left;
      logged = is.form.logged;
    }

    value : committed_value (world_of g rs table) m ≡ unwrap_or r.committed no_value
    value = ap (λ h. unwrap_or h.committed no_value) (held_of g rs table m r is.there)

-- so there is room for it, where its history and its own messages there keep within what the replica may hold
pub finish_room : (g : Group) (rs : List (Option Replica)) (table : Shared) (m : ℕ) (r : Replica)
    → IsMember g rs table m r → (can : CanFinish g (world_of g rs table) m)
    → length ((stamped_in (finishes g (world_of g rs table) m) m
    ((world_of g rs table).past.view m)).past.history m) ≤ r.room
    → length (messages_from m (effects.finished_history g (world_of g rs table) m can.value)) ≤ length r.messages
    → (length (finished r).history ≤ r.room) × ((finished r).base ≤ length r.messages)
finish_room g rs table m r is can room few = (
  omega (arith, room, ap length history),
  omega (arith, few, ap (λ x. length (messages_from m (effects.finished_history g w m x))) value, base),
)
  where
    w : World
    w = world_of g rs table

    after : World
    after = stamped_in (finishes g w m) m (w.past.view m)

    shown : {X : Type 0} (get : Holding → X) → get (held after m) ≡ get (holding_of g (finished (acted r)))
    shown get = ap (λ u. get (held u m)) (sym (finish_effect g rs table m r is))
        ∙ ap get (held_of g (with_present rs m (finished (acted r))) (acted_table g table m r) m
        (finished (acted r)) (present_set rs m (finished (acted r)) (present_within rs m r is.there)))

    history : after.past.history m ≡ (finished r).history
    history = shown (λ h. h.history)

    base : length (messages_from m (effects.finished_history g w m (committed_value w m))) ≡ (finished r).base
    base = sym (at_same w.base m _) ∙ shown (λ h. h.base)

    value : committed_value w m ≡ can.value
    value = ap (λ o. unwrap_or o no_value) can.committed
