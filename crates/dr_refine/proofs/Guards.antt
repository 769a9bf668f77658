-- A replica may act exactly where the event may come.
use Rattle.std.specs.{List.list_all, Prelude.{Option, Some, None, nat_lt, is_some}}
use Rattle.std.proofs.Common.{◌≡◌, ◌≢◌, refl, sym, ap, ◌∙◌, ◌↔◌, subst, ℕ, ◌+◌, ◌-◌, ◌^◌, ◌<◌, ◌≤◌, ◌==◌, ◌&&◌, ◌||◌, inl, inr, not, ◌*◌, Bool, true, false, List, [], length, slice_index, arith, le_trans}
use Rattle.std.proofs.Math.Path.{fun_ext}
use Rattle.std.proofs.lemmas.Bool.{and_from, and_parts, cases_eq, cases_lt, eq-eqb, eqb-true, lt-ltb, or_cases}
use Rattle.std.proofs.lemmas.{Bool.Decides.nat_tests, List.{get_or_past, length-take-le, Folds.list_any_at}}
use Rattle.dr_entry.specs.declared.end.End.{End, TheVariants.{Done, Suspected, Excluded, NoMajority}}
use Rattle.dr_entry.{specs.declared.record.Value.Value, proofs.{Items.some_test, ListFacts.below_least}}
use Rattle.dr_entry.proofs.{ListPlaces.above_some, NumberFacts.{same_number, other_number}, OptionFacts.not_less}
use Rattle.dr_history.specs.{History.messages_in, Members.{has, members_of}, Order.{MayJoin, messages_from}}
use Rattle.dr_history.proofs.Tests.{all_members}
use Rattle.dr_ring.specs.Slots.{IsFree, is_free, IsReady, slot_of, slot_column}
use Rattle.dr_ring.proofs.{Freedom.{is_free-true, IsFree-from_test}, Readiness.ready_test}
use Rattle.dr_rows.specs.Words.{own, seen}
use Rattle.dr_words.{specs.{Columns.recv_column, Masks.{IsInRoster, without}}, proofs.Tests.each_member}
use Rattle.dr_words.specs.declared.column.TheConstants.{SUSPECTED_COLUMN, RECEIVED_COLUMN, LOGGED_COLUMN, DONE_COLUMN}
use Rattle.dr_machine.specs.Group.{Group, roster, columns}
use Rattle.dr_machine.specs.Guards.{IsInView, IsNamable, IsRunning, MayChoose, MayTurn, IsOther, IsFault, CanBeat, CanLook, CanPush, CanSend, CanNull, CanReceive, CanDeliver, CanAppend, CanPublish, CanReport, CanMark, CanSuspect, CanHalt, CanCrash, HasRoom, IsBehind, IsUnwedged, IsDue, IsDone, IsExcluded, IsSuspectedBy, IsMinority, seen_slot, unsuspected_of}
use Rattle.dr_machine.{specs.World.{World, items_received, shown}, proofs.Presence.{in_roster, late_test}}
use Rattle.dr_machine.specs.Guards as guards
use Rattle.dr_suspect.{specs.Wishes.{is_silent, may_wish}, proofs.Wishes.silent_test}
use Rattle.dr_faithful.proofs.Copies.{inside}
use Rattle.dr_program.{specs.Reading.{Shared, world_of}, proofs.Holdings.{Holding, held_of, shown_seen, own_shown}}
use Rattle.dr_program.specs.Replica.{Replica, me, is_inside, is_other, count, greatest, least_seen, ready_item, next_index, holds_all, all_done, is_behind, is_wedged, is_due, is_named, has_majority, unsuspected, members_in_view, may_receive, may_send, may_null, may_deliver, may_append, may_publish, may_report, may_mark, may_suspect}
use Rattle.dr_program.proofs.{Least.received_small, Replicas.not_wedged}
use Rattle.dr_refine.specs.Programs.{IsMember}

-- ---- the member

-- it has no end, no vote of it waits, and it is in its view
abbrev pub IsIdle : Replica → Type 0
IsIdle r = (r.end ≡ None) × (r.pending ≡ None) × (is_inside r ≡ true)

-- a replica without an end is a member without one
pub running : (g : Group) (rs : List (Option Replica)) (table : Shared) (m : ℕ) (r : Replica)
    → IsMember g rs table m r → r.end ≡ None → IsRunning g (world_of g rs table) m
running g rs table m r is alive = record {
  present = is.of.present;
  running = ap (λ h. h.end) (held_of g rs table m r is.there) ∙ alive;
}

-- and is in its view exactly where the world says so
pub in_view_test : (g : Group) (rs : List (Option Replica)) (table : Shared) (m : ℕ) (r : Replica)
    → IsMember g rs table m r → (is_inside r ≡ true) ↔ IsInView (world_of g rs table) m
in_view_test g rs table m r is =
    let members : (world_of g rs table).members m ≡ r.members = ap (λ h. h.members) (held_of g rs table m r is.there) in (
      λ e. rw (members, ← is.of.number) e,
      λ there. rw is.of.number (sym (ap (λ k. has k m) members) ∙ there),
    )

-- it may begin a turn where no vote of it waits
pub may_turn : (g : Group) (rs : List (Option Replica)) (table : Shared) (m : ℕ) (r : Replica)
    → IsMember g rs table m r → r.end ≡ None → r.pending ≡ None → MayTurn g (world_of g rs table) m
may_turn g rs table m r is alive idle = record {
  alive = running g rs table m r is alive;
  idle = ap (λ h. h.pending) (held_of g rs table m r is.there) ∙ idle;
}

-- and may take an event of its own choice
pub may_choose : (g : Group) (rs : List (Option Replica)) (table : Shared) (m : ℕ) (r : Replica)
    → IsMember g rs table m r → IsIdle r → MayChoose g (world_of g rs table) m
may_choose g rs table m r is free = record {
  alive = running g rs table m r is free.0;
  idle = ap (λ h. h.pending) (held_of g rs table m r is.there) ∙ free.1;
  inside = (in_view_test g rs table m r is).0 free.2;
}

-- where it may, no vote waits
pub no_vote_waits : (g : Group) (rs : List (Option Replica)) (table : Shared) (m : ℕ) (r : Replica)
    → IsMember g rs table m r → MayTurn g (world_of g rs table) m → r.pending ≡ None
no_vote_waits g rs table m r is may = sym (ap (λ h. h.pending) (held_of g rs table m r is.there)) ∙ may.idle

-- whom it suspects
pub suspects_are : (g : Group) (rs : List (Option Replica)) (table : Shared) (m : ℕ) (r : Replica)
    → IsMember g rs table m r → (world_of g rs table).suspects m ≡ r.suspects
suspects_are g rs table m r is = ap (λ h. h.suspects) (held_of g rs table m r is.there)

unwedged : (g : Group) (rs : List (Option Replica)) (table : Shared) (m : ℕ) (r : Replica) → IsMember g rs table m r
    → (not (is_wedged r) ≡ true) ↔ IsUnwedged (world_of g rs table) m
unwedged g rs table m r is =
    let same = suspects_are g rs table m r is in (
      λ e. same ∙ (not_wedged r).0 e,
      λ none. (not_wedged r).1 (sym same ∙ none),
    )

-- and who suspects somebody is
pub wedged : (g : Group) (rs : List (Option Replica)) (table : Shared) (m : ℕ) (r : Replica) → IsMember g rs table m r
    → (is_wedged r ≡ true) ↔ (¬ IsUnwedged (world_of g rs table) m)
wedged g rs table m r is =
    let same = suspects_are g rs table m r is in (
      λ e none. absurd (grind (arith, e, sym same ∙ none)),
      λ some. elim (cases_eq r.suspects 0) [
        | inl none ↦ absurd (some (same ∙ none))
        | inr apart ↦ grind (arith, apart)
      ],
    )

-- a test that only one who isn't wedged passes is the guard of an event that comes to no other, where the
-- rest of it is for one who suspects nobody
unless_wedged : (g : Group) (rs : List (Option Replica)) (table : Shared) (m : ℕ) (r : Replica) (test : Bool)
    {Can : Type 0} → IsMember g rs table m r → (IsUnwedged (world_of g rs table) m → (test ≡ true) ↔ Can)
    → (Can → IsUnwedged (world_of g rs table) m) → ((not (is_wedged r) && test) ≡ true) ↔ Can
unless_wedged g rs table m r test is same none =
    let free = unwedged g rs table m r is in (
      λ e. let two = and_parts (not (is_wedged r)) test e in (same (free.0 two.0)).0 two.1,
      λ can. and_from (not (is_wedged r)) test (free.1 (none can)) ((same (none can)).1 can),
    )

-- a member that it doesn't suspect
unsuspected_member : (g : Group) (rs : List (Option Replica)) (table : Shared) (m : ℕ) (r : Replica) (i : ℕ)
    → IsMember g rs table m r → (not (has r.suspects i) ≡ true) ↔ (has ((world_of g rs table).suspects m) i ≡ false)
unsuspected_member g rs table m r i is =
    let same = ap (λ x. has x i) (suspects_are g rs table m r is) in (
      λ e. same ∙ grind (arith, e),
      λ no. ap not (sym same ∙ no),
    )

-- the members of its view
pub members_are : (g : Group) (rs : List (Option Replica)) (table : Shared) (m : ℕ) (r : Replica)
    → IsMember g rs table m r → (world_of g rs table).members m ≡ r.members
members_are g rs table m r is = ap (λ h. h.members) (held_of g rs table m r is.there)

-- another member of the view
pub other_member : (g : Group) (rs : List (Option Replica)) (table : Shared) (m : ℕ) (r : Replica) (i : ℕ)
    → IsMember g rs table m r → (is_other r i ≡ true) ↔ IsOther (world_of g rs table) m i
other_member g rs table m r i is = (
  λ e. let two = and_parts (has r.members i) (not (i == me r)) e in record {
    member = ap (λ x. has x i) (members_are g rs table m r is) ∙ two.0;
    other = λ same. differs i (me r) two.1 (same ∙ sym is.of.number);
  },
  λ o. and_from (has r.members i) (not (i == me r)) (ap (λ x. has x i) (sym (members_are g rs table m r is))
      ∙ o.member) (ap not (other_number i (me r) (λ same. o.other (same ∙ is.of.number)))),
)
  where
    differs : (a b : ℕ) → not (a == b) ≡ true → a ≡ b → ⊥
    differs a b e same = absurd (grind (arith, e, same))

-- it is of the roster
pub other_within : (g : Group) (rs : List (Option Replica)) (table : Shared) (m : ℕ) (r : Replica) (i : ℕ)
    → IsMember g rs table m r → is_other r i ≡ true → i < roster g
other_within g rs table m r i is e =
    let within : i < r.roster = is.form.roster i (and_parts (has r.members i) (not (i == me r)) e).0 in
    omega (arith, within, is.of.members)

-- and passes the test for that
pub other_below : (g : Group) (rs : List (Option Replica)) (table : Shared) (m : ℕ) (r : Replica) (i : ℕ)
    → IsMember g rs table m r → is_other r i ≡ true → nat_lt i r.roster ≡ true
other_below g rs table m r i is e =
    let within : i < r.roster = rw is.of.members (other_within g rs table m r i is e) in
    grind (arith, nat_tests, within)

-- the seen word of another row
pub seen_is : (g : Group) (rs : List (Option Replica)) (table : Shared) (m : ℕ) (r : Replica) (i c : ℕ)
    → IsMember g rs table m r → i ≢ m → (world_of g rs table).seen m i c ≡ seen r.rows i c
seen_is g rs table m r i c is other = ap (λ h. h.seen i c) (held_of g rs table m r is.there)
    ∙ rw (other_number i (me r) (λ e. other (e ∙ is.of.number))) refl

-- a number is below the least word over the view exactly where it is below the word of each row
below_each : (g : Group) (rs : List (Option Replica)) (table : Shared) (m : ℕ) (r : Replica) (c x : ℕ)
    → IsMember g rs table m r → nat_lt x (least_seen r c) ≡ true
    → (i : ℕ) → has ((world_of g rs table).members m) i ≡ true → x < shown (world_of g rs table) m i c
below_each g rs table m r c x is e i member =
    let tests = and_parts (nat_lt x (2 ^ 64 - 1)) (list_all (λ k. nat_lt x (seen r.rows k c)) (members_of r.members))
    (sym (below_least x (2 ^ 64 - 1) (λ k. seen r.rows k c) (members_of r.members)) ∙ e) in
    let here : nat_lt x (seen r.rows i c) ≡ true = each_member (λ k. nat_lt x (seen r.rows k c)) r.roster r.members
    (omega (arith, is.of.members, is.group.most_members)) is.form.roster tests.1 i
    (ap (λ k. has k i) (sym (members_are g rs table m r is)) ∙ member) in
    rw (shown_seen g rs table m r i c is.there is.of.number) (grind (arith, nat_tests, here))

each_below : (g : Group) (rs : List (Option Replica)) (table : Shared) (m : ℕ) (r : Replica) (c x : ℕ)
    → IsMember g rs table m r → is_inside r ≡ true → own r.rows c ≤ 2 ^ 64 - 1
    → ((i : ℕ) → has ((world_of g rs table).members m) i ≡ true → x
    < shown (world_of g rs table) m i c) → nat_lt x (least_seen r c) ≡ true
each_below g rs table m r c x is inside small each =
    let here : (i : ℕ) → has r.members i ≡ true → x < seen r.rows i c =
    λ i member. rw (shown_seen g rs table m r i c is.there is.of.number) at
    (each i (ap (λ k. has k i) (members_are g rs table m r is) ∙ member)) in
    below_least x (2 ^ 64 - 1) (λ k. seen r.rows k c) (members_of r.members)
    ∙ and_from _ _ (lt-ltb x (2 ^ 64 - 1) (le_trans (here (me r) inside) small))
    (all_members (λ k. nat_lt x (seen r.rows k c)) r.members (λ i member. lt-ltb x (seen r.rows i c) (here i member)))

-- ---- deliveries and reports

-- it delivers exactly where that may come, and it has room
pub deliver_guard : (g : Group) (rs : List (Option Replica)) (table : Shared) (m : ℕ) (r : Replica)
    → IsMember g rs table m r → IsIdle r
    → (may_deliver r ≡ true) ↔ (CanDeliver g (world_of g rs table) m × (length r.history < r.room))
deliver_guard g rs table m r is alive =
    let next : (world_of g rs table).next m ≡ r.next = ap (λ h. h.next) (held_of g rs table m r is.there) in
    unless_wedged g rs table m r _ is (λ none. (
      λ e. let two = and_parts (nat_lt r.next (least_seen r RECEIVED_COLUMN))
          (nat_lt (length r.history) r.room) e in (
            record {
              may = may_choose g rs table m r is alive;
              unwedged = none;
              received = λ i member. rw next (below_each g rs table m r RECEIVED_COLUMN r.next is two.0 i member);
            },
            grind (arith, nat_tests, two.1),
          ),
      λ can. and_from _ _ (each_below g rs table m r RECEIVED_COLUMN r.next is alive.2
          (omega (arith, is.form.received, received_small r (λ s. le_trans (is.form.bounded s) is.form.few)))
          (λ i member. rw next at (can.0.received i member))) (grind (arith, nat_tests, can.1)),
    )) (λ can. can.0.unwedged)

-- it reports exactly where that may come
pub report_guard : (g : Group) (rs : List (Option Replica)) (table : Shared) (m : ℕ) (r : Replica)
    → IsMember g rs table m r → IsIdle r → (may_report r ≡ true) ↔ CanReport g (world_of g rs table) m
report_guard g rs table m r is alive =
    let durable : (world_of g rs table).past.durable m
    ≡ r.durable = ap (λ h. h.durable) (held_of g rs table m r is.there) in (
      λ e. record {
        may = may_choose g rs table m r is alive;
        logged = λ i member. rw durable (below_each g rs table m r LOGGED_COLUMN r.durable is e i member);
      },
      λ can. each_below g rs table m r LOGGED_COLUMN r.durable is alive.2
          (omega (arith, is.form.published, is.form.logged, is.form.room, is.form.small))
          (λ i member. rw durable at (can.logged i member)),
    )

-- ---- appends and publications

-- it appends exactly where that may come
pub append_guard : (g : Group) (rs : List (Option Replica)) (table : Shared) (m : ℕ) (r : Replica)
    → IsMember g rs table m r → IsIdle r → (may_append r ≡ true) ↔ CanAppend g (world_of g rs table) m
append_guard g rs table m r is alive =
    let was = held_of g rs table m r is.there in
    let log : length ((world_of g rs table).past.log m) ≡ r.logged = ap (λ h. length h.log) was
    ∙ length-take-le r.logged r.history is.form.logged in
    let history : length ((world_of g rs table).past.history m)
    ≡ length r.history = ap (λ h. length h.history) was in (
      λ e. record {
        may = may_choose g rs table m r is alive;
        behind = rw (log, history) (grind (arith, nat_tests, e));
      },
      λ can. let behind = rw (log, history) at can.behind in grind (arith, nat_tests, behind),
    )

-- it publishes exactly where that may come
pub publish_guard : (g : Group) (rs : List (Option Replica)) (table : Shared) (m : ℕ) (r : Replica)
    → IsMember g rs table m r → IsIdle r → (may_publish r ≡ true) ↔ CanPublish g (world_of g rs table) m
publish_guard g rs table m r is alive =
    let was = held_of g rs table m r is.there in
    let log : length ((world_of g rs table).past.log m) ≡ r.logged = ap (λ h. length h.log) was
    ∙ length-take-le r.logged r.history is.form.logged in
    let word = own_shown g rs table m r LOGGED_COLUMN is.there in (
      λ e. record { may = may_choose g rs table m r is alive; behind = rw (log, word) (grind (arith, nat_tests, e)) },
      λ can. let behind = rw (log, word) at can.behind in grind (arith, nat_tests, behind),
    )

-- ---- marks and ends

-- it marks exactly where that may come
pub mark_guard : (g : Group) (rs : List (Option Replica)) (table : Shared) (m : ℕ) (r : Replica)
    → IsMember g rs table m r → IsIdle r → (may_mark r ≡ true) ↔ CanMark g (world_of g rs table) m
mark_guard g rs table m r is alive =
    let w : World = world_of g rs table in
    let was = held_of g rs table m r is.there in
    let history : w.past.history m ≡ r.history = ap (λ h. h.history) was in
    let durable : w.past.durable m ≡ r.durable = ap (λ h. h.durable) was in
    let word = own_shown g rs table m r DONE_COLUMN is.there in
    let members = members_are g rs table m r is in
    let whole : ℕ → Bool = λ s. length (messages_from s r.history) == slice_index r.totals s in
    unless_wedged g rs table m r _ is (λ none. (
      λ e. let two = and_parts (own r.rows DONE_COLUMN == 0) (holds_all r && (r.durable == length r.history)) e in
          let three = and_parts (holds_all r) (r.durable == length r.history) two.1 in record {
            may = may_choose g rs table m r is alive;
            unwedged = none;
            unmarked = rw word (eqb-true (own r.rows DONE_COLUMN) 0 two.0);
            whole = λ s member. rw (history, ← is.of.totals s) (eqb-true (length (messages_from s r.history))
                (slice_index r.totals s) (each_member whole r.roster r.members
                (omega (arith, is.of.members, is.group.most_members)) is.form.roster three.0 s
                (ap (λ x. has x s) (sym members) ∙ member)));
            durable = rw (durable, history) (eqb-true r.durable (length r.history) three.1);
          },
      λ can. let unmarked = rw word at can.unmarked in
          let durably = rw (durable, history) at can.durable in
          and_from _ _ (eq-eqb (own r.rows DONE_COLUMN) 0 unmarked) (and_from _ _
          (all_members whole r.members (λ s member. let here =
          rw (history, ← is.of.totals s) at (can.whole s (ap (λ x. has x s) members ∙ member)) in
          eq-eqb (length (messages_from s r.history)) (slice_index r.totals s) here))
          (eq-eqb r.durable (length r.history) durably)),
    )) (λ can. can.unwedged)

-- ---- suspicions and ends

-- j is late and in no View of the history exactly where the replica may wish for it
wish_test : (g : Group) (rs : List (Option Replica)) (table : Shared) (m : ℕ) (r : Replica) (j : ℕ)
    → IsMember g rs table m r
    → (may_wish r.history r.age r.late j ≡ true) ↔ MayJoin g.opening ((world_of g rs table).past.history m) j
wish_test g rs table m r j is =
    let history : (world_of g rs table).past.history m ≡ r.history = ap (λ h. h.history) (held_of g rs table m r is.there) in
    let late = late_test g j is.group in
    let silent = silent_test g.opening.age j r.history in (
      λ e. let two = and_parts (has r.late j) (list_all (is_silent r.age j) r.history) e in
          rw history (late.0 (rw is.of.late at two.0), silent.0 (rw is.of.age at two.1)),
      λ may. let there = rw history at may in
          and_from (has r.late j) (list_all (is_silent r.age j) r.history) (rw is.of.late (late.1 there.0))
          (rw is.of.age (silent.1 there.1)),
    )

namable_test : (g : Group) (rs : List (Option Replica)) (table : Shared) (m : ℕ) (r : Replica) (j : ℕ)
    → IsMember g rs table m r
    → (j ≢ m → (has r.members j || may_wish r.history r.age r.late j) ≡ true → IsNamable g (world_of g rs table) m j)
    × (IsNamable g (world_of g rs table) m j → (has r.members j || may_wish r.history r.age r.late j) ≡ true)
namable_test g rs table m r j is = (
  λ other e. elim (or_cases (has r.members j) (may_wish r.history r.age r.late j) e) [
    | inl there ↦ inl (record { member = ap (λ k. has k j) (members_are g rs table m r is) ∙ there; other = other })
    | inr wish ↦ inr ((wish_test g rs table m r j is).0 wish)
  ],
  λ named. elim named [
    | inl row ↦ let there : has r.members j ≡ true = sym (ap (λ k. has k j) (members_are g rs table m r is)) ∙ row.member in
        ap (λ b. b || may_wish r.history r.age r.late j) there
    | inr join ↦ let wish = (wish_test g rs table m r j is).1 join in grind (arith, wish)
  ],
)

-- and is a number below those of the roster
namable_below : (g : Group) (rs : List (Option Replica)) (table : Shared) (m : ℕ) (r : Replica) (j : ℕ)
    → IsMember g rs table m r → IsNamable g (world_of g rs table) m j → nat_lt j r.roster ≡ true
namable_below g rs table m r j is (inl row) =
    other_below g rs table m r j is ((other_member g rs table m r j is).1 row)
namable_below g rs table m r j is (inr join) =
    let within : j < roster g = in_roster g j is.group join.0.0 in grind (arith, nat_tests, within, is.of.members)

-- it suspects exactly where that may come
pub suspect_guard : (g : Group) (rs : List (Option Replica)) (table : Shared) (m : ℕ) (r : Replica) (j : ℕ)
    → IsMember g rs table m r → IsIdle r → (may_suspect r j ≡ true) ↔ CanSuspect g (world_of g rs table) m j
suspect_guard g rs table m r j is alive =
    let free = unsuspected_member g rs table m r j is in
    let named = namable_test g rs table m r j is in (
      λ e. let two = and_parts (nat_lt j r.roster) (not (j == me r)
          && ((has r.members j || may_wish r.history r.age r.late j) && not (has r.suspects j))) e in
          let three = and_parts (not (j == me r))
          ((has r.members j || may_wish r.history r.age r.late j) && not (has r.suspects j)) two.1 in
          let four = and_parts (has r.members j || may_wish r.history r.age r.late j) (not (has r.suspects j)) three.1 in
          let other : j ≢ m = λ same. not_me three.0 (same ∙ sym is.of.number) in record {
            may = may_choose g rs table m r is alive;
            namable = named.0 other four.0;
            apart = other;
            unsuspected = free.0 four.1;
          },
      λ can. and_from _ _ (namable_below g rs table m r j is can.namable) (and_from _ _
          (ap not (other_number j (me r) (λ e. can.apart (e ∙ is.of.number))))
          (and_from _ _ (named.1 can.namable) (free.1 can.unsuspected))),
    )
  where
    not_me : not (j == me r) ≡ true → j ≡ me r → ⊥
    not_me e same = absurd (grind (arith, e, same))

-- it is done exactly where the world says so
done_due : (g : Group) (rs : List (Option Replica)) (table : Shared) (m : ℕ) (r : Replica) → IsMember g rs table m r
    → (is_due r Done ≡ true) ↔ IsDone (world_of g rs table) m
done_due g rs table m r is =
    let members = members_are g rs table m r is in
    let done : ℕ → Bool = λ i. seen r.rows i DONE_COLUMN == 1 in
    unless_wedged g rs table m r (all_done r) is (λ none. (
      λ e. record {
        unwedged = none;
        all = λ i member. rw (shown_seen g rs table m r i DONE_COLUMN is.there is.of.number)
            (let here : done i ≡ true = each_member done r.roster r.members
            (omega (arith, is.of.members, is.group.most_members)) is.form.roster e i
            (ap (λ x. has x i) (sym members) ∙ member) in grind (arith, here));
      },
      λ due. all_members done r.members (λ i member.
          let here = rw (shown_seen g rs table m r i DONE_COLUMN is.there is.of.number) at
          (due.all i (ap (λ x. has x i) members ∙ member)) in grind (arith, here)),
    )) (λ due. due.unwedged)

-- a row says that it is suspected exactly where the world says so
suspected_due : (g : Group) (rs : List (Option Replica)) (table : Shared) (m : ℕ) (r : Replica) (i : ℕ)
    → IsMember g rs table m r → (is_due r (Suspected i) ≡ true) ↔ IsSuspectedBy (world_of g rs table) m i
suspected_due g rs table m r i is = (
  λ e. let two = and_parts (nat_lt i r.roster) _ e in
      let three = and_parts (not (i == me r)) _ two.1 in
      let four = and_parts (has r.members i && not (has r.suspects i)) _ three.1 in
      let five = and_parts (has r.members i) (not (has r.suspects i)) four.0 in
      let row = other.0 (and_from (has r.members i) (not (i == me r)) five.0 three.0) in record {
        row = row;
        unsuspected = free.0 five.1;
        named = word row.other ∙ four.1;
      },
  λ due. let e = other.1 due.row in
      let two = and_parts (has r.members i) (not (i == me r)) e in
      and_from _ _ (other_below g rs table m r i is e) (and_from _ _ two.1
      (and_from _ _ (and_from _ _ two.0 (free.1 due.unsuspected)) (sym (word due.row.other) ∙ due.named))),
)
  where
    other : (is_other r i ≡ true) ↔ IsOther (world_of g rs table) m i
    other = other_member g rs table m r i is

    free : (not (has r.suspects i) ≡ true) ↔ (has ((world_of g rs table).suspects m) i ≡ false)
    free = unsuspected_member g rs table m r i is

    word : i ≢ m → has ((world_of g rs table).seen m i SUSPECTED_COLUMN) m
        ≡ has (seen r.rows i SUSPECTED_COLUMN) (me r)
    word apart = ap (λ x. has x m) (seen_is g rs table m r i SUSPECTED_COLUMN is apart)
        ∙ ap (has (seen r.rows i SUSPECTED_COLUMN)) (sym is.of.number)

-- it is left with no majority exactly where the world says so
minority_due : (g : Group) (rs : List (Option Replica)) (table : Shared) (m : ℕ) (r : Replica) (mask : ℕ)
    → IsMember g rs table m r → (is_due r (NoMajority mask) ≡ true) ↔ IsMinority (world_of g rs table) m mask
minority_due g rs table m r mask is = (
  λ e. let two = and_parts (is_wedged r) _ e in
      let three = and_parts (mask == unsuspected r) (not (has_majority r)) two.1 in
      let here = eqb-true mask (unsuspected r) three.0 in record {
        wedged = (wedged g rs table m r is).0 two.0;
        unsuspected = here ∙ sym left;
        minority = λ more. (not_less all few).0 three.1 (subst (λ k. all < 2 * length (members_of k)) here
            (subst (λ k. length (members_of k) < 2 * length (members_of mask)) members more));
      },
  λ due. let here : mask ≡ unsuspected r = due.unsuspected ∙ left in
      and_from _ _ ((wedged g rs table m r is).1 due.wedged)
      (and_from _ _ (grind (arith, here)) ((not_less all few).1 (λ more. due.minority
      (subst (λ k. length (members_of k) < 2 * length (members_of mask)) (sym members)
      (subst (λ k. all < 2 * length (members_of k)) (sym here) more))))),
)
  where
    all : ℕ
    all = length (members_in_view r)

    few : ℕ
    few = 2 * length (members_of (unsuspected r))

    members : (world_of g rs table).members m ≡ r.members
    members = members_are g rs table m r is

    left : unsuspected_of (world_of g rs table) m ≡ unsuspected r
    left = ap (λ k. without k ((world_of g rs table).suspects m)) members
        ∙ ap (without r.members) (suspects_are g rs table m r is)

-- the value that it has committed names it exactly where the world says so
excluded_due : (g : Group) (rs : List (Option Replica)) (table : Shared) (m : ℕ) (r : Replica) (view : ℕ)
    → IsMember g rs table m r → (is_due r (Excluded view) ≡ true) ↔ IsExcluded (world_of g rs table) m view
excluded_due g rs table m r view is = (
  λ e. let two = and_parts (is_named (me r) r.committed) (view == r.view + 1) e in
      from r.committed refl two.0 (eqb-true view (r.view + 1) two.1),
  λ due. and_from _ _ (subst (λ o. is_named (me r) o ≡ true)
      (sym (sym committed ∙ due.committed)) (ap (has due.value.leavers) is.of.number ∙ due.named))
      (eq-eqb view (r.view + 1) (due.next ∙ ap (λ v. v + 1) number)),
)
  where
    committed : (world_of g rs table).committed m ≡ r.committed
    committed = ap (λ h. h.committed) (held_of g rs table m r is.there)

    number : (world_of g rs table).past.view m ≡ r.view
    number = ap (λ h. h.view) (held_of g rs table m r is.there)

    from : (o : Option Value) → r.committed ≡ o → is_named (me r) o ≡ true → view ≡ r.view + 1
        → IsExcluded (world_of g rs table) m view
    from None q e next = absurd (cc e)
    from (Some v) q e next = record {
      value = v;
      committed = committed ∙ q;
      named = ap (has v.leavers) (sym is.of.number) ∙ e;
      next = next ∙ ap (λ v. v + 1) (sym number);
    }

-- its end is due exactly where the world says so
end_due : (g : Group) (rs : List (Option Replica)) (table : Shared) (m : ℕ) (r : Replica) (end : End)
    → IsMember g rs table m r → (is_due r end ≡ true) ↔ IsDue (world_of g rs table) m end
end_due g rs table m r Done is = done_due g rs table m r is
end_due g rs table m r (Suspected i) is = suspected_due g rs table m r i is
end_due g rs table m r (NoMajority mask) is = minority_due g rs table m r mask is
end_due g rs table m r (Excluded view) is = excluded_due g rs table m r view is
end_due g rs table m r end is = (λ e. absurd (cc), λ due. absurd due)

-- it halts exactly where that may come
pub halt_guard : (g : Group) (rs : List (Option Replica)) (table : Shared) (m : ℕ) (r : Replica) (end : End)
    → IsMember g rs table m r → IsIdle r → (is_due r end ≡ true) ↔ CanHalt g (world_of g rs table) m end
halt_guard g rs table m r end is alive =
    let same = end_due g rs table m r end is in (
      λ e. record { may = may_choose g rs table m r is alive; due = same.0 e },
      λ can. same.1 can.due,
    )

-- it crashes exactly where that may come
pub crash_guard : (g : Group) (rs : List (Option Replica)) (table : Shared) (m : ℕ) (r : Replica) (end : End)
    → IsMember g rs table m r → r.end ≡ None → IsFault end ↔ CanCrash g (world_of g rs table) m end
crash_guard g rs table m r end is alive =
    (λ fault. record { alive = running g rs table m r is alive; fault = fault }, λ can. can.fault)

-- ---- turns, looks and pushes

-- it may always begin a turn
pub beat_guard : (g : Group) (rs : List (Option Replica)) (table : Shared) (m : ℕ) (r : Replica)
    → IsMember g rs table m r → r.end ≡ None → r.pending ≡ None → CanBeat g (world_of g rs table) m
beat_guard = may_turn

-- it looks exactly where that may come
pub look_guard : (g : Group) (rs : List (Option Replica)) (table : Shared) (m : ℕ) (r : Replica) (i c : ℕ)
    → IsMember g rs table m r → IsIdle r → c < columns g
    → ((not (has r.suspects i) ≡ true) × (is_other r i ≡ true)) ↔ CanLook g (world_of g rs table) m i c
look_guard g rs table m r i c is alive within =
    let other = other_member g rs table m r i is in
    let free = unsuspected_member g rs table m r i is in (
      λ e. record {
        may = may_choose g rs table m r is alive;
        row = other.0 e.1;
        unsuspected = free.0 e.0;
        column = within;
      },
      λ can. (free.1 can.unsuspected, other.1 can.row),
    )

-- it pushes exactly where that may come
pub push_guard : (g : Group) (rs : List (Option Replica)) (table : Shared) (m : ℕ) (r : Replica) (j c : ℕ)
    → IsMember g rs table m r → IsIdle r → c < columns g
    → (is_other r j ≡ true) ↔ CanPush g (world_of g rs table) m j c
push_guard g rs table m r j c is alive within =
    let other = other_member g rs table m r j is in (
      λ e. record { may = may_choose g rs table m r is alive; copy = other.0 e; column = within },
      λ can. other.1 can.copy,
    )

-- ---- messages and items

-- the index of its next message
pub next_is : (g : Group) (rs : List (Option Replica)) (table : Shared) (m : ℕ) (r : Replica)
    → IsMember g rs table m r → guards.next_index (world_of g rs table) m ≡ next_index r
next_is g rs table m r is =
    let show : Holding → ℕ = λ h. h.base + messages_in (h.sent h.view) in
    ap show (held_of g rs table m r is.there) ∙ rw (same_number r.view) refl

-- its count of a sender
pub count_is : (g : Group) (rs : List (Option Replica)) (table : Shared) (m : ℕ) (r : Replica) (s : ℕ)
    → IsMember g rs table m r → items_received (world_of g rs table) m s ≡ count r s
count_is g rs table m r s is =
    let show : Holding → ℕ = λ h. h.count h.view s in
    ap show (held_of g rs table m r is.there) ∙ rw (same_number r.view) refl

-- the slot of its next item is free exactly where the world says so
room_guard : (g : Group) (rs : List (Option Replica)) (table : Shared) (m : ℕ) (r : Replica) → IsMember g rs table m r
    → (is_free r.window r.rows r.members (count r (me r)) ≡ true)
    ↔ HasRoom g (world_of g rs table) m (items_received (world_of g rs table) m m)
room_guard g rs table m r is = (
  λ e. rw counts (room_from (IsFree-from_test r.window r.rows r.members (count r m) is.form.rows.few roster_is
      (subst free is.of.number e))),
  λ room. subst free (sym is.of.number)
      (is_free-true r.window r.rows r.members (count r m) (room_to (rw counts at room))),
)
  where
    free : ℕ → Type 0
    free = λ n. is_free r.window r.rows r.members (count r n) ≡ true

    w : World
    w = world_of g rs table

    counts : items_received w m m ≡ count r m
    counts = count_is g rs table m r m is

    members : w.members m ≡ r.members
    members = members_are g rs table m r is

    roster_is : IsInRoster r.rows.members r.members
    roster_is = rw is.form.members is.form.roster

    room_from : IsFree r.window r.rows r.members (count r m) → HasRoom g w m (count r m)
    room_from (inl early) = inl (rw is.of.window at early)
    room_from (inr received) = inr (λ i other.
        rw (seen_is g rs table m r i (recv_column m) is other.other, ← is.of.window)
        (rw is.of.number at (received i (ap (λ x. has x i) (sym members) ∙ other.member)
        (λ e. other.other (e ∙ is.of.number)))))

    room_to : HasRoom g w m (count r m) → IsFree r.window r.rows r.members (count r m)
    room_to (inl early) = inl (rw is.of.window early)
    room_to (inr received) = inr (λ i member other.
        let apart : i ≢ m = λ e. other (e ∙ sym is.of.number) in
        rw is.of.number (rw (seen_is g rs table m r i (recv_column m) is apart, ← is.of.window)
        at (received i (record { member = ap (λ x. has x i) members ∙ member; other = apart }))))

-- it sends exactly where that may come
pub send_guard : (g : Group) (rs : List (Option Replica)) (table : Shared) (m : ℕ) (r : Replica)
    → IsMember g rs table m r → IsIdle r → (may_send r ≡ true) ↔ CanSend g (world_of g rs table) m
send_guard g rs table m r is alive = unless_wedged g rs table m r _ is (λ none. (
  λ e. let two = and_parts (nat_lt (next_index r) (length r.messages))
      (is_free r.window r.rows r.members (count r (me r))) e in record {
        may = may_choose g rs table m r is alive;
        unwedged = none;
        left = rw (next_is g rs table m r is, ← is.of.messages) (grind (arith, nat_tests, two.0));
        room = (room_guard g rs table m r is).0 two.1;
      },
  λ can. let left = rw (next_is g rs table m r is, ← is.of.messages) at can.left in
      and_from _ _ (grind (arith, nat_tests, left)) ((room_guard g rs table m r is).1 can.room),
)) (λ can. can.unwedged)

-- it is behind exactly where the world says so
behind_guard : (g : Group) (rs : List (Option Replica)) (table : Shared) (m : ℕ) (r : Replica)
    → IsMember g rs table m r → (is_behind r ≡ true) ↔ IsBehind (world_of g rs table) m
behind_guard g rs table m r is = (
  λ e. let s = above_some (count r (me r)) r.counts e in (
    s.0,
    omega (arith, s.1, counts m, counts s.0, ap (count r) is.of.number),
  ),
  λ behind. let less : count r (me r) < count r behind.0 = omega (
    arith,
    behind.1,
    counts m,
    counts behind.0,
    ap (count r) is.of.number,
  ) in
      list_any_at (nat_lt (count r (me r))) r.counts behind.0 0 (within behind.0 less)
      (grind (arith, nat_tests, less)),
)
  where
    counts : (s : ℕ) → items_received (world_of g rs table) m s ≡ count r s
    counts s = count_is g rs table m r s is

    within : (s : ℕ) → count r (me r) < count r s → s < length r.counts
    within s less = elim (cases_lt s (length r.counts)) [
      | inl inside ↦ inside
      | inr past ↦ absurd (omega (arith, less, get_or_past r.counts s 0 past))
    ]

-- it puts a null exactly where that may come
pub null_guard : (g : Group) (rs : List (Option Replica)) (table : Shared) (m : ℕ) (r : Replica)
    → IsMember g rs table m r → IsIdle r → (may_null r ≡ true) ↔ CanNull g (world_of g rs table) m
null_guard g rs table m r is alive = unless_wedged g rs table m r _ is (λ none. (
  λ e. let two = and_parts (not (nat_lt (next_index r) (length r.messages))) _ e in
      let three = and_parts (is_behind r) _ two.1 in record {
        may = may_choose g rs table m r is alive;
        unwedged = none;
        none_left = rw (next_is g rs table m r is, ← is.of.messages) (grind (arith, nat_tests, two.0));
        room = (room_guard g rs table m r is).0 three.1;
        behind = (behind_guard g rs table m r is).0 three.0;
      },
  λ can. let left = rw (next_is g rs table m r is, ← is.of.messages) at can.none_left in
      and_from _ _ (grind (arith, nat_tests, left))
      (and_from _ _ ((behind_guard g rs table m r is).1 can.behind) ((room_guard g rs table m r is).1 can.room)),
)) (λ can. can.unwedged)

-- the slot of the next item of another member, as it is seen
pub slot_is : (g : Group) (rs : List (Option Replica)) (table : Shared) (m : ℕ) (r : Replica) (s k : ℕ)
    → IsMember g rs table m r → s ≢ m → seen_slot g (world_of g rs table) m s k ≡ slot_of r.window r.rows s k
slot_is g rs table m r s k is other = fun_ext λ part.
    seen_is g rs table m r s (slot_column (roster g) g.window k + part) is other
    ∙ ap (λ n. seen r.rows s (slot_column n g.window k + part)) (sym (is.form.members ∙ is.of.members))
    ∙ ap (λ window. seen r.rows s (slot_column r.rows.members window k + part)) (sym is.of.window)

-- it receives exactly where that may come, and fewer were taken than anyone has messages
pub receive_guard : (g : Group) (rs : List (Option Replica)) (table : Shared) (m : ℕ) (r : Replica) (s : ℕ)
    → IsMember g rs table m r → IsIdle r
    → (may_receive r s ≡ true) ↔ (CanReceive g (world_of g rs table) m s × (count r s < greatest r.totals))
receive_guard g rs table m r s is alive =
    let w : World = world_of g rs table in
    let counts = count_is g rs table m r s is in
    let other = other_member g rs table m r s is in
    unless_wedged g rs table m r _ is (λ none. (
      λ e. let two = and_parts (is_other r s)
          (is_some (ready_item r s) && nat_lt (count r s) (greatest r.totals)) e in
          let three = and_parts (is_some (ready_item r s)) (nat_lt (count r s) (greatest r.totals)) two.1 in
          let sender : IsOther w m s = other.0 two.0 in
          let ready : IsReady (count r s) (slot_of r.window r.rows s (count r s)) = (ready_test (count r s)
          (slot_of r.window r.rows s (count r s))).0 ((some_test (ready_item r s)).0 three.0) in (
            record {
              may = may_choose g rs table m r is alive;
              unwedged = none;
              sender = sender;
              ready = subst (λ k. IsReady k (seen_slot g w m s k)) (sym counts)
                  (subst (IsReady (count r s)) (sym (slot_is g rs table m r s (count r s) is sender.other)) ready);
            },
            grind (arith, nat_tests, three.1),
          ),
      λ can. let ready : IsReady (count r s) (slot_of r.window r.rows s (count r s)) =
          subst (IsReady (count r s)) (slot_is g rs table m r s (count r s) is can.0.sender.other)
          (subst (λ k. IsReady k (seen_slot g w m s k)) counts can.0.ready) in
          and_from _ _ (other.1 can.0.sender) (and_from _ _
          ((some_test (ready_item r s)).1 ((ready_test (count r s) (slot_of r.window r.rows s (count r s))).1 ready))
          (grind (arith, nat_tests, can.1))),
    )) (λ can. can.0.unwedged)
