-- All cases by acts and steps: a replica that has no end and passes its test is one whose event may come, and
-- the other way round; what the step makes of it is the effect; and which room the step asks for.
use Rattle.std.specs.Prelude.{Option, None, Some, is_some, nat_lt}
use Rattle.std.proofs.Common.{◌≡◌, refl, sym, ap, ◌∙◌, ◌↔◌, subst, ℕ, ◌+◌, ◌<◌, ◌≤◌, ◌&&◌, not, true, false, Bool, List, length, arith, slice_index}
use Rattle.std.proofs.lemmas.Bool.{and_from, and_parts, Decides.nat_tests}
use Rattle.dr_entry.{specs.declared.{end.End.End, entry.Entry.Entry}, proofs.OptionFacts.none_test}
use Rattle.dr_entry.proofs.PlainFacts.{with_nothing, with_letter}
use Rattle.dr_history.specs.{Members.has, Order.messages_from}
use Rattle.dr_words.specs.{Columns.columns_of, Layout.word_index_of, declared.column.TheConstants.BEAT_COLUMN}
use Rattle.dr_machine.specs.{Acts.{CanDo, CanTake, effect_of}, Effects.{finished_history, one_more}}
use Rattle.dr_machine.specs.{Group.{Group, columns, roster}, World.{World, items_received}, declared.step.Step.Step}
use Rattle.dr_machine.specs.Guards.{CanFinish, CanJoin, IsInView, IsRunning, MayChoose, MayTurn}
use Rattle.dr_machine.{specs.declared.event.Act.Act, proofs.{Groups.step_alive, Writes.count_written}}
use Rattle.dr_machine.specs.declared.step.Step.TheVariants as steps
use Rattle.dr_program.specs.{Acts.{may, taken}, Presence.with_present, Reading.{Shared, letters_of, world_of}}
use Rattle.dr_program.specs.Replica.{Replica, greatest, is_inside, is_other, is_others, is_own, is_fault, may_give, may_null, may_receive, may_send, may_suspect, me, looked, pushed}
use Rattle.dr_program.specs.Steps.{has_cell, allows, allows_inside, is_free, may_take, index_in, found, stepped_over, HasLetter, IsNoJoin}
use Rattle.dr_program.proofs.{Holdings.held_of, Replicas.{word_inside, fault_test}}
use Rattle.dr_machine.specs.declared.event.Act.TheVariants as acts
use Rattle.dr_refine.specs.Programs.{HasRoomFor, IsMember, acted_table, stored_in, with_table_word}
use Rattle.dr_refine.proofs.Acts.{append_effect, beat_effect, deliver_effect, publish_effect, report_effect, mark_effect, end_effect}
use Rattle.dr_refine.proofs.Finishes.{finish_effect, finish_guard, finish_room}
use Rattle.dr_refine.proofs.Guards.{IsIdle, count_is, in_view_test, may_turn, no_vote_waits, beat_guard, look_guard, suspect_guard, other_member, other_below, push_guard, send_guard, null_guard, receive_guard, deliver_guard, append_guard, publish_guard, report_guard, mark_guard, halt_guard, crash_guard}
use Rattle.dr_refine.proofs.{Joins.{give_guard, welcome_effect}, Looks.{look_effect, push_effect}}
use Rattle.dr_refine.proofs.{Puts.{null_effect, send_effect, receive_effect}, Suspects.suspect_effect}
use Rattle.dr_refine.proofs.Votes.{accept_effect, accept_guard, commit_effect, commit_guard, propose_guard, vote_effect, vote_guard}
use Rattle.dr_rows.specs.Words.{own}

-- a running member has no end
pub alive : (g : Group) (rs : List (Option Replica)) (table : Shared) (m : ℕ) (r : Replica)
    → IsMember g rs table m r → IsRunning g (world_of g rs table) m → r.end ≡ None
alive g rs table m r is running = sym (ap (λ h. h.end) (held_of g rs table m r is.there)) ∙ running.running

end_guard : (g : Group) (rs : List (Option Replica)) (table : Shared) (m : ℕ) (r : Replica) (end : End)
    → IsMember g rs table m r → r.end ≡ None → (is_fault end ≡ true)
    ↔ (CanDo g (world_of g rs table) m (acts.Crash end) × HasRoomFor r (steps.Do (acts.Crash end)))
end_guard g rs table m r end is unended = (
  λ e. ((crash_guard g rs table m r end is unended).0 ((fault_test end).0 e), tt),
  λ can. (fault_test end).1 ((crash_guard g rs table m r end is unended).1 can.0),
)

-- a test behind that whether a vote waits
unless_waiting : (g : Group) (rs : List (Option Replica)) (table : Shared) (m : ℕ)
    (r : Replica) (test : Bool) {Can : Type 0} → IsMember g rs table m r → (r.pending ≡ None → (test ≡ true) ↔ Can)
    → (Can → MayTurn g (world_of g rs table) m) → ((not (is_some r.pending) && test) ≡ true) ↔ Can
unless_waiting g rs table m r test is same may = (
  λ e. let two = and_parts (not (is_some r.pending)) test e in
      (same ((none_test r.pending).0 two.0)).0 two.1,
  λ can. let idle = no_vote_waits g rs table m r is (may can) in
      and_from (not (is_some r.pending)) test ((none_test r.pending).1 idle) ((same idle).1 can),
)

-- and whether it is in its view
unless_outside : (g : Group) (rs : List (Option Replica)) (table : Shared) (m : ℕ)
    (r : Replica) (test : Bool) {Can : Type 0} → IsMember g rs table m r → (is_inside r ≡ true → (test ≡ true) ↔ Can)
    → (Can → IsInView (world_of g rs table) m) → ((is_inside r && test) ≡ true) ↔ Can
unless_outside g rs table m r test is same may = (
  λ e. let two = and_parts (is_inside r) test e in (same two.0).0 two.1,
  λ can. let inside = (in_view_test g rs table m r is).1 (may can) in
      and_from (is_inside r) test inside ((same inside).1 can),
)

-- so only a member in its view of which no vote waits takes a step of its own choice
unless_idle : (g : Group) (rs : List (Option Replica)) (table : Shared) (m : ℕ) (r : Replica)
    (test : Bool) {Can : Type 0} → IsMember g rs table m r → r.end ≡ None → (IsIdle r → (test ≡ true) ↔ Can)
    → (Can → MayChoose g (world_of g rs table) m) → ((not (is_some r.pending) && (is_inside r && test)) ≡ true) ↔ Can
unless_idle g rs table m r test is unended same may = unless_waiting g rs table m r (is_inside r && test) is
    (λ idle. unless_outside g rs table m r test is (λ inside. same (unended, idle, inside)) (λ can. (may can).inside))
    (λ can. record { alive = (may can).alive; idle = (may can).idle })

-- a replica without an end may do an act exactly where that may come
pub act_guard : (g : Group) (rs : List (Option Replica)) (table : Shared) (m : ℕ) (r : Replica) (a : Act)
    → IsMember g rs table m r → IsIdle r
    → (may r a ≡ true) ↔ (CanDo g (world_of g rs table) m a × HasRoomFor r (steps.Do a))
act_guard g rs table m r acts.Beat is unended =
    (λ e. (beat_guard g rs table m r is unended.0 unended.1, tt), λ can. refl)
act_guard g rs table m r (acts.Receive s) is unended = (
  λ e. (receive_guard g rs table m r s is unended).0 (and_parts (nat_lt s r.roster) (may_receive r s) e).1,
  λ can. and_from (nat_lt s r.roster) (may_receive r s) (other_below g rs table m r s is
      ((other_member g rs table m r s is).1 can.0.sender)) ((receive_guard g rs table m r s is unended).1 can),
)
act_guard g rs table m r acts.Send is unended = with_nothing (send_guard g rs table m r is unended)
act_guard g rs table m r acts.Null is unended = with_nothing (null_guard g rs table m r is unended)
act_guard g rs table m r acts.Deliver is unended = deliver_guard g rs table m r is unended
act_guard g rs table m r acts.Publish is unended = with_nothing (publish_guard g rs table m r is unended)
act_guard g rs table m r acts.Report is unended = with_nothing (report_guard g rs table m r is unended)
act_guard g rs table m r acts.Mark is unended = with_nothing (mark_guard g rs table m r is unended)
act_guard g rs table m r (acts.Suspect j) is unended = with_nothing (suspect_guard g rs table m r j is unended)
act_guard g rs table m r acts.Finish is unended =
    let same = finish_guard g rs table m r is unended in (
      λ e. let t = same.0 e in (t.0, (t.1, t.2)),
      λ can. same.1 (can.0, can.1.0, can.1.1),
    )
act_guard g rs table m r acts.Propose is unended = with_nothing (propose_guard g rs table m r is unended.0 unended.2)
act_guard g rs table m r acts.Accept is unended = with_nothing (accept_guard g rs table m r is unended.0 unended.2)
act_guard g rs table m r acts.Commit is unended = with_nothing (commit_guard g rs table m r is unended)
act_guard g rs table m r (acts.Halt end) is unended = with_nothing (halt_guard g rs table m r end is unended)
act_guard g rs table m r (acts.Crash end) is unended = end_guard g rs table m r end is unended.0

-- a test of two and_parts
pub cell_test : (g : Group) (rs : List (Option Replica)) (table : Shared) (m : ℕ) (r : Replica) (i c : ℕ)
    → IsMember g rs table m r → (has_cell r i c ≡ true) ↔ ((is_other r i ≡ true) × (c < columns g))
cell_test g rs table m r i c is = (
  λ e. let two = and_parts (nat_lt i r.roster) (is_other r i && nat_lt c (columns_of r.roster r.window)) e in
      let three = and_parts (is_other r i) (nat_lt c (columns_of r.roster r.window)) two.1 in
      (three.0, subst (λ k. c < k) wide (grind (arith, nat_tests, three.1))),
  λ p. and_from (nat_lt i r.roster) (is_other r i && nat_lt c (columns_of r.roster r.window))
      (other_below g rs table m r i is p.0) (and_from (is_other r i) (nat_lt c (columns_of r.roster r.window)) p.0
      (let below : c < columns_of r.roster r.window = subst (λ k. c < k) (sym wide) p.1 in
      grind (arith, nat_tests, below))),
)
  where
    wide : columns_of r.roster r.window ≡ columns g
    wide = ap (λ n. columns_of n r.window) is.of.members ∙ ap (columns_of (roster g)) is.of.window

-- a replica in its view of which no vote waits may take a step exactly where that may come
free_guard : (g : Group) (rs : List (Option Replica)) (table : Shared) (m : ℕ) (r : Replica) (s : Step)
    → IsMember g rs table m r → IsIdle r → IsNoJoin s
    → (allows_inside r s ≡ true) ↔ (CanTake g (world_of g rs table) m s × HasRoomFor r s)
free_guard g rs table m r (steps.Do a) is unended no_join = act_guard g rs table m r a is unended
free_guard g rs table m r (steps.Look i c) is unended no_join = (
  λ e. let two = and_parts (not (has r.suspects i)) (has_cell r i c) e in
      let cell = (cell_test g rs table m r i c is).0 two.1 in
      ((look_guard g rs table m r i c is unended cell.1).0 (two.0, cell.0), tt),
  λ can. let two = (look_guard g rs table m r i c is unended can.0.column).1 can.0 in
      and_from (not (has r.suspects i)) (has_cell r i c) two.0
      ((cell_test g rs table m r i c is).1 (two.1, can.0.column)),
)
free_guard g rs table m r (steps.Push j c) is unended no_join = (
  λ e. let cell = (cell_test g rs table m r j c is).0 e in
      ((push_guard g rs table m r j c is unended cell.1).0 cell.0, tt),
  λ can. (cell_test g rs table m r j c is).1
      ((push_guard g rs table m r j c is unended can.0.column).1 can.0, can.0.column),
)
free_guard g rs table m r steps.Append is unended no_join = with_nothing (append_guard g rs table m r is unended)
free_guard g rs table m r (steps.LogVote v) is unended no_join = with_nothing (vote_guard g rs table m r v is unended)
free_guard g rs table m r steps.Join is unended no_join = absurd no_join
free_guard g rs table m r (steps.Welcome j) is unended no_join = with_nothing (give_guard g rs table m r j is unended)

join_guard : (g : Group) (rs : List (Option Replica)) (table : Shared) (m : ℕ) (r : Replica)
    → IsMember g rs table m r → r.end ≡ None → r.pending ≡ None
    → ((not (is_inside r) ≡ true) × ((es : List Entry) × (letters_of table.letters m ≡ Some es))) ↔ CanJoin g (world_of g rs table) m
join_guard g rs table m r is unended idle =
    let inside = in_view_test g rs table m r is in (
      λ e. record {
        may = may_turn g rs table m r is unended idle;
        letter = e.1.0;
        given = e.1.1;
        outside = none_inside (has ((world_of g rs table).members m) m) refl inside.1 e.0;
      },
      λ can. (out (is_inside r) refl inside.0 can.outside, (can.letter, can.given)),
    )
  where
    none_inside : (b : Bool) → has ((world_of g rs table).members m) m ≡ b
        → (has ((world_of g rs table).members m) m ≡ true → is_inside r ≡ true) → not (is_inside r) ≡ true
        → has ((world_of g rs table).members m) m ≡ false
    none_inside false e there apart = e
    none_inside true e there apart = absurd (grind (arith, there e, apart))

    out : (b : Bool) → is_inside r ≡ b → (is_inside r ≡ true → has ((world_of g rs table).members m) m ≡ true)
        → has ((world_of g rs table).members m) m ≡ false → not (is_inside r) ≡ true
    out false e there apart = ap not e
    out true e there apart = absurd (cc (there e, apart))

-- a step other than a join may be taken by one without an end exactly where that may come
pub step_guard : (g : Group) (rs : List (Option Replica)) (table : Shared) (m : ℕ) (r : Replica) (s : Step)
    → IsMember g rs table m r → r.end ≡ None → IsNoJoin s
    → ((is_free r s && allows r s) ≡ true) ↔ (CanTake g (world_of g rs table) m s × HasRoomFor r s)
step_guard g rs table m r (steps.Do acts.Propose) is unended no_join =
    unless_outside g rs table m r (is_own (me r) r.pending) is
    (λ inside. with_nothing (propose_guard g rs table m r is unended inside)) (λ can. can.0.inside)
step_guard g rs table m r (steps.Do acts.Accept) is unended no_join =
    unless_outside g rs table m r (is_others (me r) r.pending) is
    (λ inside. with_nothing (accept_guard g rs table m r is unended inside)) (λ can. can.0.inside)
step_guard g rs table m r (steps.Do (acts.Crash end)) is unended no_join = end_guard g rs table m r end is unended
step_guard g rs table m r (steps.Do acts.Beat) is unended no_join = unless_waiting g rs table m r true is
    (λ idle. (λ e. (beat_guard g rs table m r is unended idle, tt), λ can. refl)) (λ can. can.0)
step_guard g rs table m r (steps.Do a) is unended no_join =
    unless_idle g rs table m r (may r a) is unended (act_guard g rs table m r a is) (λ can. can.0.may)
step_guard g rs table m r steps.Join is unended no_join = absurd no_join
step_guard g rs table m r s is unended no_join = unless_idle g rs table m r (allows_inside r s) is unended
    (λ idle. free_guard g rs table m r s is idle no_join) (λ can. can.0.may)

-- and any one, where it finds a letter if it needs one
pub taken_guard : (g : Group) (rs : List (Option Replica)) (table : Shared) (m : ℕ) (r : Replica) (s : Step)
    → IsMember g rs table m r → r.end ≡ None → (((is_free r s && allows r s) ≡ true)
    × HasLetter (letters_of table.letters m) s) ↔ (CanTake g (world_of g rs table) m s × HasRoomFor r s)
taken_guard g rs table m r steps.Join is unended = (
  λ e. let two = and_parts (not (is_some r.pending)) (not (is_inside r)) e.0 in
      ((join_guard g rs table m r is unended ((none_test r.pending).0 two.0)).0 (two.1, e.1), tt),
  λ can. let idle = no_vote_waits g rs table m r is can.0.may in
      let test = (join_guard g rs table m r is unended idle).1 can.0 in
      (and_from (not (is_some r.pending)) (not (is_inside r)) ((none_test r.pending).1 idle) test.0, test.1),
)
taken_guard g rs table m r (steps.Do a) is unended = with_letter (step_guard g rs table m r (steps.Do a) is unended tt)
taken_guard g rs table m r (steps.Look i c) is unended = with_letter (step_guard g rs table m r (steps.Look i c) is unended tt)
taken_guard g rs table m r (steps.Push j c) is unended = with_letter (step_guard g rs table m r (steps.Push j c) is unended tt)
taken_guard g rs table m r steps.Append is unended = with_letter (step_guard g rs table m r steps.Append is unended tt)
taken_guard g rs table m r (steps.LogVote v) is unended = with_letter (step_guard g rs table m r (steps.LogVote v) is unended tt)
taken_guard g rs table m r (steps.Welcome j) is unended = with_letter (step_guard g rs table m r (steps.Welcome j) is unended tt)

-- a replica may take a step exactly where that may come
pub step_test : (g : Group) (rs : List (Option Replica)) (table : Shared) (m : ℕ) (r : Replica) (s : Step)
    → IsMember g rs table m r → ((may_take r s ≡ true) × HasLetter (letters_of table.letters m) s)
    ↔ (CanTake g (world_of g rs table) m s × HasRoomFor r s)
step_test g rs table m r s is = (
  λ e. let two = and_parts (not (is_some r.end)) (is_free r s && allows r s) e.0 in
      (taken_guard g rs table m r s is ((none_test r.end).0 two.0)).0 (two.1, e.1),
  λ can. let unended = alive g rs table m r is (step_alive g (world_of g rs table) m s can.0) in
      let test = (taken_guard g rs table m r s is unended).1 can in
      (and_from (not (is_some r.end)) (is_free r s && allows r s) ((none_test r.end).1 unended) test.0, test.1),
)

-- an act of a replica is the effect of the act
pub act_effect : (g : Group) (rs : List (Option Replica)) (table : Shared) (m : ℕ) (r : Replica) (a : Act)
    → IsMember g rs table m r → allows r (steps.Do a) ≡ true → world_of g (with_present rs m
    (taken r a)) (acted_table g table m r) ≡ effect_of g (world_of g rs table) m (steps.Do a)
act_effect g rs table m r acts.Beat is may = beat_effect g rs table m r is
act_effect g rs table m r (acts.Receive s) is may =
    let test = and_parts (is_inside r) (nat_lt s r.roster && may_receive r s) may in
    receive_effect g rs table m r s is (and_parts (nat_lt s r.roster) (may_receive r s) test.1).1
act_effect g rs table m r acts.Send is may = send_effect g rs table m r is (and_parts (is_inside r) (may_send r) may).1
act_effect g rs table m r acts.Null is may = null_effect g rs table m r is (and_parts (is_inside r) (may_null r) may).1
act_effect g rs table m r acts.Deliver is may = deliver_effect g rs table m r is
act_effect g rs table m r acts.Publish is may = publish_effect g rs table m r is
act_effect g rs table m r acts.Report is may = report_effect g rs table m r is
act_effect g rs table m r acts.Mark is may = mark_effect g rs table m r is
act_effect g rs table m r (acts.Suspect j) is may =
    let test = and_parts (is_inside r) (may_suspect r j) may in suspect_effect g rs table m r j is test.0 test.1
act_effect g rs table m r acts.Finish is may = finish_effect g rs table m r is
act_effect g rs table m r acts.Propose is may = accept_effect g rs table m r is
act_effect g rs table m r acts.Accept is may = accept_effect g rs table m r is
act_effect g rs table m r acts.Commit is may = commit_effect g rs table m r is
act_effect g rs table m r (acts.Halt end) is may = end_effect g rs table m r end is
act_effect g rs table m r (acts.Crash end) is may = end_effect g rs table m r end is

-- ---- room

-- a replica with room for one entry more has the room that a step asks for, where what comes of the step keeps
-- within what it may hold
pub room_by : (g : Group) (rs : List (Option Replica)) (table : Shared) (m : ℕ) (r : Replica) (s : Step)
    → IsMember g rs table m r → CanTake g (world_of g rs table) m s → length r.history < r.room
    → ((v i : ℕ) → (effect_of g (world_of g rs table) m s).past.count m v i ≤ greatest r.totals)
    → length ((effect_of g (world_of g rs table) m s).past.history m) ≤ r.room
    → ((can : CanFinish g (world_of g rs table) m)
    → length (messages_from m (finished_history g (world_of g rs table) m can.value)) ≤ length r.messages)
    → HasRoomFor r s
room_by g rs table m r (steps.Do (acts.Receive s)) is can entry counts history few =
    let w : World = world_of g rs table in omega (
      arith,
      counts (w.past.view m) s,
      count_written w.past.count m (w.past.view m) s (items_received w m s + 1),
      count_is g rs table m r s is,
    )
room_by g rs table m r (steps.Do acts.Deliver) is can entry counts history few = entry
room_by g rs table m r (steps.Do acts.Finish) is can entry counts history few =
    finish_room g rs table m r is can history (few can)
room_by g rs table m r s is can entry counts history few = tt

-- ---- words of the table

index_is : (g : Group) (rs : List (Option Replica)) (table : Shared) (m : ℕ) (r : Replica) (copy row column : ℕ)
    → IsMember g rs table m r → index_in r copy row column ≡ word_index_of (roster g) g.window r.view copy row column
index_is g rs table m r copy row column is = ap (λ n. word_index_of n r.window r.view copy row column) is.of.members
    ∙ ap (λ w. word_index_of (roster g) w r.view copy row column) is.of.window

-- the word that a look finds
pub found_is : (g : Group) (rs : List (Option Replica)) (table : Shared) (m : ℕ) (r : Replica) (i c : ℕ)
    → IsMember g rs table m r
    → found table.words r i c ≡ slice_index table.words (word_index_of (roster g) g.window r.view m i c)
found_is g rs table m r i c is = ap (λ k. slice_index table.words (index_in r k i c)) is.of.number
    ∙ ap (slice_index table.words) (index_is g rs table m r m i c is)

stamped_is : (g : Group) (rs : List (Option Replica)) (table : Shared) (m : ℕ) (r : Replica) → IsMember g rs table m r
    → with_table_word table (index_in r (me r) (me r) BEAT_COLUMN) (one_more 64 r.acts) ≡ acted_table g table m r
stamped_is g rs table m r is =
    ap (λ k. with_table_word table (index_in r k k BEAT_COLUMN) (one_more 64 r.acts)) is.of.number
    ∙ ap (λ i. with_table_word table i (one_more 64 r.acts)) (index_is g rs table m r m m BEAT_COLUMN is)

-- ---- steps

-- a step of a replica and of the table, other than a join, is the effect of the step
pub step_effect : (g : Group) (rs : List (Option Replica)) (table : Shared) (m : ℕ) (r : Replica) (s : Step)
    → IsMember g rs table m r → allows r s ≡ true → IsNoJoin s → world_of g (with_present rs m
    (stepped_over table.words r s)) (stored_in table r s) ≡ effect_of g (world_of g rs table) m s
step_effect g rs table m r (steps.Do a) is may no_join = ap (world_of g (with_present rs m (taken r a)))
    (stamped_is g rs table m r is) ∙ act_effect g rs table m r a is may
step_effect g rs table m r (steps.Look i c) is may no_join =
    let test = and_parts (is_inside r) (not (has r.suspects i) && has_cell r i c) may in
    let cell = (cell_test g rs table m r i c is).0 (and_parts (not (has r.suspects i)) (has_cell r i c) test.1).1 in
    ap (λ word. world_of g (with_present rs m (looked r i c word)) table) (found_is g rs table m r i c is)
    ∙ look_effect g rs table m r i c is cell.0 cell.1
step_effect g rs table m r (steps.Push j c) is may no_join =
    let cell = (cell_test g rs table m r j c is).0 (and_parts (is_inside r) (has_cell r j c) may).1 in
    ap (λ k. world_of g (with_present rs m (pushed r j c))
    (with_table_word table (index_in r j k c) (own r.rows c))) is.of.number
    ∙ ap (λ k. world_of g (with_present rs m (pushed r j c)) (with_table_word table k (own r.rows c)))
    (index_is g rs table m r j m c is) ∙ push_effect g rs table m r j c is cell.0 cell.1
step_effect g rs table m r steps.Append is may no_join = append_effect g rs table m r is
step_effect g rs table m r (steps.LogVote v) is may no_join = vote_effect g rs table m r v is
step_effect g rs table m r (steps.Welcome j) is may no_join =
    welcome_effect g rs table m r j is (and_parts (is_inside r) (may_give r j) may).1
step_effect g rs table m r steps.Join is may no_join = absurd no_join

-- ---- whom a step gives a letter

-- the word that a look finds is the one in the world
pub word_is : (g : Group) (rs : List (Option Replica)) (table : Shared) (m : ℕ) (r : Replica) (i c : ℕ)
    → IsMember g rs table m r → m < roster g → i < roster g → c < columns g
    → (world_of g rs table).table ((world_of g rs table).past.view m) m i c ≡ found table.words r i c
word_is g rs table m r i c is member row column =
    let w : World = world_of g rs table in
    let view : w.past.view m ≡ r.view = ap (λ x. x.view) (held_of g rs table m r is.there) in
    ap (λ v. w.table v m i c) view ∙ word_inside g table.words r.view m i c
    (omega (arith, is.form.bank, is.of.banks)) member row column ∙ sym (found_is g rs table m r i c is)
