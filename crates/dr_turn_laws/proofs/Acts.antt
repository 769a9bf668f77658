-- What is told act by act of a whole turn: what each step asks, what it leaves of what other steps ask, and
-- that none is asked for behind the turn. A further act adds its lines here.
use Rattle.std.specs.Prelude.{Option, None, Some, is_some, option_map}
use Rattle.std.proofs.Common.{◌≡◌, refl, sym, ◌∙◌, inl, ℕ, ◌<◌, ◌==◌, Bool, true, false, length, ◌+◌, ◌-◌, ◌&&◌, ◌||◌, arith}
use Rattle.dr_entry.{specs.declared.end.End.End, proofs.{ListPlaces.both, NumberFacts.{all_below, each_below}}}
use Rattle.dr_entry.proofs.OptionFacts.{given, apart_by, differs}
use Rattle.dr_entry.specs.declared.end.End.TheVariants as ends
use Rattle.dr_history.specs.Members.{has}
use Rattle.dr_machine.specs.{Acts.{does, effect_of, CanTake}, Effects.{one_more, stamped, with_own}}
use Rattle.dr_machine.specs.{Group.{Group, columns, roster}, Guards.{HasRoom, IsUnwedged, IsDue, MayChoose, IsBehind}}
use Rattle.dr_machine.specs.{World.{World, items_received, own_word}, declared.{event.Act.Act, step.Step.Step}}
use Rattle.dr_machine.proofs.{Groups.still_room, Worlds.{publish_own, published_own, trusted}}
use Rattle.dr_machine.proofs.Writes.{own_other, row_other}
use Rattle.dr_machine.specs.declared.event.Act.TheVariants as acts
use Rattle.dr_machine.specs.declared.step.Step.TheVariants as steps
use Rattle.dr_program.specs.{Running.{Running, step_at}, Steps.IsNoJoin, Turn.{part_of, columns_in, rows_in}}
use Rattle.dr_program.specs.declared.place.{Part.Part, Place.Place, TheConstants.TURN}
use Rattle.dr_program.proofs.Parts.{numbered, is_passed, is_publish}
use Rattle.dr_turn.specs.Work.{work}
use Rattle.dr_program.specs.declared.place.Part.TheVariants as parts
use Rattle.dr_turn_laws.specs.{Rested.IsRested, Swept.{IsIdle, Swept}}
use Rattle.dr_turn_laws.specs.Wants.{Wants, ShowsMore, is_work, IsToTake, IsLeft, NoneIsLeft, IsToEnd, IsToLog, IsToPublish, IsToMark}
use Rattle.dr_turn_laws.proofs.Leaving.{Stays, done_own, end_kept, gained_other, nulled_left, shows_own, to_take}
use Rattle.dr_words.specs.declared.column.TheConstants.{BEAT_COLUMN, DONE_COLUMN, LOGGED_COLUMN, RECEIVED_COLUMN}

-- ---- what a step asks is its guard, but for what every choice asks

-- an end that is asked for is due there
is_due : (w : World) (m : ℕ) (end : End) → IsUnwedged w m → IsToEnd w m end → IsDue w m end
is_due w m ends.Done calm wants = record { unwedged = calm; all = wants }
is_due w m (ends.Suspected by) calm wants =
    record { row = wants.0; unsuspected = trusted w m by calm; named = wants.1 }
is_due w m (ends.Excluded view) calm wants = wants
is_due w m end calm wants = absurd wants

-- and the other way round
is_to_end : (w : World) (m : ℕ) (end : End) → IsUnwedged w m → IsDue w m end → IsToEnd w m end
is_to_end w m ends.Done calm due = due.all
is_to_end w m (ends.Suspected by) calm due = (due.row, due.named)
is_to_end w m (ends.NoMajority mask) calm due = absurd (due.wedged calm)
is_to_end w m (ends.Excluded view) calm due = due
is_to_end w m end calm due = absurd due

-- a step that is asked for may come, where its member may choose and suspects nobody
pub asked : (g : Group) (w : World) (m : ℕ) (s : Step) → MayChoose g w m → IsUnwedged w m
    → Wants g w m s → CanTake g w m s
asked g w m (steps.Do acts.Beat) may calm wants = record { alive = may.alive; idle = may.idle }
asked g w m (steps.Do (acts.Receive s)) may calm wants =
    record { may = may; unwedged = calm; sender = wants.0; ready = wants.1 }
asked g w m (steps.Do acts.Send) may calm wants =
    record { may = may; unwedged = calm; left = wants.0; room = wants.1 }
asked g w m (steps.Do acts.Null) may calm wants =
    record { may = may; unwedged = calm; none_left = wants.0; room = wants.1; behind = wants.2 }
asked g w m (steps.Do acts.Deliver) may calm wants = record { may = may; unwedged = calm; received = wants }
asked g w m (steps.Do acts.Publish) may calm wants = record { may = may; behind = wants }
asked g w m (steps.Do acts.Report) may calm wants = record { may = may; logged = wants }
asked g w m (steps.Do acts.Mark) may calm wants =
    record { may = may; unwedged = calm; unmarked = wants.0; whole = wants.1; durable = wants.2 }
asked g w m (steps.Do (acts.Suspect j)) may calm wants =
    record { may = may; namable = wants.0; apart = wants.1; unsuspected = trusted w m j calm }
asked g w m (steps.Do acts.Propose) may calm wants = absurd wants
asked g w m (steps.Do acts.Accept) may calm wants = absurd wants
asked g w m (steps.Do acts.Commit) may calm wants = absurd wants
asked g w m (steps.Do acts.Finish) may calm wants = record {
  may = may;
  value = wants.0;
  committed = wants.1;
  stays = wants.2;
  bank = wants.3;
  items = wants.4;
}
asked g w m (steps.Do (acts.Halt end)) may calm wants = record { may = may; due = is_due w m end calm wants }
asked g w m (steps.Do (acts.Crash end)) may calm wants = record { alive = may.alive; fault = wants }
asked g w m (steps.Look i c) may calm wants = record {
  may = may;
  row = wants.0;
  unsuspected = trusted w m i calm;
  column = wants.1;
}
asked g w m (steps.Push j c) may calm wants = record { may = may; copy = wants.0; column = wants.1 }
asked g w m steps.Append may calm wants = record { may = may; behind = wants }
asked g w m (steps.LogVote v) may calm wants = absurd wants
asked g w m (steps.Welcome j) may calm wants = record {
  may = may;
  newcomer = wants.0;
  new = wants.1;
  welcomer = wants.2;
  least = wants.3;
  none = wants.4;
}
asked g w m steps.Join may calm wants = absurd wants

-- a step that may come is asked for: an end or a vote, where its member may choose and suspects nobody
pub asks : (g : Group) (w : World) (m : ℕ) (s : Step) → (is_work s ≡ false → MayChoose g w m × IsUnwedged w m)
    → CanTake g w m s → Wants g w m s
asks g w m (steps.Do acts.Beat) calm can = tt
asks g w m (steps.Do (acts.Receive s)) calm can = (can.sender, can.ready)
asks g w m (steps.Do acts.Send) calm can = (can.left, can.room)
asks g w m (steps.Do acts.Null) calm can = (can.none_left, can.room, can.behind)
asks g w m (steps.Do acts.Deliver) calm can = can.received
asks g w m (steps.Do acts.Publish) calm can = can.behind
asks g w m (steps.Do acts.Report) calm can = can.logged
asks g w m (steps.Do acts.Mark) calm can = (can.unmarked, can.whole, can.durable)
asks g w m (steps.Do (acts.Suspect j)) calm can = (can.namable, can.apart)
asks g w m (steps.Do acts.Propose) calm can = absurd (cc ((calm refl).0.idle, can.waits))
asks g w m (steps.Do acts.Accept) calm can = absurd (cc ((calm refl).0.idle, can.waits))
asks g w m (steps.Do acts.Commit) calm can = absurd (can.wedged (calm refl).1)
asks g w m (steps.Do acts.Finish) calm can = (can.value, can.committed, can.stays, can.bank, can.items)
asks g w m (steps.Do (acts.Halt end)) calm can = is_to_end w m end (calm refl).1 can.due
asks g w m (steps.Do (acts.Crash end)) calm can = can.fault
asks g w m (steps.Look i c) calm can = (can.row, can.column)
asks g w m (steps.Push j c) calm can = (can.copy, can.column)
asks g w m steps.Append calm can = can.behind
asks g w m (steps.LogVote v) calm can = absurd (can.wedged (calm refl).1)
asks g w m (steps.Welcome j) calm can = (can.newcomer, can.new, can.welcomer, can.least, can.none)
asks g w m steps.Join calm can = absurd (cc ((calm refl).0.inside, can.outside))

-- what is asked for is no join
pub asks_no_join : (g : Group) (w : World) (m : ℕ) (s : Step) → Wants g w m s → IsNoJoin s
asks_no_join g w m steps.Join wants = absurd wants
asks_no_join g w m s wants = tt

-- ---- what a step leaves

-- the items that are to be taken, the messages that are to be put, and the nulls
receive_kept : (g : Group) (w : World) (m : ℕ) (s : Step) (i c : ℕ)
    → Option (Stays g w (effect_of g w m s) m parts.Receive i c)
receive_kept g w m (steps.Do (acts.Receive j)) i c = None
receive_kept g w m (steps.Do acts.Send) i c = Some (λ old wants. old
    (gained_other g w (effect_of g w m (steps.Do acts.Send)) m m i wants.0.other refl wants.0 wants.1))
receive_kept g w m (steps.Do acts.Null) i c = Some (λ old wants. old
    (gained_other g w (effect_of g w m (steps.Do acts.Null)) m m i wants.0.other refl wants.0 wants.1))
receive_kept g w m (steps.Do acts.Finish) i c = None
receive_kept g w m (steps.Look j d) i c = None
receive_kept g w m steps.Join i c = None
receive_kept g w m s i c = Some (λ old wants. old
    (to_take g w (effect_of g w m s) m i (items_received w m i) refl refl wants.0 wants.1))

send_kept : (g : Group) (w : World) (m : ℕ) (s : Step) (i c : ℕ)
    → Option (Stays g w (effect_of g w m s) m (parts.Do acts.Send) i c)
send_kept g w m (steps.Do (acts.Receive j)) i c = None
send_kept g w m (steps.Do acts.Send) i c = None
send_kept g w m (steps.Do acts.Null) i c = Some (λ old wants. old (nulled_left g w m wants))
send_kept g w m (steps.Do acts.Finish) i c = None
send_kept g w m (steps.Look j d) i c = None
send_kept g w m steps.Join i c = None
send_kept g w m s i c = Some (λ old wants. old (
  wants.0,
  still_room g w (effect_of g w m s) m (items_received w m m) (items_received w m m) refl (omega arith) wants.1,
))

null_kept : (g : Group) (w : World) (m : ℕ) (s : Step) (i c : ℕ)
    → Option (Stays g w (effect_of g w m s) m (parts.Do acts.Null) i c)
null_kept g w m (steps.Do (acts.Receive j)) i c = None
null_kept g w m (steps.Do acts.Send) i c = None
null_kept g w m (steps.Do acts.Null) i c = None
null_kept g w m (steps.Do acts.Finish) i c = None
null_kept g w m (steps.Look j d) i c = None
null_kept g w m steps.Join i c = None
null_kept g w m s i c = Some (λ old wants. old (
  wants.0,
  still_room g w (effect_of g w m s) m (items_received w m m) (items_received w m m) refl (omega arith) wants.1,
  wants.2,
))

-- of the other parts: an own word of a column that the part doesn't read
own_kept : (g : Group) (w : World) (m c x : ℕ) (part : Part) (i k : ℕ)
    → Option (Stays g w (with_own w m c x) m part i k)
own_kept g w m c x parts.Receive i k = None
own_kept g w m c x (parts.Do (acts.Receive s)) i k = None
own_kept g w m c x (parts.Do acts.Send) i k = None
own_kept g w m c x (parts.Do acts.Null) i k = None
own_kept g w m c x (parts.Do acts.Deliver) i k = option_map (λ apart old all. old
    (shows_own w m c x RECEIVED_COLUMN (w.next m) apart all)) (differs c RECEIVED_COLUMN)
own_kept g w m c x parts.Append i k =
    option_map (λ apart old wants. publish_own w m c x apart (old wants)) (differs c LOGGED_COLUMN)
own_kept g w m c x (parts.Do acts.Publish) i k =
    option_map (λ apart old wants. old (published_own w m c x apart wants)) (differs c LOGGED_COLUMN)
own_kept g w m c x (parts.Do acts.Report) i k = option_map (λ apart old all. old
    (shows_own w m c x LOGGED_COLUMN (w.past.durable m) apart all)) (differs c LOGGED_COLUMN)
own_kept g w m c x (parts.Do acts.Mark) i k = option_map (λ apart old wants. old
    (sym (own_other w.past.own m (w.past.view m) c x DONE_COLUMN apart) ∙ wants.0, wants.1, wants.2))
    (differs c DONE_COLUMN)
own_kept g w m c x parts.Done i k =
    option_map (λ apart old all. old (done_own w m c x apart all)) (differs c DONE_COLUMN)
own_kept g w m c x parts.Push i k = None
own_kept g w m c x (parts.Do (acts.Suspect j)) i k = None
own_kept g w m c x (parts.Do (acts.Halt end)) i k = None
own_kept g w m c x part i k = Some (λ old. old)

-- the stamp of an act
stamp_kept : (g : Group) (w : World) (m : ℕ) (part : Part) (i c : ℕ) → Option (Stays g w (stamped w m) m part i c)
stamp_kept g w m parts.Receive i c = None
stamp_kept g w m (parts.Do (acts.Receive s)) i c = None
stamp_kept g w m (parts.Do acts.Send) i c = None
stamp_kept g w m (parts.Do acts.Null) i c = None
stamp_kept g w m parts.Look i c = Some (λ old other. old other
    ∙ sym (row_other w.table (w.past.view m) m m BEAT_COLUMN (one_more 64 (w.past.acts m)) m i c other))
stamp_kept g w m parts.Push i c = None
stamp_kept g w m (parts.Do (acts.Suspect j)) i c = None
stamp_kept g w m (parts.Do (acts.Halt end)) i c = None
stamp_kept g w m (parts.Do acts.Mark) i c =
    own_kept g w m BEAT_COLUMN (one_more 64 (w.past.acts m)) (parts.Do acts.Mark) i c
stamp_kept g w m (parts.Do a) i c = own_kept g w m BEAT_COLUMN (one_more 64 (w.past.acts m)) (parts.Do a) i c
stamp_kept g w m part i c = own_kept g w m BEAT_COLUMN (one_more 64 (w.past.acts m)) part i c

-- an act, but for its stamp
does_kept : (g : Group) (w : World) (m : ℕ) (a : Act) (part : Part) (i c : ℕ)
    → Option (Stays g w (does g w m a) m part i c)
does_kept g w m a parts.Receive i c = None
does_kept g w m a (parts.Do (acts.Receive s)) i c = None
does_kept g w m a (parts.Do acts.Send) i c = None
does_kept g w m a (parts.Do acts.Null) i c = None
does_kept g w m a (parts.Do (acts.Suspect j)) i c = None
does_kept g w m a (parts.Do (acts.Halt end)) i c = None
does_kept g w m (acts.Receive s) parts.Look i c = Some (λ old. old)
does_kept g w m (acts.Receive s) part i c = None
does_kept g w m acts.Send parts.Look i c = Some (λ old. old)
does_kept g w m acts.Send part i c = None
does_kept g w m acts.Null parts.Look i c = Some (λ old. old)
does_kept g w m acts.Null part i c = None
does_kept g w m acts.Deliver (parts.Do acts.Deliver) i c = None
does_kept g w m acts.Deliver parts.Append i c = None
does_kept g w m acts.Deliver (parts.Do acts.Mark) i c = None
does_kept g w m acts.Deliver part i c = Some (λ old. old)
does_kept g w m acts.Publish part i c = own_kept g w m LOGGED_COLUMN (length (w.past.log m)) part i c
does_kept g w m acts.Report (parts.Do acts.Report) i c = None
does_kept g w m acts.Report (parts.Do acts.Mark) i c = None
does_kept g w m acts.Report part i c = Some (λ old. old)
does_kept g w m acts.Mark part i c = own_kept g w m DONE_COLUMN 1 part i c
does_kept g w m (acts.Suspect j) part i c = None
does_kept g w m acts.Propose part i c = None
does_kept g w m acts.Accept part i c = None
does_kept g w m acts.Commit part i c = None
does_kept g w m acts.Finish part i c = None
does_kept g w m (acts.Halt end) parts.Push i c = None
does_kept g w m (acts.Halt end) (parts.Do acts.Mark) i c = Some (λ old. old)
does_kept g w m (acts.Halt end) part i c = Some (λ old. old)
does_kept g w m (acts.Crash end) parts.Push i c = None
does_kept g w m (acts.Crash end) (parts.Do acts.Mark) i c = Some (λ old. old)
does_kept g w m (acts.Crash end) part i c = Some (λ old. old)
does_kept g w m acts.Beat part i c = None

-- what a step leaves
kept : (g : Group) (w : World) (m : ℕ) (s : Step) (part : Part) (i c : ℕ)
    → Option (Stays g w (effect_of g w m s) m part i c)
kept g w m s parts.Take i c = Some (λ old. tt)
kept g w m s parts.Judge i c = Some (λ old. tt)
kept g w m s parts.Receive i c = receive_kept g w m s i c
kept g w m s (parts.Do (acts.Receive j)) i c = None
kept g w m s (parts.Do (acts.Suspect j)) i c = None
kept g w m s (parts.Do (acts.Halt end)) i c = None
kept g w m s (parts.Do acts.Send) i c = send_kept g w m s i c
kept g w m s (parts.Do acts.Null) i c = null_kept g w m s i c
kept g w m (steps.Do acts.Finish) part i c = None
kept g w m (steps.Do (acts.Halt end)) parts.Push i c = Some (end_kept g w m end i c)
kept g w m (steps.Do (acts.Crash end)) parts.Push i c = Some (end_kept g w m end i c)
kept g w m (steps.Do a) part i c = both (does_kept g w m a part i c) (stamp_kept g (does g w m a) m part i c)
kept g w m steps.Append parts.Append i c = None
kept g w m steps.Append (parts.Do acts.Publish) i c = None
kept g w m steps.Append part i c = Some (λ old. old)
kept g w m (steps.Push j d) parts.Look i c =
    Some (λ old other. old other ∙ sym (row_other w.table (w.past.view m) j m d (own_word w m d) m i c other))
kept g w m (steps.Push j d) parts.Push i c = None
kept g w m (steps.Push j d) (parts.Do acts.Mark) i c = Some (λ old. old)
kept g w m (steps.Push j d) part i c = Some (λ old. old)
kept g w m (steps.Look j d) part i c = None
kept g w m (steps.LogVote v) part i c = None
kept g w m (steps.Welcome j) part i c = None
kept g w m steps.Join part i c = None

-- ---- what a part of the turn leaves

-- the step of a part where its member doesn't crash, and no append of it has failed
abbrev pub uncrashed : Running → Part → ℕ → ℕ → Step
uncrashed r parts.Append i c = steps.Append
uncrashed r parts.Push i c = steps.Push i c
uncrashed r part i c = step_at r part i c

-- the deed of part a leaves part b, or goes back to it, or is passed
abbrev leaves : Group → World → ℕ → Running → Place → Place → ℕ → ℕ → Bool
leaves g w m r p q a b = (is_passed (numbered a) || (is_publish (numbered a) && (b + 1 == a)))
    || is_some (kept g w m (uncrashed r (numbered a) p.row p.column) (numbered b) q.row q.column)

-- each deed of a turn that isn't passed leaves what is known of the parts before it
all_leave : (g : Group) (w : World) (m : ℕ) (r : Running) (p q : Place)
    → all_below (length TURN - 1) (λ a. all_below a (leaves g w m r p q a)) ≡ true
unfolding all_below kept receive_kept send_kept null_kept does_kept stamp_kept own_kept both differs apart_by
all_leave g w m r p q = refl

-- what is known of a place stays known after the deed of a later part that isn't passed, but where that goes
-- back to it
pub earlier_kept : (g : Group) (w : World) (m : ℕ) (r : Running) (p q : Place) → p.part + 1 < length TURN
    → q.part < p.part → is_passed (part_of p) ≡ false → (is_publish (part_of p) && (q.part + 1 == p.part)) ≡ false
    → Stays g w (effect_of g w m (uncrashed r (part_of p) p.row p.column)) m (part_of q) q.row q.column
earlier_kept g w m r p q inside before plain forth = given _ _ (kept g w m (uncrashed r (part_of p) p.row p.column)
    (part_of q) q.row q.column) plain forth (each_below p.part q.part (leaves g w m r p q p.part)
    (each_below (length TURN - 1) p.part (λ a. all_below a (leaves g w m r p q a)) (all_leave g w m r p q)
    (omega (arith, inside))) before)

-- ---- behind the turn

-- the member stands behind the pushes in its turn, and its view is of the roster
pub record IsPastPushes (g : Group) (w : World) (m : ℕ) (p : Place) : Type 0 where
  pub swept : Swept g w m p
  pub late : length TURN - 6 < p.part
  pub view : (i : ℕ) → has (w.members m) i ≡ true → i < roster g

-- a row and a column of a part
pub idle_part : (g : Group) (w : World) (m : ℕ) (p : Place) (a i c : ℕ) → IsPastPushes g w m p → a < length TURN - 6
    → i < rows_in (roster g) (numbered a) → c < columns_in (columns g) (numbered a) → IsIdle g w m (numbered a) i c
idle_part g w m p a i c behind early row column = behind.swept (record { part = a; row = i; column = c })
    (record { part = omega (arith, early); row = row; column = column }) (inl (omega (arith, early, behind.late)))

-- no step of the turn is asked for. Parts behind those of the items are counted from the end
pub idle_work : (g : Group) (w : World) (m : ℕ) (p : Place) → IsPastPushes g w m p
    → (s : Step) → is_work s ≡ true → Wants g w m s → ⊥
idle_work g w m p behind s work = by s work
  where
    one : (a : ℕ) → a < length TURN - 6 → rows_in (roster g) (numbered a) ≡ 1
        → columns_in (columns g) (numbered a) ≡ 1 → IsIdle g w m (numbered a) 0 0
    one a early row column = idle_part g w m p a 0 0 behind early (omega (arith, row)) (omega (arith, column))

    by : (s : Step) → is_work s ≡ true → Wants g w m s → ⊥
    by (steps.Do (acts.Receive i)) work = λ wants.
        idle_part g w m p 3 i 0 behind (omega arith) (behind.view i wants.0.member) (omega arith) wants
    by (steps.Do acts.Send) work = one 4 (omega arith) refl refl
    by (steps.Do acts.Null) work = one 5 (omega arith) refl refl
    by (steps.Do acts.Deliver) work = one (length TURN - 17) (omega arith) refl refl
    by steps.Append work = λ wants. one (length TURN - 15) (omega arith) refl refl
        (one (length TURN - 16) (omega arith) refl refl wants)
    by (steps.Do acts.Publish) work = one (length TURN - 15) (omega arith) refl refl
    by (steps.Do acts.Report) work = one (length TURN - 14) (omega arith) refl refl
    by (steps.Do acts.Mark) work = one (length TURN - 13) (omega arith) refl refl
    by s work = absurd (cc)

-- ---- a member at rest

-- m has nothing left of each that a turn does
pub record HasNothingLeft (g : Group) (w : World) (m : ℕ) : Type 0 where
  pub items : (s : ℕ) → IsToTake g w m s → ⊥
  pub messages : IsLeft g w m × HasRoom g w m (items_received w m m) → ⊥
  pub nulls : NoneIsLeft g w m × HasRoom g w m (items_received w m m) × IsBehind w m → ⊥
  pub places : ShowsMore w m RECEIVED_COLUMN (w.next m) → ⊥
  pub entries : IsToLog w m → ⊥
  pub logged : IsToPublish w m → ⊥
  pub durable : ShowsMore w m LOGGED_COLUMN (w.past.durable m) → ⊥
  pub mark : IsToMark g w m → ⊥

-- a member at rest has nothing left
pub nothing_left : {g : Group} {w : World} {m : ℕ} → IsRested g w m → HasNothingLeft g w m
nothing_left rested = record {
  items = λ s. rested.idle (steps.Do (acts.Receive s)) refl;
  messages = rested.idle (steps.Do acts.Send) refl;
  nulls = rested.idle (steps.Do acts.Null) refl;
  places = rested.idle (steps.Do acts.Deliver) refl;
  entries = rested.idle steps.Append refl;
  logged = rested.idle (steps.Do acts.Publish) refl;
  durable = rested.idle (steps.Do acts.Report) refl;
  mark = rested.idle (steps.Do acts.Mark) refl;
}
