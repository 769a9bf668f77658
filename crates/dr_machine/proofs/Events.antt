-- The event that a step of a member is: of that member, and that step of it. And which few steps change how
-- the members stand, what they have put and delivered, and who shows done.
use Rattle.std.specs.Prelude.{Option, unwrap_or}
use Rattle.std.proofs.Common.{◌≡◌, ◌∙◌, ◌⊎◌, ap, refl, subst, sym, inl, inr, ℕ, ◌+◌, arith, List, [], ◌∷◌, ◌++◌, Bool, true, false}
use Rattle.dr_entry.specs.declared.{end.{End.End, SentItem.SentItem}, entry.{Entry.Entry, Item.Item}}
use Rattle.dr_entry.{specs.declared.record.Value.Value, proofs.Entries.Letters}
use Rattle.dr_entry.specs.declared.end.SentItem.TheVariants as sent_items
use Rattle.dr_history.specs.History.{Sent, last_view}
use Rattle.dr_words.specs.{Masks.with_member, declared.column.TheConstants.{BEAT_COLUMN, DONE_COLUMN}}
use Rattle.dr_words.proofs.Rewrites.{accepted_rest, wedged_rest}
use Rattle.dr_ring.specs.{Pieces.pieces, Slots.slot_column}
use Rattle.dr_machine.specs.{Acts.{CanDo, CanTake, does, effect_of, Guard, effect}, declared.step.Step.Step}
use Rattle.dr_machine.specs.Effects.{accepts, commits, delivers, ends, finishes, gains, joins, marks, next_item, one_more, puts, reports, row_with, stamped, stamped_in, suspects, welcomes}
use Rattle.dr_machine.specs.{Events.{event_of, member_of, step_of}, Group.{Group, roster}, declared.event.Act.Act}
use Rattle.dr_machine.specs.Guards.{CanCommit, CanDeliver, CanFinish, CanJoin, CanMark, CanNull, CanReport, CanSend, CanSuspect, CanWelcome, IsDue, IsFault, IsInView, IsRunning, next_index}
use Rattle.dr_machine.{specs.{Run.IsReached, Writes.{at, at₂}}, proofs.Runs.reached_more}
use Rattle.dr_machine.specs.{World.{World, items_received}, declared.step.Step.TheVariants.{Do, Join, Welcome, Look}}
use Rattle.dr_machine.specs.declared.event.Act.TheVariants as acts
use Rattle.dr_machine.specs.Events as events
use Rattle.dr_machine.specs.declared.step.Step.TheVariants as steps

-- whose event it is
pub member_of_event : (m : ℕ) (s : Step) → member_of (event_of m s) ≡ m
member_of_event m (Do acts.Mark) = refl
member_of_event m (Do a) = refl
member_of_event m s = refl

-- which step of that member
pub step_of_event : (m : ℕ) (s : Step) → step_of (event_of m s) ≡ s
step_of_event m (Do acts.Mark) = refl
step_of_event m (Do a) = refl
step_of_event m s = refl

-- ---- how the members stand

-- the view that each member is in, with its members, those that it suspects, what it has committed, and how
-- it ended
pub record Standing : Type 0 where
  pub view : ℕ → ℕ
  pub members : ℕ → ℕ
  pub suspected : ℕ → ℕ
  pub committed : ℕ → Option Value
  pub end : ℕ → Option End

abbrev pub standing : World → Standing
standing w = record {
  view = w.past.view;
  members = w.members;
  suspected = w.suspects;
  committed = w.committed;
  end = w.end;
}

-- what P has to hold of, to hold of how they stand after any step of m: after those by which it goes on in
-- the next view, joins, commits, suspects another or ends, and of how they stand before, since no other changes that
pub record StandingCases (g : Group) (w : World) (m : ℕ) (P : Standing → Type 0) : Type 0 where
  pub goes_on : CanFinish g w m → P (standing (finishes g w m))
  pub chooses : CanCommit g w m → P (standing (commits w m))
  pub wedges : (j : ℕ) → CanSuspect g w m j → P (standing (suspects g w m j))
  pub joins : CanJoin g w m → P (standing (joins w m))
  pub stops : (end : End) → IsRunning g w m → (IsInView w m × IsDue w m end) ⊎ IsFault end
      → P (standing (ends w m end))
  pub stays : P (standing w)

pub standing_after : (g : Group) (w : World) (m : ℕ) (s : Step) (P : Standing → Type 0) → CanTake g w m s
    → StandingCases g w m P → P (standing (effect_of g w m s))
standing_after g w m (Do acts.Finish) P can cases = cases.goes_on can
standing_after g w m (Do acts.Commit) P can cases = cases.chooses can
standing_after g w m (Do (acts.Suspect j)) P can cases = cases.wedges j can
standing_after g w m (Do (acts.Halt end)) P can cases = cases.stops end can.may.alive (inl (can.may.inside, can.due))
standing_after g w m (Do (acts.Crash end)) P can cases = cases.stops end can.alive (inr can.fault)
standing_after g w m (Do a) P can cases = cases.stays
standing_after g w m Join P can cases = cases.joins can
standing_after g w m s P can cases = cases.stays

-- ---- what the members have put and delivered

-- the view that each member is in, what it has put, what it has delivered, how much of that it knows to be
-- durable, the next place that it delivers, and its first message in the view
pub record Progress : Type 0 where
  pub view : ℕ → ℕ
  pub sent : Sent
  pub history : ℕ → List Entry
  pub durable : ℕ → ℕ
  pub next : ℕ → ℕ
  pub base : ℕ → ℕ

abbrev pub progress : World → Progress
progress w = record {
  view = w.past.view;
  sent = w.past.sent;
  history = w.past.history;
  durable = w.past.durable;
  next = w.next;
  base = w.base;
}

-- m may put this next: its next message, or a null
abbrev pub IsNextItem : Group → World → ℕ → SentItem → Type 0
IsNextItem g w m (sent_items.Index i) = CanSend g w m × (i ≡ next_index w m)
IsNextItem g w m sent_items.Null = CanNull g w m

-- what P has to hold of, to hold of that after any step of m: after those by which it puts an item, delivers
-- a place, knows more to be durable, goes on in the next view or joins, and of what is so before
pub record ProgressCases (g : Group) (w : World) (m : ℕ) (P : Progress → Type 0) : Type 0 where
  pub puts_item : (name : SentItem) → IsNextItem g w m name → P (record (progress w) {
    sent = at₂ w.past.sent m (w.past.view m) (w.past.sent m (w.past.view m) ++ name ∷ []);
  })
  pub delivers_place : CanDeliver g w m → P (progress (delivers w m))
  pub knows_more : CanReport g w m → P (progress (reports w m))
  pub goes_on : CanFinish g w m → P (progress (finishes g w m))
  pub joins : CanJoin g w m → P (progress (joins w m))
  pub stays : P (progress w)

pub progress_after : (g : Group) (w : World) (m : ℕ) (s : Step) (P : Progress → Type 0) → CanTake g w m s
    → ProgressCases g w m P → P (progress (effect_of g w m s))
progress_after g w m (Do acts.Send) P can cases = cases.puts_item (sent_items.Index (next_index w m)) (can, refl)
progress_after g w m (Do acts.Null) P can cases = cases.puts_item sent_items.Null can
progress_after g w m (Do acts.Deliver) P can cases = cases.delivers_place can
progress_after g w m (Do acts.Report) P can cases = cases.knows_more can
progress_after g w m (Do acts.Finish) P can cases = cases.goes_on can
progress_after g w m (Do a) P can cases = cases.stays
progress_after g w m Join P can cases = cases.joins can
progress_after g w m s P can cases = cases.stays

-- ---- letters

-- no act gives one
act_letters : (g : Group) (w : World) (m : ℕ) (a : Act) → (does g w m a).letter ≡ w.letter
act_letters g w m acts.Beat = refl
act_letters g w m a = refl

-- what P has to hold of, to hold of the letters after any step of m: after a welcome, and of those before
pub letters_after : (g : Group) (w : World) (m : ℕ) (s : Step) (P : (ℕ → Option (List Entry)) → Type 0)
    → CanTake g w m s → ((j : ℕ) → CanWelcome g w m j → P (welcomes w m j).letter) → P w.letter
    → P (effect_of g w m s).letter
letters_after g w m (Welcome j) P can given same = given j can
letters_after g w m (Do a) P can given same = subst P (sym (act_letters g w m a)) same
letters_after g w m s P can given same = same

abbrev pub letters : World → Letters
letters w = record { view = w.past.view; given = w.given; letter = w.letter }

-- what P has to hold of, to hold of that after any step of m
pub record LetterCases (g : Group) (w : World) (m : ℕ) (P : Letters → Type 0) : Type 0 where
  pub gives : (j : ℕ) → CanWelcome g w m j → P (letters (welcomes w m j))
  pub goes_on : CanFinish g w m → P (letters (finishes g w m))
  pub joins : CanJoin g w m → P (letters (joins w m))
  pub stays : P (letters w)

pub given_after : (g : Group) (w : World) (m : ℕ) (s : Step) (P : Letters → Type 0) → CanTake g w m s
    → LetterCases g w m P → P (letters (effect_of g w m s))
given_after g w m (Do acts.Finish) P can cases = cases.goes_on can
given_after g w m (Do a) P can cases = cases.stays
given_after g w m (Welcome j) P can cases = cases.gives j can
given_after g w m Join P can cases = cases.joins can
given_after g w m s P can cases = cases.stays

-- ---- who shows done

-- every done word is as before
abbrev pub AreDoneAs : World → World → Type 0
AreDoneAs w u = (k v : ℕ) → u.past.own k v DONE_COLUMN ≡ w.past.own k v DONE_COLUMN

-- a row that leaves the done word as it is
row_same : (own : ℕ → ℕ → ℕ → ℕ) (i u : ℕ) (row : ℕ → ℕ) → row DONE_COLUMN ≡ own i u DONE_COLUMN
    → (k v : ℕ) → at₂ own i u row k v DONE_COLUMN ≡ own k v DONE_COLUMN
row_same own i u row e k v = grind (arith, e)

stamped_done : (w u : World) (m v : ℕ) → AreDoneAs w u → AreDoneAs w (stamped_in u m v)
stamped_done w u m v same k i =
    row_same u.past.own m v (at (u.past.own m v) BEAT_COLUMN (one_more 64 (u.past.acts m))) refl k i ∙ same k i

gain_done : (w : World) (m s : ℕ) (item : Item) → AreDoneAs w (gains w m s item)
gain_done w m s item = row_same w.past.own m (w.past.view m) _ (grind arith)

put_done : (g : Group) (w : World) (m : ℕ) (name : SentItem) (item : Item) → AreDoneAs w (puts g w m name item)
put_done g w m name item k v = row_same (at₂ w.past.own m (w.past.view m) slot) m (w.past.view m) _ (grind arith) k v
    ∙ row_same w.past.own m (w.past.view m) slot (grind arith) k v
  where
    slot : ℕ → ℕ
    slot = row_with (w.past.own m (w.past.view m)) (slot_column (roster g) g.window (items_received w m m))
        (items_received w m m) (pieces item)

suspect_done : (g : Group) (w : World) (m j : ℕ) → AreDoneAs w (suspects g w m j)
suspect_done g w m j = row_same w.past.own m (w.past.view m) _ (wedged_rest (roster g)
    (w.members m) (with_member (w.suspects m) j) _ DONE_COLUMN _ (omega arith) (inl (omega arith)))

accept_done : (g : Group) (w : World) (m : ℕ) → AreDoneAs w (accepts g w m)
accept_done g w m = row_same w.past.own m (w.past.view m) _
    (accepted_rest (roster g) (w.members m) _ _ DONE_COLUMN _ (inl (omega arith)))

-- an act marks its member's history as complete, or leaves the done words as they are
does_mark : (g : Group) (w : World) (m : ℕ) (a : Act) → CanDo g w m a
    → (CanMark g w m × (does g w m a ≡ marks w m)) ⊎ AreDoneAs w (does g w m a)
does_mark g w m acts.Mark can = inl (can, refl)
does_mark g w m acts.Send can = inr (search (put_done g w m))
does_mark g w m acts.Null can = inr (search (put_done g w m))
does_mark g w m (acts.Receive s) can = inr (gain_done w m s (next_item g w m s))
does_mark g w m acts.Publish can = inr (row_same w.past.own m (w.past.view m) _ refl)
does_mark g w m (acts.Suspect j) can = inr (suspect_done g w m j)
does_mark g w m acts.Propose can = inr (accept_done g w m)
does_mark g w m acts.Accept can = inr (accept_done g w m)
does_mark g w m acts.Finish can = inr (row_same w.past.own m (w.past.view m + 1) _ refl)
does_mark g w m a can = inr (λ k v. refl)

-- and so does a step
pub marks_or_leaves : (g : Group) (w : World) (m : ℕ) (s : Step) → CanTake g w m s
    → (CanMark g w m × (effect_of g w m s ≡ stamped (marks w m) m)) ⊎ AreDoneAs w (effect_of g w m s)
marks_or_leaves g w m (Do a) can = by (does_mark g w m a can)
  where
    by : (CanMark g w m × (does g w m a ≡ marks w m)) ⊎ AreDoneAs w (does g w m a)
        → (CanMark g w m × (effect_of g w m (Do a) ≡ stamped (marks w m) m)) ⊎ AreDoneAs w (effect_of g w m (Do a))
    by (inl t) = inl (t.0, ap (λ u. stamped_in u m (w.past.view m)) t.1)
    by (inr same) = inr (stamped_done w (does g w m a) m (w.past.view m) same)
marks_or_leaves g w m Join can = inr (row_same w.past.own m (last_view (0, 0) (unwrap_or (w.letter m) [])).0 _ refl)
marks_or_leaves g w m s can = inr (λ k v. refl)

-- a step of a member is an event
pub is_event : (g : Group) (w after : World) (m : ℕ) (s : Step) → CanTake g w m s → after
    ≡ effect_of g w m s → Guard g w (event_of m s) × (after ≡ effect g w (event_of m s))
is_event g w after m s can e = subst (λ k. CanTake g w k (events.step_of (event_of m s))
    × (after ≡ effect_of g w k (events.step_of (event_of m s)))) (sym (member_of_event m s))
    (subst (λ x. CanTake g w m x × (after ≡ effect_of g w m x)) (sym (step_of_event m s)) (can, e))

-- so what comes of a step that may come is reached, where the world before it is
pub taken_reached : (g : Group) (w after : World) (m : ℕ) (s : Step) → IsReached g w → CanTake g w m s
    → after ≡ effect_of g w m s → IsReached g after
taken_reached g w after m s reached can e =
    reached_more g w after (event_of m s) reached (inl (is_event g w after m s can e))

-- by how much a step lowers the work, at least
abbrev pub least : Step → ℕ
least (steps.Do acts.Beat) = 0
least (steps.Do acts.Publish) = 2
least (steps.Do (acts.Halt end)) = 0
least (steps.Do (acts.Crash end)) = 0
least (steps.Do a) = 1
least (steps.Welcome j) = 1
least s = 0

abbrev pub is_look : Step → Bool
is_look (Look i c) = true
is_look s = false
