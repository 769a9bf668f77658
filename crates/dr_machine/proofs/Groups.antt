-- Groups: their members, the first, the late and the present ones.
use Rattle.std.{specs.List.range_with_len, proofs.{Math.{ListN.get_or-map, Seq.take-length}, lemmas.Bool.cases_lt}}
use Rattle.std.specs.Prelude.{slice_index}
use Rattle.std.proofs.Common.{◌≡◌, ◌<◌, ◌≤◌, arith, subst, ℕ, ◌-◌, length, sym, ap, ◌∙◌, inl, inr, [], map, ◌^◌, ◌&&◌, not, false, true, ◌||◌, ◌⊎◌, List, take, get_or, All, Some, slice_get, ◌≢◌, le_refl, ◌+◌, refl, None, ◌∷◌, length-append, Bool, if◌then◌else◌, ◌==◌, zero-add}
use Rattle.std.proofs.lemmas.{Bool.Decides.nat_tests, List.get_or_past, Option.{none-some, slice_get-get_or}}
use Rattle.std.proofs.lemmas.List.FromFn.{get_or-map-range_with_len, length-map-range_with_len, length-range_with_len}
use Rattle.dr_entry.specs.{Spelling.IsValidEntry, declared.entry.Entry.{Entry, TheVariants.{View, Msg}}}
use Rattle.dr_entry.proofs.{BoolFacts.one_or_other, ListPlaces.range_at, OptionFacts.both}
use Rattle.dr_history.specs.{Agreement.{Accounts, sent_by}, History.messages_of, Members.{has, members_of}}
use Rattle.dr_history.specs.{Order.{messages_from, IsLateIn, first_entries}, Restarting.AllStand}
use Rattle.dr_history.{specs.Soundness.{IsNobodyLate, MayStand, whole_roster}, proofs.MemberLemmas.few_members}
use Rattle.dr_history.proofs.{NumberedLemmas.from_before, Openings.first-members}
use Rattle.dr_words.specs.{Columns.{columns_of, head_column, recv_column, leavers_column}, Layout.word_index_of}
use Rattle.dr_words.specs.{Masks.{IsInRoster, IsMajorityOf, IsPartOf}, Packing.{recv_count, ring_tag}}
use Rattle.dr_words.specs.declared.{column.TheConstants.{LOGGED_COLUMN, BEAT_COLUMN}, shape.Shape.Shape}
use Rattle.dr_words.proofs.{Majorities.majorities_meet_lem, Masks.{in_roster_small, has_without_mask}}
use Rattle.dr_words.proofs.Places.{word_index_one_to_one}
use Rattle.dr_ring.specs.Slots.{slot_column}
use Rattle.dr_machine.specs.{Acts.{does, CanTake, Guard}, Events.{member_of, step_of}}
use Rattle.dr_machine.specs.Group.{Group, banks, roster, IsGroup, late_members, IsPresent, columns, AllPresent}
use Rattle.dr_machine.specs.{Guards.{IsRunning, HasRoom, IsOther}, World.{World, opening_world}, Writes.at}
use Rattle.dr_machine.specs.declared.{event.{Act.Act, Event.Event}, step.Step.{Step, TheVariants.Do}}
use Rattle.dr_machine.proofs.Presence.{in_roster}
use Rattle.dr_machine.specs.declared.event.Act.TheVariants as acts

-- the shape is the group's
pub record IsShape (g : Group) (shape : Shape) : Type 0 where
  pub members : shape.members ≡ roster g
  pub window : shape.window ≡ g.window
  pub banks : shape.banks ≡ banks g

-- the width of rows of a group
pub wide : (g : Group) (shape : Shape) → IsGroup g → IsShape g shape → (shape.members ≤ 16)
    × (LOGGED_COLUMN < columns_of shape.members shape.window) × (columns_of shape.members shape.window ≤ 1024)
wide g shape is of = (
  omega (arith, is.most_members, of.members),
  omega arith,
  omega (arith, is.most_members, is.most_slots, of.members, of.window),
)

pub base_within : (g : Group) (m : ℕ) → IsGroup g → length (messages_from m g.opening.start)
    ≤ length (messages_of g.opening m)
base_within g m is = subst (λ es. length (messages_from m es) ≤ length (messages_of g.opening m))
    (take-length g.opening.start) (from_before g.opening m (length g.opening.start) is.sound (omega arith))

pub totals_of : (g : Group) (s : ℕ) → IsGroup g → slice_index (map (λ i. length (messages_of g.opening i))
    (range_with_len 0 16)) s ≡ length (messages_of g.opening s)
totals_of g s is = elim (cases_lt s 16) [
  | inl within ↦ get_or-map-range_with_len (λ i. length (messages_of g.opening i)) 0 16 s s 0 within (omega arith)
  | inr past ↦ get_or_past (map (λ i. length (messages_of g.opening i)) (range_with_len 0 16)) s 0
      (omega (arith, length-map-range_with_len (λ i. length (messages_of g.opening i)) 0 16))
      ∙ sym (ap length (get_or_past g.opening.messages s [] (omega (arith, is.most_members))))
]

-- whoever the age knows is of the roster: who is there, and so who is in the first view, and who is late
pub first_of_roster : (g : Group) → IsGroup g → IsInRoster (roster g) g.opening.members
first_of_roster g is i there = is.sound.members.within i there

pub present-small : (g : Group) → IsGroup g → g.opening.present < 2 ^ 16
present-small g is = in_roster_small 16 g.opening.present (λ i h. omega (arith, is.sound.present i h, is.most_members))

late_is : (g : Group) (i : ℕ) → IsGroup g → has (late_members g) i
    ≡ (has g.opening.present i && not (has g.opening.members i))
late_is g i is = has_without_mask g.opening.present g.opening.members i (present-small g is)

pub late_of_roster : (g : Group) → IsGroup g → IsInRoster (roster g) (late_members g)
late_of_roster g is i there = is.sound.present i (both _ _ (sym (late_is g i is) ∙ there)).0

pub late_apart : (g : Group) (i : ℕ) → IsGroup g → has (late_members g) i ≡ true → has g.opening.members i ≡ false
late_apart g i is there = (both _ _ (sym (late_is g i is) ∙ there)).1

pub first_or_late : (g : Group) (m : ℕ) → IsGroup g → IsPresent g m
    → (has g.opening.members m || has (late_members g) m) ≡ true
first_or_late g m is there = rw (late_is g m is)
    (one_or_other (has g.opening.members m) (has g.opening.present m) there)

-- nobody is late where all that are there are in the first view
pub nobody : (g : Group) (m : ℕ) → IsNobodyLate g.opening → IsLateIn g.opening m → ⊥
nobody g m none late = cc (ap (λ mask. has mask m) none ∙ late.0, late.1)

-- a group has members in its first view
pub some_members : (g : Group) → IsGroup g → 0 < g.opening.members
some_members g group = group.sound.members.some

-- entries that may stand are valid
pub stood_valid : (g : Group) (es : List Entry) → IsGroup g → AllStand g.opening es → All IsValidEntry es
stood_valid g es is stand k d l =
    valid (take k es) (get_or es k d) (stand k (get_or es k d) (slice_get-get_or es k d l))
  where
    sender : (s i : ℕ) (b : List ℕ) → slice_get (messages_of g.opening s) i ≡ Some b → s < 16
    sender s i b there = by (cases_lt s (length g.opening.messages))
      where
        by : (s < length g.opening.messages) ⊎ (length g.opening.messages ≤ s) → s < 16
        by (inl below) = omega (arith, below, is.most_members)
        by (inr past) = absurd (none-some b
            (sym (ap (λ (ms : List (List ℕ)). slice_get ms i) (get_or_past g.opening.messages s [] past)) ∙ there))

    valid : (before : List Entry) (e : Entry) → MayStand g.opening before e → IsValidEntry e
    valid before (View a n m) stands = stands.0.some
    valid before (Msg s i b) stands = (sender s i b stands.2, is.short s i b stands.2)

-- no act takes a member back to a view that it has left
pub act_stays : (g : Group) (w : World) (m : ℕ) (a : Act) → w.past.view m ≤ (does g w m a).past.view m
act_stays g w m acts.Finish = rises_at w.past.view m
  where
    rises_at : (view : ℕ → ℕ) (m : ℕ) → view m ≤ at view m (view m + 1) m
    rises_at view m = grind arith
act_stays g w m acts.Beat = le_refl (w.past.view m)
act_stays g w m a = le_refl (w.past.view m)

-- only members of the roster without an end take steps
pub step_alive : (g : Group) (w : World) (m : ℕ) (s : Step) → CanTake g w m s → IsRunning g w m
step_alive g w m (Do acts.Beat) can = can.alive
step_alive g w m (Do (acts.Crash end)) can = can.alive
step_alive g w m (Do acts.Propose) can = can.alive
step_alive g w m (Do acts.Accept) can = can.alive
step_alive g w m (Do a) can = can.may.alive
step_alive g w m s can = can.may.alive

-- only members that are there have events, and these are of the roster
pub of_present : (g : Group) (w : World) (e : Event) → Guard g w e → IsPresent g (member_of e)
of_present g w e can = (step_alive g w (member_of e) (step_of e) can).present

pub of_roster : (g : Group) (w : World) (e : Event) → IsGroup g → Guard g w e → member_of e < roster g
of_roster g w e is can = in_roster g (member_of e) is (of_present g w e can)

-- no act writes the table, but for its stamp
pub does_table : (g : Group) (w : World) (m : ℕ) (a : Act) → (does g w m a).table ≡ w.table
does_table g w m acts.Finish = refl
does_table g w m a = refl

-- the column stands where the accept words do
abbrev pub IsBetween : Group → ℕ → Type 0
IsBetween g c = (recv_column (roster g) ≤ c) × (c < head_column (roster g) 0)

pub leavers_between : (g : Group) → IsBetween g (leavers_column (roster g))
leavers_between g = (omega arith, omega arith)

-- no act logs a vote
pub does_votes : (g : Group) (w : World) (m : ℕ) (a : Act) → (does g w m a).past.votes ≡ w.past.votes
does_votes g w m acts.Finish = refl
does_votes g w m a = refl

-- the accounts tell what the members of a world that are there have done
pub record AreAccounts (g : Group) (w : World) (accounts : Accounts) : Type 0 where
  pub sent : sent_by accounts ≡ w.past.sent
  pub history : (m : ℕ) → IsPresent g m → (accounts m).history ≡ w.past.history m
  pub log : (m : ℕ) → IsPresent g m → (accounts m).log ≡ w.past.log m
  pub durable : (m : ℕ) → IsPresent g m → (accounts m).durable ≡ w.past.durable m

-- a member has left a view, or another one of the roster has
abbrev pub HasLeft : Group → World → ℕ → ℕ → Type 0
HasLeft g w v k = (v < w.past.view k) ⊎ ((i : ℕ) × (i < roster g) × (v < w.past.view i))

-- the numbers of views are small
pub banks-small : (g : Group) → IsGroup g → banks g ≤ 32
banks-small g is = omega (arith, is.most_members, few_members (late_members g))

-- nothing is committed, and everybody is in the first view
pub record AreUncommitted (g : Group) (w : World) : Type 0 where
  pub none : (m : ℕ) → w.committed m ≡ None
  pub first : (m : ℕ) → w.past.view m ≡ 0
  -- each member goes on behind the messages of the start
  pub start : (m : ℕ) → w.base m ≡ length (messages_from m g.opening.start)
  -- each place delivered has added one entry at most
  pub short : (m : ℕ) → length (w.past.history m) ≤ length (first_entries g.opening) + w.next m
  -- and no late member has a letter
  pub unsent : (m : ℕ) → w.letter m ≡ None

-- an entry is one of the messages that the script gives to its sender, a member of the roster
abbrev pub IsOfScript : Group → Entry → Type 0
IsOfScript g (View age number members) = ⊥
IsOfScript g (Msg s i b) = (s < roster g) × (slice_get (messages_of g.opening s) i ≡ Some b)

-- what every history begins with is the start and one View
pub first_length : (g : Group) → length (first_entries g.opening) ≡ length g.opening.start + 1
first_length g = length-append g.opening.start (View g.opening.age 0 g.opening.members ∷ [])

-- how many messages the script gives each member of the roster
abbrev pub messages_each : Group → List ℕ
messages_each g = map length g.opening.messages

pub each_is : (g : Group) (s : ℕ) → slice_index (messages_each g) s ≡ length (messages_of g.opening s)
each_is g s = get_or-map length g.opening.messages s []

-- where more than half of the roster is there, somebody is
pub somebody-there : (g : Group) → IsPartOf g.opening.present (whole_roster g.opening)
    → IsMajorityOf g.opening.present (whole_roster g.opening) → (i : ℕ) × IsPresent g i
somebody-there g part most =
    let t = majorities_meet_lem (whole_roster g.opening) g.opening.present g.opening.present part part most most in
    (t.0, t.3)

-- where an item has room, with the same view, so has an earlier one
pub still_room : (g : Group) (w v : World) (m n k : ℕ) → v.members m ≡ w.members m → n ≤ k → (k < g.window)
    ⊎ ((i : ℕ) → IsOther v m i → k - g.window < recv_count (w.seen m i (recv_column m))) → HasRoom g w m n
still_room g w v m n k view earlier (inl early) = inl (omega (arith, earlier, early))
still_room g w v m n k view earlier (inr all) = inr (λ i other. omega (
  arith,
  earlier,
  all i (record { member = ap (λ x. has x i) view ∙ other.member; other = other.other }),
))

-- m sees the own words of the others as they are, but for their beats; the logged words do so once all have
-- had a turn
abbrev pub SeesOwn : Group → World → ℕ → ℕ → Type 0
SeesOwn g w r m = (i c : ℕ) → i < roster g → i ≢ m → c < columns g → c ≢ BEAT_COLUMN
    → (c ≡ LOGGED_COLUMN → 1 ≤ r) → w.seen m i c ≡ w.past.own i 0 c

-- the copies of the others have the own words of each member, but for its beat, and for its logged word
-- before its first turn
abbrev pub ArePushed : Group → World → Type 0
ArePushed g w = (i j c : ℕ) → i < roster g → j < roster g → j ≢ i → c < columns g → c ≢ BEAT_COLUMN
    → (c ≡ LOGGED_COLUMN → 1 ≤ w.turns i) → w.table 0 j i c ≡ w.past.own i 0 c

-- all words are 0 but the logged ones
pub begins_pushed : (g : Group) → ArePushed g (opening_world g)
begins_pushed g i j c a b other inside apart begun = test (has g.opening.members i) c _ (λ e. omega (arith, begun e))
  where
    test : (is_member : Bool) (c x : ℕ) → (c ≡ LOGGED_COLUMN → ⊥)
        → 0 ≡ (if is_member && ((0 == 0) && (c == LOGGED_COLUMN)) then x else 0)
    test is_member c x unlogged = grind (arith, nat_tests, unlogged)

-- item k was put before the step, or this part of it stands in the ring after it
abbrev pub Stands : Group → World → World → ℕ → ℕ → ℕ → ℕ → Type 0
Stands g w u s v k part = (k < length (w.past.sent s v))
    ⊎ (k + 1 ≤ ring_tag (u.past.own s v (slot_column (roster g) g.window k + part)))

pub members_first : (g : Group) → IsGroup g → IsNobodyLate g.opening → AllPresent g
    → members_of g.opening.members ≡ range_with_len 0 (roster g)
members_first g is nobody whole = first-members g.opening (nobody ∙ whole) is.most_members

pub ranks : (g : Group) → IsGroup g → IsNobodyLate g.opening → AllPresent g
    → length (members_of g.opening.members) ≡ roster g
ranks g is nobody whole = ap length (members_first g is nobody whole) ∙ length-range_with_len 0 (roster g)

pub at_rank : (g : Group) (s : ℕ) → IsGroup g → IsNobodyLate g.opening → AllPresent g → s < roster g
    → slice_get (members_of g.opening.members) s ≡ Some s
at_rank g s is nobody whole l = ap (λ ms. slice_get ms s) (members_first g is nobody whole) ∙ range_at 0 (roster g) s l
    ∙ ap Some (zero-add s)

-- a place of the group's table
pub record IsPlace (g : Group) (v m i c : ℕ) : Type 0 where
  pub bank : v < banks g
  pub copy : m < roster g
  pub row : i < roster g
  pub column : c < columns g

-- the word of a view, a row and a column in the copy of member m
abbrev pub place_in : Group → ℕ → ℕ → ℕ → ℕ → ℕ
place_in g v m i c = word_index_of (roster g) g.window v m i c

-- places in two copies are two
pub other_place : (g : Group) (v m i c u k j b : ℕ) → IsPlace g v m i c → k < roster g → j < roster g → b < columns g
    → k ≢ m → place_in g u k j b ≢ place_in g v m i c
other_place g v m i c u k j b p copy row column other same =
    other (word_index_one_to_one (roster g) g.window v m i c u k j b p.copy p.row p.column copy row column same).1
