-- What is true of every world that is reached: each word tells the truth of its owner, and each item is as
-- its sender put it.
-- V gives the members of each view, as a mask, by the view's number.
use Rattle.std.specs.Prelude.{◌≡◌, ◌≢◌, ◌⊎◌, ℕ, ◌+◌, ◌^◌, ◌<◌, ◌≤◌, true, false, List, length, map, slice_index, Option, Some}
use Rattle.dr_entry.specs.{declared.entry.{Entry.Entry, Item.Item}, declared.record.{Value.Value, Vote.Vote}}
use Rattle.dr_history.specs.{History.{IsPrefixOf, Sent, last_view, messages_of, up_to_view}, Places.front_of}
use Rattle.dr_history.specs.{Members.{has, members_of}, Order.{IsLateIn, IsNewIn, MayJoin, messages_from}}
use Rattle.dr_words.specs.{Accepts.part_of, Packing.{accept_promise, accept_tag, accept_value, recv_count, is_final}}
use Rattle.dr_words.specs.{Columns.recv_column, Masks.{least_of, next_members, without}, Rewrites.is_accept_of}
use Rattle.dr_words.specs.{Form.IsInForm, Grown.HasGrown}
use Rattle.dr_words.specs.declared.column.TheConstants.{BEAT_COLUMN, SUSPECTED_COLUMN, RECEIVED_COLUMN}
use Rattle.dr_machine.specs.{Effects.finished_history, Group.{Group, IsPresent, roster}, Guards.{CanFinish, CanJoin}}
use Rattle.dr_machine.specs.{Sending.IsPut, World.{Table, World}}
use Rattle.dr_faithful.specs.Tells.{Views, WordsTell, item_sent}

-- a number for each member, view, and column or sender: own words, and counts
abbrev pub Numbers : Type 0
Numbers = ℕ → ℕ → ℕ → ℕ

-- an item for each member, sender and number
abbrev pub Items : Type 0
Items = ℕ → ℕ → ℕ → Item

-- every member of the first view is there
pub record IsBeginning (g : Group) : Type 0 where
  pub all : (m : ℕ) → has g.opening.members m ≡ true → IsPresent g m

-- each member has a view of the roster, and is in it, but for a late one that hasn't joined, which has the first.
-- Where it was in the one that it came from, that is the one of the number before, and the other way round
pub record AreInViews (g : Group) (V : Views) (view members came_from : ℕ → ℕ) : Type 0 where
  pub own : (m : ℕ) → members m ≡ V (view m)
  pub came : (m : ℕ) → has (came_from m) m ≡ true → (u : ℕ) × (view m ≡ u + 1) × (came_from m ≡ V u)
  pub back : (m u : ℕ) → view m ≡ u + 1 → has (V u) m ≡ true → came_from m ≡ V u
  pub present : (m : ℕ) → has g.opening.members m ≡ true → has (V (view m)) m ≡ true
  pub outside : (m : ℕ) → has (V (view m)) m ≡ false → view m ≡ 0
  pub within : (v m : ℕ) → has (V v) m ≡ true → m < roster g

-- the items that members have are those that their senders have put
pub record AreItems (g : Group) (V : Views) (view : ℕ → ℕ) (count : Numbers) (item : Items)
    (sent : Sent) : Type 0 where
  -- nobody has more of a sender's items than it has put
  pub counted : (m v s : ℕ) → count m v s ≤ count s v s
  -- and each of them is as it was put
  pub same : (m s k : ℕ) → k < count m (view m) s → item m s k ≡ item_sent g sent s (view m) k
  -- nobody has put more than a window of items that another member of the view does not have
  pub window : (m v s : ℕ) → has (V v) m ≡ true → has (V v) s ≡ true → count s v s
      ≤ count m v s + g.window

-- each member has put its next messages of the script in its view
pub record AreSent (g : Group) (view base : ℕ → ℕ) (sent : Sent) (count : Numbers) : Type 0 where
  pub all : (s v : ℕ) → length (sent s v) ≡ count s v s
  pub put : (s : ℕ) → IsPut (base s) (length (messages_of g.opening s)) (sent s (view s))

-- the own words of a member say how many items it has
pub record AreCounts (g : Group) (V : Views) (view suspects : ℕ → ℕ)
    (own count : Numbers) : Type 0 where
  pub recv : (m v s : ℕ) → s < roster g → recv_count (own m v (recv_column s)) ≡ count m v s
  -- no count is final before the member is wedged
  pub unfinished : (m s : ℕ) → s < roster g → suspects m ≡ 0
      → is_final (own m (view m) (recv_column s)) ≡ false
  pub received : (m v : ℕ) → own m v RECEIVED_COLUMN ≡ front_of (map (count m v) (members_of (V v)))
  -- nobody has more items of a sender than some member has messages
  pub few : (m v s : ℕ) → (t : ℕ) × (count m v s ≤ length (messages_of g.opening t))

-- a member suspects other members of its view, and wishes for late ones that are in no view so far, and its
-- own words say whom. Once it names somebody it is in its view, its recv words are final, and its accept words
-- have its promise, which is the least member of the view that it doesn't suspect
pub record AreSuspicions (g : Group) (V : Views) (view suspects promise : ℕ → ℕ)
    (own : Numbers) : Type 0 where
  pub named : (m j : ℕ) → has (suspects m) j ≡ true
      → (has (V (view m)) j ≡ true) ⊎ IsNewIn g.opening V (view m) j
  pub inside : (m : ℕ) → suspects m ≢ 0 → has (V (view m)) m ≡ true
  pub trusted : (m : ℕ) → has (suspects m) m ≡ false
  pub told : (m : ℕ) → own m (view m) SUSPECTED_COLUMN ≡ suspects m
  pub final : (m s : ℕ) → suspects m ≢ 0 → has (V (view m)) s ≡ true
      → is_final (own m (view m) (recv_column s)) ≡ true
  pub none : (m : ℕ) → suspects m ≡ 0 → promise m ≡ 0
  pub least : (m : ℕ) → suspects m ≢ 0 → promise m ≡ least_of (without (V (view m)) (suspects m))
  pub accept : (m c : ℕ) → is_accept_of (roster g) (V (view m)) c ≡ true
      → accept_promise (own m (view m) c) ≡ promise m

-- a vote that a member has logged and not yet acted on is by the ballot of its promise, above its tag, and of
-- a value that accept words can hold
pub record IsWaiting (g : Group) (promise tag : ℕ) (x : Vote) : Type 0 where
  pub ballot : x.ballot ≡ promise
  pub above : tag ≤ promise
  pub leavers : x.value.leavers < 2 ^ roster g
  pub trims : (s : ℕ) → slice_index x.value.trim s < 2 ^ 32

-- the accept words of a member have its tag and its value, and its tag is no higher than that of a proposal
-- by the member that it has promised
pub record AreAccepts (g : Group) (V : Views) (view promise tag : ℕ → ℕ) (value : ℕ → Value)
    (pending : ℕ → Option Vote) (own : Numbers) : Type 0 where
  pub tagged : (m c : ℕ) → is_accept_of (roster g) (V (view m)) c ≡ true
      → accept_tag (own m (view m) c) ≡ tag m
  pub valued : (m c : ℕ) → is_accept_of (roster g) (V (view m)) c ≡ true
      → accept_value (own m (view m) c) ≡ part_of (roster g) (value m) c
  pub low : (m : ℕ) → tag m ≤ promise m + 1
  pub waits : (m : ℕ) (x : Vote) → pending m ≡ Some x → IsWaiting g (promise m) (tag m) x

-- what a member in a view knows to be durable stands on its own log, on those of all members of some view
-- that has come, and on those of all members of its view that aren't late; where that view is an earlier one,
-- it ends before the last View of the member's history
pub record StandsOnLogs (g : Group) (V : Views) (log : ℕ → List Entry) (history : List Entry)
    (m view durable : ℕ) : Type 0 where
  pub own : durable ≤ length (log m)
  pub since : ℕ
  pub come : since ≤ view
  pub before : since < view → durable < length (up_to_view history)
  pub logged : (i : ℕ) → has (V since) i ≡ true → durable ≤ length (log i)
  pub stayed : (i : ℕ) → has (V view) i ≡ true → has g.opening.members i ≡ true
      → durable ≤ length (log i)

-- the log of a member is a front of its history, and what it knows to be durable is on logs
pub record AreLogs (g : Group) (V : Views) (view : ℕ → ℕ) (acts durable : ℕ → ℕ)
    (log history : ℕ → List Entry) : Type 0 where
  pub bounded : (m : ℕ) → acts m < 2 ^ 64
  pub front : (m : ℕ) → IsPrefixOf (log m) (history m)
  pub safe : (m : ℕ) → IsPresent g m → StandsOnLogs g V log (history m) m (view m) (durable m)
  pub small : (m : ℕ) → durable m < 2 ^ 64

-- a member has delivered only places that every member of its view holds, and none where it isn't in its view
pub record AreDelivered (V : Views) (view next : ℕ → ℕ) (own : Numbers) : Type 0 where
  pub held : (m i : ℕ) → has (V (view m)) i ≡ true → next m
      ≤ own i (view m) RECEIVED_COLUMN
  pub none : (m : ℕ) → has (V (view m)) m ≡ false → next m ≡ 0

-- the beat of a late member, in the bank of the first view
pub record IsLateBeat (g : Group) (m v c : ℕ) : Type 0 where
  pub bank : v ≡ 0
  pub column : c ≡ BEAT_COLUMN
  pub late : IsLateIn g.opening m

-- in a view that it has not come to, a member has written no word and has no items, and in one of which it is
-- no member, no word but the beat of a late one
pub record AreFresh (g : Group) (V : Views) (view : ℕ → ℕ) (own count : Numbers) : Type 0 where
  pub unwritten : (m v c : ℕ) → view m < v → own m v c ≡ 0
  pub outside : (m v c : ℕ) → has (V v) m ≡ false → own m v c ≢ 0 → IsLateBeat g m v c
  pub empty : (m v s : ℕ) → view m < v → count m v s ≡ 0

-- in no copy but its own stands a word of a member that is none of the view
abbrev pub HasNoOutsiders : Views → Table → Type 0
HasNoOutsiders V table = (v j i c : ℕ) → j ≢ i → has (V v) i ≡ false → table v j i c ≡ 0

-- a word in the table is an older one of its owner, and a seen word an older one of the table
pub record AreOld (g : Group) (view : ℕ → ℕ) (own : Numbers) (table : Table)
    (seen : Numbers) : Type 0 where
  pub in_table : (v j i c : ℕ) → HasGrown (roster g) c (table v j i c) (own i v c)
  pub in_seen : (m i c : ℕ) → i ≢ m → HasGrown (roster g) c (seen m i c) (table (view m) m i c)

-- every word is in form
pub record AreInForm (g : Group) (own : Numbers) (table : Table) (seen : Numbers) : Type 0 where
  pub in_own : (m v c : ℕ) → IsInForm (roster g) c (own m v c)
  pub in_table : (v j i c : ℕ) → IsInForm (roster g) c (table v j i c)
  pub in_seen : (m i c : ℕ) → IsInForm (roster g) c (seen m i c)

-- the own words of member m in a view v that it has left: it named others of it, and late ones that were in
-- no view so far, each of its counts is final, and it has promised to accept what the least one proposes that
-- it didn't suspect
pub record IsClosed (g : Group) (V : Views) (v m : ℕ) (row : ℕ → ℕ) : Type 0 where
  pub named : (j : ℕ) → has (row SUSPECTED_COLUMN) j ≡ true
      → (has (V v) j ≡ true) ⊎ IsNewIn g.opening V v j
  pub trusted : has (row SUSPECTED_COLUMN) m ≡ false
  pub wedged : row SUSPECTED_COLUMN ≢ 0
  pub final : (s : ℕ) → has (V v) s ≡ true → is_final (row (recv_column s)) ≡ true
  pub promise : (c : ℕ) → is_accept_of (roster g) (V v) c ≡ true
      → accept_promise (row c) ≡ least_of (without (V v) (row SUSPECTED_COLUMN))

-- so are those of each member in each of its views that it has left
abbrev pub AreClosed : Group → Views → (ℕ → ℕ) → Numbers → Type 0
AreClosed g V view own = (m v : ℕ) → v < view m → has (V v) m ≡ true → IsClosed g V v m (own m v)

-- all members of the view v that aren't late are of the view u
abbrev pub HaveStayed : Group → Views → ℕ → ℕ → Type 0
HaveStayed g V u v = (i : ℕ) → has (V v) i ≡ true → has g.opening.members i ≡ true → has (V u) i ≡ true

-- a member that ends its view with a value goes on as it should: it is wedged, the next view has the members
-- that come of this one, and the member's history holds no more of its own messages than the script has
pub record GoesOnWell (g : Group) (V : Views) (w : World) (m : ℕ) (value : Value) : Type 0 where
  pub wedged : w.suspects m ≢ 0
  pub next : V (w.past.view m + 1) ≡ next_members (w.members m) value.leavers
  pub stayed : HaveStayed g V (w.past.view m) (w.past.view m + 1)
  pub few : length (messages_from m (finished_history g w m value)) ≤ length (messages_of g.opening m)

-- a member that joins goes on as it should: its letter goes on from its history, to the View of a later view
-- of these members, the first one that it is in
pub record JoinsWell (g : Group) (V : Views) (w : World) (m v members : ℕ) (letter : List Entry) : Type 0 where
  pub later : w.past.view m < v
  pub next : V v ≡ members
  pub inside : has (V v) m ≡ true
  pub first : (u : ℕ) → u < v → has (V u) m ≡ false
  pub stayed : HaveStayed g V (w.past.view m) v
  pub begins : IsPrefixOf (w.past.history m) letter
  pub behind : length (w.past.history m) < length (up_to_view letter)
  pub few : length (messages_from m letter) ≤ length (messages_of g.opening m)

-- and so does each that may end its view or join, and whom a member may wish for is in no view so far
pub record AllGoOn (g : Group) (V : Views) (w : World) : Type 0 where
  pub finish : (m : ℕ) (can : CanFinish g w m) → GoesOnWell g V w m can.value
  pub join : (m : ℕ) (can : CanJoin g w m) → JoinsWell g V w m (last_view (0, 0) can.letter).0
      (last_view (0, 0) can.letter).1 can.letter
  pub wish : (m j : ℕ) → IsPresent g m → MayJoin g.opening (w.past.history m) j
      → IsNewIn g.opening V (w.past.view m) j

-- the members of a group are faithful
pub record Faithful (g : Group) (V : Views) (w : World) : Type 0 where
  pub beginning : IsBeginning g
  pub views : AreInViews g V w.past.view w.members w.came_from
  pub items : AreItems g V w.past.view w.past.count w.item w.past.sent
  pub sent : AreSent g w.past.view w.base w.past.sent w.past.count
  pub counts : AreCounts g V w.past.view w.suspects w.past.own w.past.count
  pub suspicions : AreSuspicions g V w.past.view w.suspects w.promise w.past.own
  pub accepts : AreAccepts g V w.past.view w.promise w.tag w.value w.pending w.past.own
  pub words : WordsTell g V w
  pub logs : AreLogs g V w.past.view w.past.acts w.past.durable w.past.log w.past.history
  pub delivered : AreDelivered V w.past.view w.next w.past.own
  pub fresh : AreFresh g V w.past.view w.past.own w.past.count
  pub closed : AreClosed g V w.past.view w.past.own
  pub old : AreOld g w.past.view w.past.own w.table w.seen
  pub form : AreInForm g w.past.own w.table w.seen
