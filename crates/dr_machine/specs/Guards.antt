-- When each event may come.
use Rattle.std.specs.Prelude.{◌≡◌, ◌≢◌, ⊤, ℕ, ◌+◌, ◌-◌, ◌<◌, ◌≤◌, ◌⊎◌, true, false, List, length, None, Some, slice_index}
use Rattle.dr_entry.specs.{declared.end.End.End, declared.record.Vote.Vote}
use Rattle.dr_entry.specs.declared.end.End.TheVariants.{Done, Crashed, Suspected, Excluded, NoMajority, DiskFault, LogFull, Spent, Absent}
use Rattle.dr_entry.specs.{declared.{entry.Entry.Entry, limits.TheConstants.MAX_MEMBERS}, declared.record.Value.Value}
use Rattle.dr_history.specs.{History.{messages_of, messages_in}, Members.has, Order.{MayJoin, messages_from}}
use Rattle.dr_ring.specs.Slots.{slot_column, IsReady}
use Rattle.dr_words.specs.{Accepts.{Shows, promise_of}, Changes.{IsProposal, MayAccept, MayCommit, MayPropose}}
use Rattle.dr_words.specs.{Columns.recv_column, Masks.{IsMajorityOf, without}, Packing.recv_count}
use Rattle.dr_words.specs.declared.column.TheConstants.{SUSPECTED_COLUMN, RECEIVED_COLUMN, LOGGED_COLUMN, DONE_COLUMN}
use Rattle.dr_machine.specs.Group.{Group, IsPresent, banks, roster, columns}
use Rattle.dr_machine.specs.World.{World, own_word, items_received, shown}

-- m is there, and has no end
pub record IsRunning (g : Group) (w : World) (m : ℕ) : Type 0 where
  pub present : IsPresent g m
  pub running : w.end m ≡ None

-- m is in the view that it has: a late member is so once it has joined
abbrev pub IsInView : World → ℕ → Type 0
IsInView w m = has (w.members m) m ≡ true

-- it may begin a turn: no vote waits to be acted on
pub record MayTurn (g : Group) (w : World) (m : ℕ) : Type 0 where
  pub alive : IsRunning g w m
  pub idle : w.pending m ≡ None

-- it may take an event of its own choice: it is in its view besides
pub record MayChoose (g : Group) (w : World) (m : ℕ) : Type 0 where
  pub alive : IsRunning g w m
  pub idle : w.pending m ≡ None
  pub inside : IsInView w m

-- i is another member of m's view
pub record IsOther (w : World) (m i : ℕ) : Type 0 where
  pub member : has (w.members m) i ≡ true
  pub other : i ≢ m

-- m suspects nobody and wishes for nobody; who does is wedged
abbrev pub IsUnwedged : World → ℕ → Type 0
IsUnwedged w m = w.suspects m ≡ 0

-- beginning a turn needs nothing more
abbrev pub CanBeat : Group → World → ℕ → Type 0
CanBeat g w m = MayTurn g w m

pub record CanLook (g : Group) (w : World) (m i c : ℕ) : Type 0 where
  pub may : MayChoose g w m
  pub row : IsOther w m i
  pub unsuspected : has (w.suspects m) i ≡ false
  pub column : c < columns g

pub record CanPush (g : Group) (w : World) (m j c : ℕ) : Type 0 where
  pub may : MayChoose g w m
  pub copy : IsOther w m j
  pub column : c < columns g

-- the index of the next message that m puts
abbrev pub next_index : World → ℕ → ℕ
next_index w m = w.base m + messages_in (w.past.sent m (w.past.view m))

-- the slot of m's item k is free: k is among the first items, or each other member of the view is seen to
-- have received the item that stood there before
abbrev pub HasRoom : Group → World → ℕ → ℕ → Type 0
HasRoom g w m k =
    (k < g.window)
    ⊎ ((i : ℕ) → IsOther w m i → k - g.window < recv_count (w.seen m i (recv_column m)))

pub record CanSend (g : Group) (w : World) (m : ℕ) : Type 0 where
  pub may : MayChoose g w m
  pub unwedged : IsUnwedged w m
  -- a message is left
  pub left : next_index w m < length (messages_of g.opening m)
  pub room : HasRoom g w m (items_received w m m)

-- m has more items of some sender than it has put itself
abbrev pub IsBehind : World → ℕ → Type 0
IsBehind w m = (s : ℕ) × (items_received w m m < items_received w m s)

pub record CanNull (g : Group) (w : World) (m : ℕ) : Type 0 where
  pub may : MayChoose g w m
  pub unwedged : IsUnwedged w m
  -- no message is left
  pub none_left : length (messages_of g.opening m) ≤ next_index w m
  pub room : HasRoom g w m (items_received w m m)
  pub behind : IsBehind w m

-- the words that m has seen of the slot of item k in the row of s
abbrev pub seen_slot : Group → World → ℕ → ℕ → ℕ → ℕ → ℕ
seen_slot g w m s k part = w.seen m s (slot_column (roster g) g.window k + part)

pub record CanReceive (g : Group) (w : World) (m s : ℕ) : Type 0 where
  pub may : MayChoose g w m
  pub unwedged : IsUnwedged w m
  pub sender : IsOther w m s
  -- all words that the next item of s needs are seen
  pub ready : IsReady (items_received w m s) (seen_slot g w m s (items_received w m s))

pub record CanDeliver (g : Group) (w : World) (m : ℕ) : Type 0 where
  pub may : MayChoose g w m
  pub unwedged : IsUnwedged w m
  -- every member of the view is seen to have received the next place
  pub received : (i : ℕ) → has (w.members m) i ≡ true → w.next m < shown w m i RECEIVED_COLUMN

pub record CanAppend (g : Group) (w : World) (m : ℕ) : Type 0 where
  pub may : MayChoose g w m
  pub behind : length (w.past.log m) < length (w.past.history m)

pub record CanPublish (g : Group) (w : World) (m : ℕ) : Type 0 where
  pub may : MayChoose g w m
  pub behind : own_word w m LOGGED_COLUMN < length (w.past.log m)

pub record CanReport (g : Group) (w : World) (m : ℕ) : Type 0 where
  pub may : MayChoose g w m
  -- every member of the view is seen to have logged more than is known to be durable
  pub logged : (i : ℕ) → has (w.members m) i ≡ true → w.past.durable m < shown w m i LOGGED_COLUMN

-- the history of m has as many messages of each member of its view as the script
abbrev pub HoldsAll : Group → World → ℕ → Type 0
HoldsAll g w m = (s : ℕ) → has (w.members m) s ≡ true
    → length (messages_from s (w.past.history m)) ≡ length (messages_of g.opening s)

pub record CanMark (g : Group) (w : World) (m : ℕ) : Type 0 where
  pub may : MayChoose g w m
  pub unwedged : IsUnwedged w m
  pub unmarked : own_word w m DONE_COLUMN ≡ 0
  pub whole : HoldsAll g w m
  pub durable : w.past.durable m ≡ length (w.past.history m)

-- m may suspect another member of its view, and may wish for a late member that is in no View of its history
abbrev pub IsNamable : Group → World → ℕ → ℕ → Type 0
IsNamable g w m j = IsOther w m j ⊎ MayJoin g.opening (w.past.history m) j

pub record CanSuspect (g : Group) (w : World) (m j : ℕ) : Type 0 where
  pub may : MayChoose g w m
  pub namable : IsNamable g w m j
  pub apart : j ≢ m
  pub unsuspected : has (w.suspects m) j ≡ false

-- m may end its view with the value that it has committed, by which it stays, and go on in the next one. The
-- table has a bank for it, and m has the items that are still to be delivered
pub record CanFinish (g : Group) (w : World) (m : ℕ) : Type 0 where
  pub may : MayChoose g w m
  pub value : Value
  pub committed : w.committed m ≡ Some value
  pub stays : has value.leavers m ≡ false
  pub bank : w.past.view m + 1 < banks g
  pub items : (s : ℕ) → has (w.members m) s ≡ true → slice_index value.trim s ≤ items_received w m s

-- m came into its view with j, which was not in the one before, and is the least of those that were: it may
-- give j the letter, once
pub record CanWelcome (g : Group) (w : World) (m j : ℕ) : Type 0 where
  pub may : MayChoose g w m
  pub newcomer : has (w.members m) j ≡ true
  pub new : has (w.came_from m) j ≡ false
  pub welcomer : has (w.came_from m) m ≡ true
  pub least : (i : ℕ) → has (w.came_from m) i ≡ true → has (w.members m) i ≡ true → m ≤ i
  pub none : has (w.given m) j ≡ false

-- m has a letter, and has not joined yet
pub record CanJoin (g : Group) (w : World) (m : ℕ) : Type 0 where
  pub may : MayTurn g w m
  pub letter : List Entry
  pub given : w.letter m ≡ Some letter
  pub outside : has (w.members m) m ≡ false

-- the members of m's view that it doesn't suspect, itself among them, as a mask
abbrev pub unsuspected_of : World → ℕ → ℕ
unsuspected_of w m = without (w.members m) (w.suspects m)

-- the rows of m allow it to propose this value
abbrev pub IsToPropose : Group → World → ℕ → Value → Type 0
IsToPropose g w m v =
    MayPropose (roster g) (shown w m) (w.members m) (w.suspects m) m
    × IsProposal (roster g) (shown w m) (w.members m) (w.suspects m) v

-- or to accept it, as the row of the member that it has promised shows it
abbrev pub IsToAccept : Group → World → ℕ → Value → Type 0
IsToAccept g w m v =
    MayAccept (roster g) (shown w m) (w.members m) (w.suspects m) m
    × Shows (roster g) (shown w m) (w.members m) (promise_of (roster g) (shown w m) m) v

pub record CanLogVote (g : Group) (w : World) (m : ℕ) (v : Value) : Type 0 where
  pub may : MayChoose g w m
  pub wedged : ¬ IsUnwedged w m
  pub uncommitted : w.committed m ≡ None
  -- every entry of the history is logged
  pub logged : length (w.past.history m) ≤ length (w.past.log m)
  -- the value has a trim for each member that a roster can have
  pub whole : length v.trim ≡ MAX_MEMBERS
  pub allowed : IsToPropose g w m v ⊎ IsToAccept g w m v

-- m has logged a vote of its own ballot, and not yet acted on it
pub record CanPropose (g : Group) (w : World) (m : ℕ) : Type 0 where
  pub alive : IsRunning g w m
  pub inside : IsInView w m
  pub vote : Vote
  pub waits : w.pending m ≡ Some vote
  pub own : vote.ballot ≡ m

-- m has logged a vote of another member's ballot, and not yet acted on it
pub record CanAccept (g : Group) (w : World) (m : ℕ) : Type 0 where
  pub alive : IsRunning g w m
  pub inside : IsInView w m
  pub vote : Vote
  pub waits : w.pending m ≡ Some vote
  pub other : vote.ballot ≢ m

pub record CanCommit (g : Group) (w : World) (m : ℕ) : Type 0 where
  pub may : MayChoose g w m
  pub wedged : ¬ IsUnwedged w m
  pub uncommitted : w.committed m ≡ None
  pub rows : MayCommit (roster g) (shown w m) (w.members m) m

-- m is done where it suspects nobody, and every row of the view shows done
pub record IsDone (w : World) (m : ℕ) : Type 0 where
  pub unwedged : IsUnwedged w m
  pub all : (i : ℕ) → has (w.members m) i ≡ true → shown w m i DONE_COLUMN ≡ 1

-- the row of another member that m doesn't suspect says that this member suspects m
pub record IsSuspectedBy (w : World) (m i : ℕ) : Type 0 where
  pub row : IsOther w m i
  pub unsuspected : has (w.suspects m) i ≡ false
  pub named : has (w.seen m i SUSPECTED_COLUMN) m ≡ true

-- m is wedged, and these are the members of its view that it doesn't suspect: no majority
pub record IsMinority (w : World) (m mask : ℕ) : Type 0 where
  pub wedged : ¬ IsUnwedged w m
  pub unsuspected : mask ≡ unsuspected_of w m
  pub minority : ¬ IsMajorityOf mask (w.members m)

-- the value that m has committed names it as one that leaves, and the next view has this number
pub record IsExcluded (w : World) (m view : ℕ) : Type 0 where
  pub value : Value
  pub committed : w.committed m ≡ Some value
  pub named : has value.leavers m ≡ true
  pub next : view ≡ w.past.view m + 1

-- the end is due, and none of those that come at any time
abbrev pub IsDue : World → ℕ → End → Type 0
IsDue w m Done = IsDone w m
IsDue w m (Suspected by) = IsSuspectedBy w m by
IsDue w m (NoMajority mask) = IsMinority w m mask
IsDue w m (Excluded view) = IsExcluded w m view
IsDue w m end = ⊥

pub record CanHalt (g : Group) (w : World) (m : ℕ) (end : End) : Type 0 where
  pub may : MayChoose g w m
  pub due : IsDue w m end

-- the ends that come over a member at any time
abbrev pub IsFault : End → Type 0
IsFault Done = ⊥
IsFault Crashed = ⊤
IsFault (Suspected by) = ⊥
IsFault (Excluded view) = ⊥
IsFault (NoMajority mask) = ⊥
IsFault DiskFault = ⊤
IsFault (LogFull len) = ⊤
IsFault (Spent turns) = ⊤
IsFault Absent = ⊥

pub record CanCrash (g : Group) (w : World) (m : ℕ) (end : End) : Type 0 where
  pub alive : IsRunning g w m
  pub fault : IsFault end
