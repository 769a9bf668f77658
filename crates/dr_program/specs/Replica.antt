-- A replica: what one member has and has seen, and what each of its acts makes of it. Lists go by the
-- members' numbers.
use Rattle.std.specs.List.{list_all, list_any, range_with_len}
use Rattle.std.specs.Prelude.{ℕ, ◌+◌, ◌*◌, ◌-◌, ◌^◌, ◌/◌, ◌%◌, ◌==◌, ◌&&◌, ◌||◌, Bool, if◌then◌else◌, not, nat_lt, min, max, List, [], ◌∷◌, ◌++◌, length, map, fold, replicate, slice_index, slice_index_or, slice_set, unwrap_or, is_some, Option, None, Some, true, false}
use Rattle.dr_entry.specs.{declared.end.End.End, declared.record.{Value.Value, Vote.Vote}}
use Rattle.dr_entry.specs.declared.end.End.TheVariants.{Done, Crashed, Suspected, Excluded, NoMajority, DiskFault, LogFull, Spent}
use Rattle.dr_entry.specs.declared.{end.SentItem.{SentItem, TheVariants.Index}, entry.Entry.{Entry, TheVariants.View}}
use Rattle.dr_entry.specs.declared.{entry.Item.{Item, TheVariants.{Null, Text}}, limits.TheConstants.MAX_MEMBERS}
use Rattle.dr_entry.specs.declared.end.SentItem.TheVariants as sent_items
use Rattle.dr_history.specs.{History.{last_view, messages_in}, Members.{has, members_of}, Order.messages_from}
use Rattle.dr_history.specs.Places.{front_of, rest_places}
use Rattle.dr_ring.specs.Slots.{is_free, item_in, slot_of, with_item}
use Rattle.dr_rows.specs.Words as rows
use Rattle.dr_rows.specs.Words.{Words, begun, row_of, seen, own, rewritten, with_frozen}
use Rattle.dr_suspect.specs.{Suspicion.{Suspicion, names_me}, Wishes.may_wish}
use Rattle.dr_words.specs.{Accepts.promise_of, Choices.{proposal, shown_value}, Columns.{columns_of, recv_column}}
use Rattle.dr_words.specs.{Masks.{least_of, mask_of, next_members, with_member, without}, Packing.recv_word}
use Rattle.dr_words.specs.Rewrites.{accepted_word, wedged_word}
use Rattle.dr_words.specs.declared.column.TheConstants.{BEAT_COLUMN, RECEIVED_COLUMN, LOGGED_COLUMN, DONE_COLUMN}
use Rattle.dr_words.specs.Choices as choices
use Rattle.dr_program.specs.declared.setup.Setup.{Setup}
use Rattle.dr_machine.specs.{Effects.{entries_of, one_more}, World.{no_value, no_vote}}

-- what a member keeps of a view that it has left: its own words, how many items of each member it had, and
-- what it had put
pub record LeftView : Type 0 where
  pub own : List ℕ
  pub counts : List ℕ
  pub sent : List SentItem

pub record Replica : Type 0 where
  -- the age, the numbers of members, of slots and of banks, the script's messages of this member, and the
  -- numbers of those of all
  pub age : ℕ
  pub roster : ℕ
  pub window : ℕ
  pub banks : ℕ
  pub messages : List (List ℕ)
  pub totals : List ℕ
  -- the late members of the age, as a mask
  pub late : ℕ
  -- its own words, those that it has seen, and those that it has pushed
  pub rows : Words
  -- the number of its view, and as masks the view's members, and those that it suspects or wishes for: the
  -- rows of both are frozen
  pub view : ℕ
  pub members : ℕ
  pub suspects : ℕ
  -- the members of the view that it came from, or waited outside of until it joined, and those to which it has given
  -- a letter in this one, as masks
  pub came_from : ℕ
  pub given : ℕ
  -- the tag and the value that it has accepted, the value that it has committed, the vote that it has logged
  -- and not yet acted on, and the votes on its log
  pub tag : ℕ
  pub value : Value
  pub committed : Option Value
  pub pending : Option Vote
  pub votes : List Vote
  -- how many items of each member it has in this view; item k of member s stands at k times the roster plus
  -- s, a null where it has none
  pub counts : List ℕ
  pub items : List Item
  -- the index of the first message that it puts in this view, and what it has put
  pub base : ℕ
  pub sent : List SentItem
  -- what it keeps of each view that it has left, by the view's number
  pub left : List LeftView
  -- the next place that it delivers, what it has delivered, and how many entries it has room for
  pub next : ℕ
  pub history : List Entry
  pub room : ℕ
  -- how many entries it has logged, and how many it knows to be durable
  pub logged : ℕ
  pub durable : ℕ
  -- its turns, its acts, and how it ended
  pub turns : ℕ
  pub acts : ℕ
  pub end : Option End

-- the greatest number of messages of a member
abbrev pub greatest : List ℕ → ℕ
greatest totals = fold max 0 totals

-- what a history begins with, by a setup
abbrev pub first_entries_of : Setup → List Entry
first_entries_of s = s.start ++ View s.age 0 s.members ∷ []

-- a replica as its age opens
abbrev pub begun_replica : Setup → Replica
begun_replica s =
    let n = s.shape.members in
    let first = first_entries_of s in record {
      age = s.age;
      roster = n;
      window = s.shape.window;
      banks = s.shape.banks;
      messages = s.messages;
      totals = s.totals;
      late = s.late;
      rows = rows.with_own (begun n (columns_of n s.shape.window) s.me) LOGGED_COLUMN
          (if has s.members s.me then length first else 0);
      view = 0;
      members = s.members;
      suspects = 0;
      came_from = 0;
      given = 0;
      tag = 0;
      value = no_value;
      committed = None;
      pending = None;
      votes = [];
      counts = replicate n 0;
      items = replicate (greatest s.totals * n) Null;
      base = length (messages_from s.me s.start);
      sent = [];
      left = [];
      next = 0;
      history = first;
      room = length s.start + s.shape.banks + greatest s.totals * n + 1;
      logged = length first;
      durable = length first;
      turns = 0;
      acts = 0;
      end = None;
    }

-- ---- what it knows

-- its own number, and the members of its view, ascending
abbrev pub me : Replica → ℕ
me r = r.rows.me

abbrev pub members_in_view : Replica → List ℕ
members_in_view r = members_of r.members

-- it is in its view: a late member is so once it has joined
abbrev pub is_inside : Replica → Bool
is_inside r = has r.members (me r)

-- i is another member of its view
abbrev pub is_other : Replica → ℕ → Bool
is_other r i = has r.members i && not (i == me r)

-- how many items of s it has, and item k of s
abbrev pub count : Replica → ℕ → ℕ
count r s = slice_index r.counts s

abbrev pub item : Replica → ℕ → ℕ → Item
item r s k = slice_index_or r.items (k * r.roster + s) Null

-- who suspects somebody, or wishes for somebody, is wedged: it puts and takes no more items in its view
abbrev pub is_wedged : Replica → Bool
is_wedged r = not (r.suspects == 0)

-- its suspicion, and the members of its view that it doesn't suspect, itself among them
abbrev pub suspicion_of : Replica → Suspicion
suspicion_of r = record { me = me r; members = r.members; suspects = r.suspects }

abbrev pub unsuspected : Replica → ℕ
unsuspected r = without r.members r.suspects

-- these are more than half of its view
abbrev pub has_majority : Replica → Bool
has_majority r = nat_lt (length (members_in_view r)) (2 * length (members_of (unsuspected r)))

-- the member whose proposal it waits for, once it is wedged: the least of these
abbrev pub promise : Replica → ℕ
promise r = if is_wedged r then least_of (unsuspected r) else 0

-- whether its rows allow it to propose, and to accept
abbrev pub may_propose : Replica → Bool
may_propose r = choices.may_propose r.roster (seen r.rows) r.members r.suspects (me r)

abbrev pub may_accept : Replica → Bool
may_accept r = choices.may_accept r.roster (seen r.rows) r.members r.suspects (me r)

-- the value that it votes for where it may: the one that it proposes, or the one that the member that it has
-- promised shows
abbrev pub value_due : Replica → Value
value_due r =
    if may_propose r then proposal r.roster (seen r.rows) r.members r.suspects
    else shown_value r.roster (seen r.rows) r.members (promise_of r.roster (seen r.rows) (me r))

-- its vote for a value
abbrev pub vote_of : Replica → Value → Vote
vote_of r v = record {
  age = r.age;
  view = r.view;
  ballot = promise r;
  members = r.roster;
  value = v;
}

-- the two values are one, the second of which has a trim for each member that a roster can have
abbrev pub is_value : Value → Value → Bool
is_value u v = (u.leavers == v.leavers) && ((length u.trim == MAX_MEMBERS)
    && list_all (λ s. slice_index u.trim s == slice_index v.trim s) (range_with_len 0 MAX_MEMBERS))

-- the least word of a column over the rows of its view
abbrev pub least_seen : Replica → ℕ → ℕ
least_seen r c = fold min (2 ^ 64 - 1) (map (λ i. seen r.rows i c) (members_in_view r))

-- the next item of s, where all words that it needs are seen
abbrev pub ready_item : Replica → ℕ → Option Item
ready_item r s = item_in (count r s) (slot_of r.window r.rows s (count r s))

-- the index of the next message that it puts
abbrev pub next_index : Replica → ℕ
next_index r = r.base + messages_in r.sent

-- its history has as many messages of each member of its view as the script
abbrev pub holds_all : Replica → Bool
holds_all r = list_all (λ s. length (messages_from s r.history) == slice_index r.totals s) (members_in_view r)

-- every row of its view shows done
abbrev pub all_done : Replica → Bool
all_done r = list_all (λ i. seen r.rows i DONE_COLUMN == 1) (members_in_view r)

-- ---- what it may do

-- who is wedged does nothing of this

-- an item of s is there to be taken, and s has not yet sent as many as anyone has messages
abbrev pub may_receive : Replica → ℕ → Bool
may_receive r s = not (is_wedged r)
    && (is_other r s && (is_some (ready_item r s) && nat_lt (count r s) (greatest r.totals)))

-- a message is left, and the slot of its item is free
abbrev pub may_send : Replica → Bool
may_send r = not (is_wedged r) && (nat_lt (next_index r) (length r.messages)
    && is_free r.window r.rows r.members (count r (me r)))

-- it has more items of some sender than it has put itself
abbrev pub is_behind : Replica → Bool
is_behind r = list_any (nat_lt (count r (me r))) r.counts

-- no message is left, it is behind, and the slot of its next item is free
abbrev pub may_null : Replica → Bool
may_null r = not (is_wedged r) && (not (nat_lt (next_index r) (length r.messages))
    && (is_behind r && is_free r.window r.rows r.members (count r (me r))))

-- every row of the view shows that the next place was received, and there is room for an entry
abbrev pub may_deliver : Replica → Bool
may_deliver r = not (is_wedged r)
    && (nat_lt r.next (least_seen r RECEIVED_COLUMN) && nat_lt (length r.history) r.room)

-- its history has all messages of each member of its view, durably, and it hasn't said so yet
abbrev pub may_mark : Replica → Bool
may_mark r = not (is_wedged r)
    && ((own r.rows DONE_COLUMN == 0) && (holds_all r && (r.durable == length r.history)))

-- and this it does wedged too
abbrev pub may_append : Replica → Bool
may_append r = nat_lt r.logged (length r.history)

abbrev pub may_publish : Replica → Bool
may_publish r = nat_lt (own r.rows LOGGED_COLUMN) r.logged

abbrev pub may_report : Replica → Bool
may_report r = nat_lt r.durable (least_seen r LOGGED_COLUMN)

-- it is wedged and has committed nothing, its history is logged, its rows allow it to propose or to accept,
-- and this is the value
abbrev pub may_vote : Replica → Value → Bool
may_vote r v = is_wedged r && (not (is_some r.committed) && (not (may_append r)
    && ((may_propose r || may_accept r) && is_value v (value_due r))))

-- the vote that waits is by its own ballot, or by another member's
abbrev pub is_own : ℕ → Option Vote → Bool
is_own me None = false
is_own me (Some x) = x.ballot == me

abbrev pub is_others : ℕ → Option Vote → Bool
is_others me None = false
is_others me (Some x) = not (x.ballot == me)

-- it is wedged and has committed nothing, and its rows allow it to commit
abbrev pub may_commit : Replica → Bool
may_commit r = is_wedged r && (not (is_some r.committed)
    && choices.may_commit r.roster (seen r.rows) r.members (me r))

-- the sender of a place of its view, and the item there
abbrev pub sender_of_place : Replica → ℕ → ℕ
sender_of_place r p = slice_index (members_in_view r) (p % length (members_in_view r))

abbrev pub item_of_place : Replica → ℕ → Item
item_of_place r p = item r (sender_of_place r p) (p / length (members_in_view r))

-- its history as it ends its view with a value: the rest is delivered, place by place, and behind it stands
-- the View of the members that come of this one
abbrev pub with_place : Replica → List Entry → ℕ → List Entry
with_place r history p = history ++ entries_of history (sender_of_place r p) (item_of_place r p)

abbrev pub finished_history : Replica → Value → List Entry
finished_history r x =
    fold (with_place r) r.history (rest_places (map (λ s. slice_index x.trim s) (members_in_view r)) r.next)
    ++ View r.age (r.view + 1) (next_members r.members x.leavers) ∷ []

-- it may end its view with a value by which it stays, where there is a bank for the next one, it has the
-- items that the value takes, there is room for the entries, and these have no more of its messages than
-- there are
abbrev pub may_end : Replica → Value → Bool
may_end r x = not (has x.leavers (me r)) && (nat_lt (r.view + 1) r.banks
    && (list_all (λ s. nat_lt (slice_index x.trim s) (count r s + 1)) (members_in_view r)
    && (nat_lt (length (finished_history r x)) (r.room + 1)
    && nat_lt (length (messages_from (me r) (finished_history r x))) (length r.messages + 1))))

abbrev pub may_finish : Replica → Option Value → Bool
may_finish r None = false
may_finish r (Some x) = may_end r x

-- the value that it has committed names it as one that leaves
abbrev pub is_named : ℕ → Option Value → Bool
is_named me None = false
is_named me (Some v) = has v.leavers me

-- another member of its view, or one that it may wish for, not yet named
abbrev pub may_suspect : Replica → ℕ → Bool
may_suspect r j = nat_lt j r.roster && (not (j == me r)
    && ((has r.members j || may_wish r.history r.age r.late j) && not (has r.suspects j)))

-- it has come into its view with j, and is the least of those that were in the one before: it gives j the
-- letter, once
abbrev pub is_welcomer : Replica → Bool
is_welcomer r = has r.came_from (me r)
    && (least_of (mask_of (λ i. has r.came_from i && has r.members i)) == me r)

abbrev pub may_give : Replica → ℕ → Bool
may_give r j = nat_lt j r.roster && (is_welcomer r && (has r.members j && (not (has r.came_from j)
    && not (has r.given j))))

-- the end is due: it is done; an unsuspected row says that its member suspects this one; or it is wedged, and
-- these unsuspected members are no majority
abbrev pub is_due : Replica → End → Bool
is_due r Done = not (is_wedged r) && all_done r
is_due r (Suspected by) = nat_lt by r.roster && (not (by == me r) && names_me (suspicion_of r) r.rows by)
is_due r (NoMajority mask) = is_wedged r && ((mask == unsuspected r) && not (has_majority r))
is_due r (Excluded view) = is_named (me r) r.committed && (view == r.view + 1)
is_due r end = false

-- the ends that come over a member at any time
abbrev pub is_fault : End → Bool
is_fault Crashed = true
is_fault DiskFault = true
is_fault (LogFull len) = true
is_fault (Spent turns) = true
is_fault end = false

-- ---- what it does

-- an act: the number of acts rises by one, and the own beat word takes it
abbrev pub acted : Replica → Replica
acted r = record r { acts = one_more 64 r.acts; rows = rows.with_own r.rows BEAT_COLUMN (one_more 64 r.acts) }

abbrev pub beaten : Replica → Replica
beaten r = record r { turns = one_more 32 r.turns }

abbrev pub looked : Replica → ℕ → ℕ → ℕ → Replica
looked r i c word = record r { rows = rows.looked r.rows i c word }

abbrev pub pushed : Replica → ℕ → ℕ → Replica
pushed r j c = record r { rows = rows.pushed r.rows j c }

-- it has one item more of s: the recv word of s and the received word follow
abbrev pub gained : Replica → ℕ → Item → Replica
gained r s item =
    let k = count r s in
    let counts = slice_set r.counts s (k + 1) in record r {
      counts = counts;
      items = slice_set r.items (k * r.roster + s) item;
      rows = rows.with_own (rows.with_own r.rows (recv_column s) (recv_word (k + 1) false)) RECEIVED_COLUMN
          (front_of (map (slice_index counts) (members_in_view r)));
    }

abbrev pub received : Replica → ℕ → Replica
received r s = gained r s (unwrap_or (ready_item r s) Null)

-- it puts an item: its pieces stand in the slot
abbrev pub put : Replica → SentItem → Item → Replica
put r name item = gained (record r
    { rows = with_item r.window r.rows (count r (me r)) item; sent = r.sent ++ name ∷ [] }) (me r) item

abbrev pub sent : Replica → Replica
sent r = put r (Index (next_index r)) (Text (slice_index_or r.messages (next_index r) []))

abbrev pub nulled : Replica → Replica
nulled r = put r sent_items.Null Null

abbrev pub delivered : Replica → Replica
delivered r = record r {
  history = r.history ++ entries_of r.history (sender_of_place r r.next) (item_of_place r r.next);
  next = r.next + 1;
}

-- the next entry of the history goes on the log
abbrev pub appended : Replica → Replica
appended r = record r { logged = r.logged + 1 }

abbrev pub published : Replica → Replica
published r = record r { rows = rows.with_own r.rows LOGGED_COLUMN r.logged }

abbrev pub reported : Replica → Replica
reported r = record r { durable = least_seen r LOGGED_COLUMN }

abbrev pub marked : Replica → Replica
marked r = record r { rows = rows.with_own r.rows DONE_COLUMN 1 }

-- it suspects one member more, or wishes for it: that one's row is frozen, its recv words are final, and its accept
-- words have the promise to the least member that it doesn't suspect
abbrev pub suspected : Replica → ℕ → Replica
suspected r j =
    let mask = with_member r.suspects j in
    let promise = least_of (without r.members mask) in record r {
      suspects = mask;
      rows = with_frozen (rewritten r.rows (wedged_word r.roster r.members mask promise)) j;
    }

-- its vote goes on its log, and waits to be acted on
abbrev pub voted : Replica → Value → Replica
voted r v = record r { votes = r.votes ++ vote_of r v ∷ []; pending = Some (vote_of r v) }

-- it accepts the value of the vote that waits, by the tag of its ballot
abbrev pub accepted : Replica → Replica
accepted r =
    let vote = unwrap_or r.pending no_vote in
    let tag = vote.ballot + 1 in record r {
      rows = rewritten r.rows (accepted_word r.roster r.members tag vote.value);
      tag = tag;
      value = vote.value;
      pending = None;
    }

-- it commits what it has accepted
abbrev pub decided : Replica → Replica
decided r = record r { committed = Some r.value }

-- what it keeps of its view as it leaves it
abbrev pub left_now : Replica → LeftView
left_now r = record { own = row_of r.rows.words (me r); counts = r.counts; sent = r.sent }

-- what it keeps of a view that it was none of
abbrev pub nothing_left : LeftView
nothing_left = record { own = []; counts = []; sent = [] }

-- it goes on in a view of these members with this history, where all is as at the beginning, and keeps this of
-- the views before
abbrev pub entered : Replica → ℕ → ℕ → List Entry → List LeftView → Replica
entered r view members history left = record r {
  rows = rows.with_own (begun r.rows.members r.rows.columns (me r)) LOGGED_COLUMN r.logged;
  view = view;
  members = members;
  suspects = 0;
  came_from = r.members;
  given = 0;
  tag = 0;
  value = no_value;
  committed = None;
  counts = replicate r.roster 0;
  items = replicate (greatest r.totals * r.roster) Null;
  base = length (messages_from (me r) history);
  sent = [];
  left = left;
  next = 0;
  history = history;
}

-- it ends its view with a value, and goes on in the next one
abbrev pub finished_by : Replica → Value → Replica
finished_by r x = entered r (r.view + 1) (next_members r.members x.leavers) (finished_history r x)
    (r.left ++ left_now r ∷ [])

-- it comes into the view of its letter
abbrev pub joined : Replica → List Entry → Replica
joined r letter =
    let view = last_view (0, 0) letter in
    entered r view.0 view.1 letter (left_now r ∷ replicate (view.0 - 1) nothing_left)

-- it has given j the letter
abbrev pub gave : Replica → ℕ → Replica
gave r j = record r { given = with_member r.given j }

abbrev pub finished : Replica → Replica
finished r = finished_by r (unwrap_or r.committed no_value)

abbrev pub ended : Replica → End → Replica
ended r end = record r { end = Some end }
