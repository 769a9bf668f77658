-- How the fields hold what contracts see of them.
use Rattle.std.specs.Prelude.{◌≡◌, ℕ, ◌+◌, ◌*◌, ◌<◌, ◌≤◌, All, [], length, map, slice_index, slice_index_or, vec_capacity}
use Rattle.dr_entry.specs.declared.entry.Item.TheVariants.{Null}
use Rattle.dr_history.specs.{Members.members_of, Order.messages_from}
use Rattle.dr_program.specs.{Form.HasForm, Replica.{Replica, greatest, least_seen, suspicion_of}}
use Rattle.dr_words.specs.{Columns.columns_of, declared.column.TheConstants.RECEIVED_COLUMN}
use Rattle.dr_replica.specs.{History.{Kept, HasEntryRoom}, Items.{Held, IsHeld, front}, Lefts.{IsSpare, left_of}}
use Rattle.dr_replica.specs.Spots.{IsSpot}
use Rattle.dr_replica.specs.declared.items.Items.TheInside as items
use Rattle.dr_replica.specs.declared.history.History.TheInside as history
use Rattle.dr_replica.specs.declared.replica.Replica.TheInside as replica

abbrev pub held_of : items.Inside → Held
held_of a = record {
  members = a.members.items;
  roster = a.roster;
  most = a.most;
  counts = a.counts.items;
  items = a.items.items;
}

-- the front is kept beside the counts, and behind the items of all members there are nulls
pub record AreItems (a : items.Inside) : Type 0 where
  pub form : IsHeld (held_of a)
  pub front : a.front.place ≡ front (held_of a)
  pub nulls : (k : ℕ) → ((s : ℕ) → slice_index a.counts.items s * a.roster ≤ k)
      → slice_index_or a.items.items k Null ≡ Null
  pub spot : IsSpot (length a.members.items) a.front

abbrev pub kept_of : history.Inside → Kept
kept_of a = record { roster = length a.messages.items; entries = a.entries.items; room = a.room }

-- the numbers of messages are kept beside the entries
pub record IsHistory (a : history.Inside) : Type 0 where
  pub form : HasEntryRoom (kept_of a)
  pub room : a.room ≤ vec_capacity a.entries
  pub messages : (s : ℕ) → s < length a.messages.items → slice_index a.messages.items s
      ≡ length (messages_from s a.entries.items)

abbrev pub replica_inside : replica.Inside → Replica
replica_inside a = record {
  age = a.age;
  roster = a.shape.members;
  window = a.shape.window;
  banks = a.shape.banks;
  messages = a.messages.items;
  totals = a.totals;
  late = a.late;
  rows = a.rows;
  view = a.view;
  members = a.members;
  suspects = a.suspects.suspects;
  came_from = a.came_from;
  given = a.given;
  tag = a.tag;
  value = a.value;
  committed = a.committed;
  pending = a.pending;
  votes = a.votes.items;
  counts = a.items.counts;
  items = a.items.items;
  base = a.base;
  sent = a.sent.items;
  left = map left_of a.left.items;
  next = a.next.place;
  history = a.history.entries;
  room = a.history.room;
  logged = a.logged;
  durable = a.durable;
  turns = a.turns;
  acts = a.acts;
  end = a.end;
}

pub record IsInsideReplica (a : replica.Inside) : Type 0 where
  pub form : HasForm (replica_inside a)
  -- it suspects in its view
  pub suspicion : a.suspects ≡ suspicion_of (replica_inside a)
  -- the items and the history are of this view and this roster
  pub members : a.items.members ≡ members_of a.members
  pub roster : a.items.roster ≡ a.shape.members
  pub most : a.items.most ≡ greatest a.totals
  pub messages : a.history.roster ≡ a.shape.members
  pub next : IsSpot (length (members_of a.members)) a.next
  pub received : a.received ≤ least_seen (replica_inside a) RECEIVED_COLUMN
  -- there is room for what it has yet to put, to keep something of each view that it leaves, and to tell how
  -- it ended
  pub sent : greatest a.totals ≤ vec_capacity a.sent
  pub left : a.shape.banks ≤ vec_capacity a.left
  pub spares : All (IsSpare (columns_of a.shape.members a.shape.window) a.shape.members (greatest a.totals))
      a.spares.items
  pub enough : a.shape.banks ≤ a.view + 1 + length a.spares.items
  pub past : a.past.items ≡ []
  pub end : a.shape.banks ≤ vec_capacity a.past
  -- and for a vote by each member's ballot in each view
  pub votes : a.shape.banks * a.shape.members ≤ vec_capacity a.votes
