-- The form that replicas and running members always have, and what ties them to a group.
use Rattle.std.specs.Prelude.{◌≡◌, ℕ, ◌+◌, ◌*◌, ◌^◌, ◌<◌, ◌≤◌, ◌&&◌, ◌||◌, true, false, List, [], length, map, slice_index, slice_get, Option, None, Some}
use Rattle.dr_entry.specs.declared.limits.TheConstants.{MAX_MEMBERS, MAX_MESSAGES, MAX_MESSAGE_LENGTH}
use Rattle.dr_entry.specs.declared.record.{Value.Value, Vote.Vote}
use Rattle.dr_history.specs.{History.messages_of, Members.{has, members_of}, Order.messages_from, Places.front_of}
use Rattle.dr_ring.specs.Slots.{slot_column}
use Rattle.dr_rows.specs.Words.{IsWords, own, is_frozen}
use Rattle.dr_words.specs.{Accepts.part_of as value_part, Columns.{columns_of, recv_column}, Form.AllInForm}
use Rattle.dr_words.specs.{Masks.IsInRoster, Packing.{accept_promise, accept_tag, accept_value, recv_word, ring_tag}}
use Rattle.dr_words.specs.Rewrites.{is_accept_of}
use Rattle.dr_words.specs.declared.column.TheConstants.{BEAT_COLUMN, SUSPECTED_COLUMN, RECEIVED_COLUMN, LOGGED_COLUMN, PIECES}
use Rattle.dr_suspect.specs.Waits.{IsWaits}
use Rattle.dr_program.specs.Replica.{Replica, me, count, greatest, is_inside, is_wedged, promise, members_in_view}
use Rattle.dr_program.specs.{Running.{Running, WaitsAt, members, columns, applies}, Turn.{IsIn, part_of, turn_begins}}
use Rattle.dr_program.specs.declared.setup.Setup.{Setup}
use Rattle.dr_machine.specs.Group as groups
use Rattle.dr_machine.specs.{Group.{Group, IsPresent, banks, late_members, roster}, Sending.IsPut}

-- what a replica begins with has its ranges
pub record CanBegin (s : Setup) : Type 0 where
  -- there is a bank for each member, and one more for each late one; View 0, in which somebody is, and the late
  -- members are of the roster, and the member is in View 0 or late
  pub banks : s.shape.banks ≡ s.shape.members + length (members_of s.late)
  pub some : 0 < s.members
  pub roster : IsInRoster s.shape.members s.members
  pub late : IsInRoster s.shape.members s.late
  pub apart : (i : ℕ) → has s.late i ≡ true → has s.members i ≡ false
  pub present : (has s.members s.me || has s.late s.me) ≡ true
  -- nobody has too many messages, and the member has as many as it is told, of a length that a message may
  -- have
  pub few : (i : ℕ) → slice_index s.totals i ≤ MAX_MESSAGES
  pub messages : length s.messages ≡ slice_index s.totals s.me
  pub short : (i : ℕ) (bytes : List ℕ) → slice_get s.messages i ≡ Some bytes → length bytes
      ≤ MAX_MESSAGE_LENGTH
  pub bytes : (i : ℕ) (bytes : List ℕ) → slice_get s.messages i ≡ Some bytes → (k : ℕ)
      → slice_index bytes k < 256
  -- the start has no more messages of the member than the script, and isn't too long
  pub base : length (messages_from s.me s.start) ≤ length s.messages
  pub start : length s.start < 2 ^ 31

-- how many votes wait
abbrev pub waiting : Option Vote → ℕ
waiting None = 0
waiting (Some x) = 1

-- a vote that a replica has logged and not yet acted on, by its numbers of members, its tag and its promise
pub record IsVoteDue (n tag promise : ℕ) (x : Vote) : Type 0 where
  pub ballot : x.ballot ≤ promise
  pub above : tag ≤ x.ballot
  pub leavers : x.value.leavers < 2 ^ n
  pub trims : (s : ℕ) → slice_index x.value.trim s < 2 ^ 32

-- a member that is none of its view: it is late and has the first view, where it has named nobody, has voted for
-- nothing and waits for no vote, and has logged all that it has
pub record WaitsToJoin (r : Replica) : Type 0 where
  pub late : has r.late (me r) ≡ true
  pub first : r.view ≡ 0
  pub trusting : r.suspects ≡ 0
  pub none : r.votes ≡ []
  pub idle : r.pending ≡ None
  pub all : r.logged ≡ length r.history

-- the form that a replica always has
pub record HasForm (r : Replica) : Type 0 where
  -- its rows are of the group's shape, and each word of them is in form
  pub rows : IsWords r.rows
  pub members : r.rows.members ≡ r.roster
  pub columns : r.rows.columns ≡ columns_of r.roster r.window
  pub words : AllInForm r.rows.members r.rows.words
  pub some_slot : 1 ≤ r.window
  pub most_slots : r.window ≤ 8
  -- it suspects, or wishes for, others of the roster alone; their rows are frozen
  pub number : me r < r.roster
  pub trusted : has r.suspects (me r) ≡ false
  pub named : IsInRoster r.roster r.suspects
  pub frozen : (i : ℕ) → is_frozen r.rows i ≡ has r.suspects i
  -- its view is of the roster, has a bank, and it is a member of it, or late, and has done nothing yet
  pub bank : r.view < r.banks
  -- it keeps something of each view before
  pub left : length r.left ≡ r.view
  pub roster : IsInRoster r.roster r.members
  pub late : IsInRoster r.roster r.late
  pub outside : is_inside r ≡ false → WaitsToJoin r
  -- it has given letters to members that a roster can have
  pub given : r.given < 2 ^ MAX_MEMBERS
  -- it counts the items of each member, and no more than anyone has messages, with a place for each
  pub counts : length r.counts ≡ r.roster
  pub bounded : (s : ℕ) → count r s ≤ greatest r.totals
  pub few : greatest r.totals ≤ MAX_MESSAGES
  pub items : length r.items ≡ greatest r.totals * r.roster
  -- its own words follow what it has
  pub suspected : own r.rows SUSPECTED_COLUMN ≡ r.suspects
  pub recv : (s : ℕ) → s < r.roster
      → own r.rows (recv_column s) ≡ recv_word (count r s) (is_wedged r && has r.members s)
  pub accept : (c : ℕ) → is_accept_of r.roster r.members c ≡ true → accept_promise (own r.rows c) ≡ promise r
  pub tagged : (c : ℕ) → is_accept_of r.roster r.members c ≡ true → accept_tag (own r.rows c) ≡ r.tag
  pub valued : (c : ℕ) → is_accept_of r.roster r.members c ≡ true
      → accept_value (own r.rows c) ≡ value_part r.roster r.value c
  pub low : r.tag ≤ promise r + 1
  -- the value that it has committed names members of the roster
  pub decided : (x : Value) → r.committed ≡ Some x → x.leavers < 2 ^ r.roster
  -- a vote that waits is by a ballot up to its promise, above its tag, and of a value that accept words hold
  pub waits : (x : Vote) → r.pending ≡ Some x → IsVoteDue r.roster r.tag (promise r) x
  -- it has voted once by each ballot at most in each view that it has left, in this one once by each ballot
  -- below its tag at most, and by that of the vote that waits
  pub votes : length r.votes ≤ r.view * r.roster + r.tag + waiting r.pending
  pub received : own r.rows RECEIVED_COLUMN ≡ front_of (map (slice_index r.counts) (members_in_view r))
  pub beat : own r.rows BEAT_COLUMN ≤ r.acts
  pub acts : r.acts < 2 ^ 64
  pub published : own r.rows LOGGED_COLUMN ≤ r.logged
  -- no word of its ring is of an item that it hasn't put
  pub ring : (k part : ℕ) → part < PIECES
      → ring_tag (own r.rows (slot_column r.roster r.window k + part)) ≤ count r (me r)
  -- it has its script's messages
  pub messages : length r.messages ≡ slice_index r.totals (me r)
  pub short : (i : ℕ) (bytes : List ℕ) → slice_get r.messages i ≡ Some bytes → length bytes
      ≤ MAX_MESSAGE_LENGTH
  pub bytes : (i : ℕ) (bytes : List ℕ) → slice_get r.messages i ≡ Some bytes → (k : ℕ)
      → slice_index bytes k < 256
  -- it has put them one by one from the first one of the view on, and then nulls
  pub put : length r.sent ≡ count r (me r)
  pub order : IsPut r.base (length r.messages) r.sent
  -- its log is a front of its history, for which there is room
  pub logged : r.logged ≤ length r.history
  pub room : length r.history ≤ r.room
  pub small : r.room < 2 ^ 32

-- the replica is that of member m of the group, which is there
pub record IsOf (g : Group) (m : ℕ) (r : Replica) : Type 0 where
  pub present : IsPresent g m
  pub number : me r ≡ m
  pub age : r.age ≡ g.opening.age
  pub members : r.roster ≡ roster g
  pub window : r.window ≡ g.window
  pub banks : r.banks ≡ banks g
  pub messages : r.messages ≡ messages_of g.opening m
  pub totals : (s : ℕ) → slice_index r.totals s ≡ length (messages_of g.opening s)
  pub late : r.late ≡ late_members g
  -- its history has room for the start, a View for each bank, and all messages
  pub room : length g.opening.start + groups.banks g + greatest r.totals * roster g < r.room

-- the form that a running member always has
pub record IsRunningMember (r : Running) : Type 0 where
  pub replica : HasForm r.replica
  -- it stands at a place of its turn at which there is something to do, unless it has ended
  pub place : IsIn (members r) (columns r) r.place
  pub due : r.replica.end ≡ None → applies r r.place ≡ true
  -- a vote waits only where it is acted on
  pub free : WaitsAt r (part_of r.place)
  -- its turns don't exceed the limit, and before a turn one more is left
  pub turns : r.replica.turns ≤ r.limit
  -- it keeps a count and a beat for each member of the greatest group
  pub waits : IsWaits r.waits
  pub left : r.replica.end ≡ None → part_of r.place ≡ turn_begins → r.replica.turns < r.limit
