-- The world: all members of a group in their age, and the words of the table that they share.
-- Members, rows and copies go by the members' numbers, and what belongs to a view also by the view's number.
use Rattle.std.specs.Prelude.{ℕ, ◌==◌, ◌&&◌, ◌%◌, ◌/◌, if◌then◌else◌, List, [], length, replicate, slice_index, Option, None}
use Rattle.dr_entry.specs.declared.{end.End.End, entry.{Entry.Entry, Item.{Item, TheVariants.Null}}}
use Rattle.dr_entry.specs.{declared.limits.TheConstants.MAX_MEMBERS, declared.record.{Value.Value, Vote.Vote}}
use Rattle.dr_history.specs.{History.Sent, Members.{has, members_of}, Order.{first_entries, messages_from}}
use Rattle.dr_words.specs.declared.column.TheConstants.{LOGGED_COLUMN}
use Rattle.dr_machine.specs.Group.{Group}

-- what only grows
pub record Past : Type 0 where
  -- the number of the view that a member is in
  pub view : ℕ → ℕ
  -- a member's own word of a column, in its view, and in each view that it has left as it left it
  pub own : ℕ → ℕ → ℕ → ℕ
  -- how many items of a sender a member has in a view: received ones, or, of itself, those that it has put
  pub count : ℕ → ℕ → ℕ → ℕ
  -- what a member has put in a view, by the indices of its messages
  pub sent : Sent
  -- what a member has delivered, and what of it stands on its log
  pub history : ℕ → List Entry
  pub log : ℕ → List Entry
  -- the votes of the age on its log
  pub votes : ℕ → List Vote
  -- how many entries it knows to be durable
  pub durable : ℕ → ℕ
  -- how many acts it has done
  pub acts : ℕ → ℕ

-- the words of the table, by bank, copy, row and column
abbrev pub Table : Type 0
Table = ℕ → ℕ → ℕ → ℕ → ℕ

-- the world, of which the rest belongs to each member's present view, but for turns, ends and the table
pub record World : Type 0 where
  pub past : Past
  -- the members of a member's view, as a mask: it is one of them, but for a late member that hasn't joined
  pub members : ℕ → ℕ
  -- whom it suspects and whom it wishes for, as a mask; the rows of both are frozen for it
  pub suspects : ℕ → ℕ
  -- its promise, the tag and the value that it has accepted, and the value that it has committed
  pub promise : ℕ → ℕ
  pub tag : ℕ → ℕ
  pub value : ℕ → Value
  pub committed : ℕ → Option Value
  -- the vote that it has logged and not yet acted on
  pub pending : ℕ → Option Vote
  -- item k of a sender, as it has it
  pub item : ℕ → ℕ → ℕ → Item
  -- the next place that it delivers
  pub next : ℕ → ℕ
  -- the index of the first message that it puts in its view
  pub base : ℕ → ℕ
  -- the word of a row and a column that it has last seen
  pub seen : ℕ → ℕ → ℕ → ℕ
  -- the turns that it has begun, and how it ended
  pub turns : ℕ → ℕ
  pub end : ℕ → Option End
  -- the table: the word of a bank, a copy, a row and a column. The bank is a view's number, and a member
  -- reads its own copy
  pub table : Table
  -- the members of the view that it came from, or waited outside of until it joined: nobody in the first view
  pub came_from : ℕ → ℕ
  -- those to which it has given a letter in its view, as a mask
  pub given : ℕ → ℕ
  -- the letter for a late member: the history with which it comes into its first view
  pub letter : ℕ → Option (List Entry)

-- no value
abbrev pub no_value : Value
no_value = record { leavers = 0; trim = replicate MAX_MEMBERS 0 }

-- no vote
abbrev pub no_vote : Vote
no_vote = record { age = 0; view = 0; ballot = 0; members = 0; value = no_value }

-- the world as the age opens: every history is the start and View 0, logged and durable, and nothing has
-- been put or seen. A late member has View 0 as well, of which it is none
abbrev pub opening_world : Group → World
opening_world g =
    let first = first_entries g.opening in record {
      past = record {
        view = λ m. 0;
        own = λ m v c. if has g.opening.members m && (v == 0 && c == LOGGED_COLUMN) then length first else 0;
        count = λ m v s. 0;
        sent = λ m v. [];
        history = λ m. first;
        log = λ m. first;
        votes = λ m. [];
        durable = λ m. length first;
        acts = λ m. 0;
      };
      members = λ m. g.opening.members;
      suspects = λ m. 0;
      promise = λ m. 0;
      tag = λ m. 0;
      value = λ m. no_value;
      committed = λ m. None;
      pending = λ m. None;
      item = λ m s k. Null;
      next = λ m. 0;
      base = λ m. length (messages_from m g.opening.start);
      seen = λ m i c. 0;
      turns = λ m. 0;
      end = λ m. None;
      table = λ v j i c. 0;
      came_from = λ m. 0;
      given = λ m. 0;
      letter = λ m. None;
    }

-- what member m has now: its own word of a column, and the count of a sender's items
abbrev pub own_word : World → ℕ → ℕ → ℕ
own_word w m c = w.past.own m (w.past.view m) c

abbrev pub items_received : World → ℕ → ℕ → ℕ
items_received w m s = w.past.count m (w.past.view m) s

-- the word of row i as member m has it: its own one in its own row, and else the one that it has seen
abbrev pub shown : World → ℕ → ℕ → ℕ → ℕ
shown w m i c = if i == m then own_word w m c else w.seen m i c

-- the members of m's view, ascending
abbrev pub view_members : World → ℕ → List ℕ
view_members w m = members_of (w.members m)

-- the item that m has at a place of its view
abbrev pub item_at_place : World → ℕ → ℕ → Item
item_at_place w m p =
    let ms = view_members w m in
    w.item m (slice_index ms (p % length ms)) (p / length ms)
