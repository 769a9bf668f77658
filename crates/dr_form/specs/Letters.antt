-- Letters by which a member may join.
use Rattle.std.specs.Prelude.{◌≡◌, ◌<◌, ◌≤◌, true, List, length}
use Rattle.dr_entry.specs.declared.entry.Entry.{Entry}
use Rattle.dr_history.specs.{History.last_view, Members.has, Order.messages_from}
use Rattle.dr_words.specs.Masks.{IsInRoster}
use Rattle.dr_program.specs.Replica.{Replica, me}

-- a letter that fits a member that hasn't joined: it is no shorter than the member's history, there is room for
-- it, it has no more messages of the member than that has, and its last View is one of the roster with the member,
-- above the first one, for which there is a bank
pub record IsFitting (r : Replica) (letter : List Entry) : Type 0 where
  pub more : length r.history ≤ length letter
  pub room : length letter ≤ r.room
  pub base : length (messages_from (me r) letter) ≤ length r.messages
  pub later : 0 < (last_view (0, 0) letter).0
  pub bank : (last_view (0, 0) letter).0 < r.banks
  pub roster : IsInRoster r.roster (last_view (0, 0) letter).1
  pub inside : has (last_view (0, 0) letter).1 (me r) ≡ true
