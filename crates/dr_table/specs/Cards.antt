-- What contracts see of boards and hands.
use Rattle.std.specs.Prelude.{◌≡◌, ◌+◌, ◌-◌, ℕ, IsTrue, List, is_some, map, replicate, Some, Option, option_map}
use Rattle.dr_entry.specs.declared.entry.Entry.{Entry}
use Rattle.atomic_table.specs.Seated.{TableId}
use Rattle.dr_member.specs.Deeds.{table_size}
use Rattle.dr_program.specs.{Presence.present_at, Program.Program, Running.{Running, settled, took_letter}}
use Rattle.dr_table.specs.{Rule.{no_posts, number}, Steps.{IsReachedMember, MayTake}}

-- which table it is, and how many places were dealt over it
pub record DealtTable : Type 0 where
  pub id : TableId
  pub places : ℕ

-- a table, and members over its words, each at a place of a list: those that were dealt, or those that a hand holds;
-- the place of a member that is absent is empty
pub record Cards : Type 0 where
  pub table : DealtTable
  pub members : List (Option Running)

-- a table, and a member over its words
pub record Seated : Type 0 where
  pub table : DealtTable
  pub member : Running

-- the program as the age opens: the dealt members, over words that are all 0, without letters. One word more for each
-- of its places stands behind its table
abbrev pub opened : Cards → Program
opened board = record {
  members = board.members;
  table = replicate (board.table.id.words - board.table.places) 0;
  letters = no_posts board.members;
}

-- the words of a board with this member: those of the table, and one for each member of the roster
abbrev pub board_size : Running → ℕ
board_size r = table_size r + r.replica.roster

-- the members know the number of the board's words
abbrev pub AreOf : ℕ → List (Option Running) → Type 0
AreOf words members = (k : ℕ) (r : Running) → present_at members k ≡ Some r → board_size r ≡ words

-- each is a member of a program in a world that is reached
abbrev pub AreReached : List (Option Running) → Type 0
AreReached members = (k : ℕ) (r : Running) → present_at members k ≡ Some r → IsReachedMember r

-- the member has ended, and all of these have
abbrev pub IsAtEnd : Running → Type 0
IsAtEnd r = IsTrue (is_some r.replica.end)

abbrev pub AreAtEnd : List (Option Running) → Type 0
AreAtEnd members = (k : ℕ) (r : Running) → present_at members k ≡ Some r → IsAtEnd r

-- the same members, in the same order
abbrev pub AreSame : List (Option Running) → List (Option Running) → Type 0
AreSame before after = map (option_map number) after ≡ map (option_map number) before

-- the member has taken the letter that it found, or has found none
abbrev pub HasAskedForLetter : Running → Running → Type 0
HasAskedForLetter r q = (letter : Option (List Entry)) × MayTake r letter × (q ≡ settled (took_letter letter r))
