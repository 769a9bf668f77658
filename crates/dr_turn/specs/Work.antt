-- How much a running member still has to do at most: a number that each of its deeds lowers.
use Rattle.std.specs.Prelude.{⊤, ◌≡◌, ℕ, ◌+◌, ◌*◌, ◌-◌, ◌^◌, ◌<◌, List, [], ◌∷◌, Option, None, Some, sum_by}
use Rattle.dr_entry.specs.declared.{end.End.End, entry.Entry.Entry, limits.TheConstants.MAX_MEMBERS}
use Rattle.dr_entry.specs.declared.record.Value.{Value}
use Rattle.dr_history.specs.History.{last_view}
use Rattle.dr_program.specs.{Form.IsOf, Replica.{Replica, greatest}, Turn.places_in, declared.outcome.LogWhy.LogWhy}
use Rattle.dr_program.specs.{Running.{Running, members, columns}, Steps.NoWordFell, declared.place.TheConstants.TURN}
use Rattle.dr_machine.specs.Group.{Group}
use Rattle.dr_rows.specs.Words.{own}
use Rattle.dr_words.specs.declared.column.TheConstants.{LOGGED_COLUMN, DONE_COLUMN}
use Rattle.dr_turn.specs.Search.{left, IsUnderway}

-- ---- what a replica still has to do: tasks, each with a number that its own deeds lower and no deed in
-- its view raises

-- items to take and to put
unfoldable pub items_left : Replica → ℕ
items_left r = sum_by (λ count. greatest r.totals - count) r.counts

-- places to deliver
unfoldable pub places_left : Replica → ℕ
places_left r = 2 ^ 64 - r.next

-- entries to log and then to publish, which takes it back one place of the turn
unfoldable pub log_left : Replica → ℕ
log_left r = 2 * (r.room - r.logged) + 2 * (r.logged - own r.rows LOGGED_COLUMN)

-- entries to report
unfoldable pub reports_left : Replica → ℕ
reports_left r = 2 ^ 64 - r.durable

-- the mark to set
unfoldable pub mark_left : Replica → ℕ
mark_left r = 1 - own r.rows DONE_COLUMN

-- members to suspect or to wish for
unfoldable pub trust_left : Replica → ℕ
trust_left r = 2 ^ MAX_MEMBERS - r.suspects

-- ballots to vote by
unfoldable pub ballots_left : Replica → ℕ
ballots_left r = MAX_MEMBERS + 1 - r.tag

-- the value to commit
abbrev pub open_count : Option Value → ℕ
open_count None = 1
open_count (Some v) = 0

unfoldable pub commit_left : Replica → ℕ
commit_left r = open_count r.committed

-- letters to give
unfoldable pub letters_left : Replica → ℕ
letters_left r = 2 ^ MAX_MEMBERS - r.given

abbrev pub tasks : List (Replica → ℕ)
tasks =
    items_left ∷ places_left ∷ log_left ∷ reports_left ∷ mark_left ∷ trust_left ∷ ballots_left
    ∷ commit_left ∷ letters_left ∷ []

-- some tasks together, and all of them
unfoldable pub sum_of : List (Replica → ℕ) → Replica → ℕ
sum_of [] r = 0
sum_of (task ∷ tasks) r = task r + sum_of tasks r

-- views to end: each ending begins the tasks of a view anew, which are no more than this
unfoldable pub refill : Replica → ℕ
refill r = greatest r.totals * r.roster + 2 ^ 64 + 2 ^ MAX_MEMBERS + 2 ^ MAX_MEMBERS + MAX_MEMBERS + 4

unfoldable pub views_left : Replica → ℕ
views_left r = refill r * (r.banks - r.view)

unfoldable pub work : Replica → ℕ
work r = views_left r + sum_of tasks r

-- ---- what a running member still has to do

-- so many turns, of so many places each, and besides so many places of this turn, and so much work
unfoldable pub deeds_of : ℕ → ℕ → ℕ → ℕ → ℕ
deeds_of turns places here work = turns * (places + 1) + here + work

-- how many appends may still fail: one, unless one has
abbrev pub may_fail : Option LogWhy → ℕ
may_fail None = 1
may_fail (Some why) = 0

-- more deeds than a member still does
abbrev pub left_to : Running → Option End → ℕ
left_to r None =
    deeds_of (r.limit - r.replica.turns) (places_in (members r) (columns r) TURN)
    (left (members r) (columns r) r.place) (work r.replica) + may_fail r.failed
left_to r (Some end) = 0

abbrev pub deeds_left : Running → ℕ
deeds_left r = left_to r r.replica.end

-- a letter that is found leads to a later view than the first
abbrev pub LeadsOn : Option (List Entry) → Type 0
LeadsOn None = ⊤
LeadsOn (Some letter) = 0 < (last_view (0, 0) letter).0

-- no word of the member has fallen, where it is in the same view
abbrev pub HasGrownTo : Running → Running → Type 0
HasGrownTo r x = x.replica.view ≡ r.replica.view → NoWordFell r.replica x.replica

-- it is still the member that it was of a group
abbrev pub IsStill : Running → Running → Type 0
IsStill r x = (g : Group) (m : ℕ) → IsOf g m r.replica → IsOf g m x.replica

-- a deed makes x of r: with fewer deeds left, and no fallen word, it is still that member
pub record IsAfterDeed (r x : Running) : Type 0 where
  pub underway : IsUnderway x
  pub grown : HasGrownTo r x
  pub fewer : deeds_left x < deeds_left r
  pub still : IsStill r x
