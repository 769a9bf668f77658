-- How an age goes through its views: what every history holds up to a View, and behind it.
use Rattle.std.specs.Prelude.{◌≡◌, ℕ, zero, suc, ◌+◌, ◌*◌, ◌<◌, ◌≤◌, ◌⊎◌, true, List, [], ◌∷◌, ◌++◌, length, map, filter, Contains}
use Rattle.dr_entry.specs.declared.entry.Entry.{Entry, TheVariants.View}
use Rattle.dr_history.specs.{History.{GroupView, Sent, merge}, Places.front_of, declared.opening.Opening.Opening}
use Rattle.dr_history.specs.{Members.{has, members_of}, Order.{AreOfRoster, ContinuesAge, IsNewIn, first_entries}}
use Rattle.dr_history_laws.specs.Laid.{GoesOn, HeldBelow, laid}

-- how a view ends: how many of its first items of each member are delivered in it, and the mask of the next
-- view's members
pub record ViewEnd : Type 0 where
  pub taken : ℕ → ℕ
  pub next : ℕ

-- how each view of an age ends, by its number. Of a view that has not ended it says nothing
abbrev pub ViewEnds : Type 0
ViewEnds = ℕ → ViewEnd

-- the mask of the members of a view: those with which the age opens, and then those that come of the view
-- before
unfoldable pub members_in : Opening → ViewEnds → ℕ → ℕ
members_in o endings zero = o.members
members_in o endings (suc v) = (endings v).next

-- the view with a number
abbrev pub view_in : Opening → ViewEnds → ℕ → GroupView
view_in o endings v = record { age = o.age; number = v; members = members_of (members_in o endings v) }

-- how many items are delivered in a view, by rank
abbrev pub counts_taken : Opening → ViewEnds → ℕ → List ℕ
counts_taken o endings v = map (endings v).taken (view_in o endings v).members

-- the entries up to and with the View with a number
unfoldable pub head_of : Opening → Sent → ViewEnds → ℕ → List Entry
head_of o sent endings zero = first_entries o
head_of o sent endings (suc v) =
    (head_of o sent endings v ++ merge o sent (view_in o endings v) (counts_taken o endings v))
    ++ View o.age (suc v) (endings v).next ∷ []

-- a history that has come to a place of a view
abbrev pub course : Opening → Sent → ViewEnds → ℕ → ℕ → List Entry
course o sent endings v p = head_of o sent endings v ++ laid o sent (view_in o endings v) p

-- a view has ended as it may: the next one goes on in the age, more than half of the view's members are in it, and
-- each other member of it is new; and what is delivered of the view was sent
pub record ViewHasEnded (o : Opening) (sent : Sent) (endings : ViewEnds) (v : ℕ) : Type 0 where
  pub follows : ContinuesAge (view_in o endings v) o.age (v + 1) (endings v).next
  pub roster : AreOfRoster (length o.messages) (endings v).next
  pub majority : length (view_in o endings v).members
      < 2 * length (filter (has (endings v).next) (view_in o endings v).members)
  pub newcomers : (s : ℕ) → has (endings v).next s ≡ true
      → Contains (view_in o endings v).members s ⊎ IsNewIn o (members_in o endings) v s
  pub given : (s : ℕ) → Contains (view_in o endings v).members s → (endings v).taken s ≤ length (sent s v)

-- a history may have come to a view: those before it have ended, and in each of them, and in it, what is sent
-- goes on from the View's head
pub record MayCome (o : Opening) (sent : Sent) (endings : ViewEnds) (v : ℕ) : Type 0 where
  pub ended : (u : ℕ) → u < v → ViewHasEnded o sent endings u
  pub goes : (u : ℕ) → u ≤ v → GoesOn o sent (head_of o sent endings u) (view_in o endings u)

-- and to a place of it: the places below hold items, and where the view has ended, they are delivered in it
pub record MayReach (o : Opening) (sent : Sent) (endings : ViewEnds) (v p : ℕ) : Type 0 where
  pub view : MayCome o sent endings v
  pub held : HeldBelow sent (view_in o endings v) p

-- a place of a view is not cut off, where histories go on to another view
abbrev pub IsUncut : Opening → ViewEnds → ℕ → ℕ → ℕ → Type 0
IsUncut o endings v p u = v < u → p ≤ front_of (counts_taken o endings v)
