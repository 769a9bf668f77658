-- The rule of a table: its words, with the members of all seats and the letters, are a program that the dealt members
-- have come to.
use Rattle.std.specs.Prelude.{◌≡◌, ◌≤◌, ◌++◌, ℕ, List, length, map, replicate, slice_get, None, Some, sum_by, Option, option_map}
use Rattle.dr_entry.specs.declared.entry.Entry.{Entry}
use Rattle.dr_machine.specs.Group.{Group, IsGroup, roster}
use Rattle.dr_program.specs.{Presence.present_at, Program.{AreSetups, IsRanFrom, begun_program}, Replica.me}
use Rattle.dr_program.specs.{Running.{Running, begun_running}, declared.setup.Setup.Setup}
use Rattle.dr_table.specs.{Slots.{HaveSlots, Slot}, declared.rule.View.View}
use mathlib.Core.Option.{Option as Maybe}

-- the members of a group, those that are there, by number, as its age opens, before their first deeds
pub record IsDealt (members : List (Option Running)) : Type 0 where
  pub group : Group
  pub turns : ℕ
  pub setups : List (Option Setup)
  pub is : IsGroup group
  pub some : 1 ≤ turns
  pub are : AreSetups group turns setups
  pub begun : members ≡ map (option_map begun_running) setups

-- the number of a member
abbrev pub number : Running → ℕ
number r = me r.replica

-- the hands of the seats
abbrev pub hands : List View → List (List (Option Running))
hands views = map (λ (v : View). v.members) views

-- member r stands at this place of the list of this seat
abbrev pub Found : List (List (Option Running)) → ℕ → ℕ → Running → Type 0
Found views seat at r = (v : List (Option Running)) × (slice_get views seat ≡ Some v) × (present_at v at ≡ Some r)

-- each member of the program stands at one place, in the list of one seat
pub record Stands (views : List (List (Option Running))) (members : List (Option Running)) : Type 0 where
  pub each : (seat at : ℕ) (r : Running) → Found views seat at r → present_at members (number r) ≡ Some r
  pub once : (s a t b : ℕ) (r q : Running) → Found views s a r → Found views t b q → number r ≡ number q
      → (s ≡ t) × (a ≡ b)
  pub all : (k : ℕ) (q : Running) → present_at members k ≡ Some q
      → (seat at : ℕ) × (r : Running) × Found views seat at r × (number r ≡ k)

-- the letters as an age opens: none for any of the dealt members
abbrev pub no_posts : List (Option Running) → List (Option (List Entry))
no_posts dealt = replicate (length dealt) None

-- there is such a program: its table is the first of these words, behind which stands one for each member of the
-- roster; its members are those of the seats, which have as many places as were dealt; its letters are those of which
-- the slots and their words tell; and it has come from the dealt members by some deeds
pub record HasSuchProgram (dealt : List (Option Running)) (words : List ℕ) (homes : List (Maybe Slot))
    (views : List View) : Type 0 where
  pub opening : IsDealt dealt
  pub members : List (Option Running)
  pub table : List ℕ
  pub letters : List (Option (List Entry))
  pub flags : List ℕ
  pub most : ℕ
  pub ran : IsRanFrom (begun_program opening.group opening.setups)
      (record { members = members; table = table; letters = letters })
  pub laid : words ≡ table ++ flags
  pub all : length flags ≡ roster opening.group
  pub stands : Stands (hands views) members
  pub places : sum_by length (hands views) ≡ length dealt
  pub slots : HaveSlots opening.group members letters most flags homes views
