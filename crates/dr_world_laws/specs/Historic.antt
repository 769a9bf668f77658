-- What the histories of a group are made of.
use Rattle.std.specs.Prelude.{◌≡◌, ℕ, ◌+◌, ◌<◌, ◌≤◌, ◌^◌, List, ◌++◌, All, Some, length, slice_get, slice_index, true}
use Rattle.dr_entry.specs.declared.entry.Entry.{Entry, TheVariants.{View, Msg}}
use Rattle.dr_history.specs.{History.{GroupView, merge, messages_of}, Members.{has, members_of}}
use Rattle.dr_history.specs.Order.{first_entries, messages_from}
use Rattle.dr_history_laws.specs.{Courses.{ViewHasEnded, course, head_of, view_in}, Laid.{GoesOn, counts_sent}}
use Rattle.dr_words.specs.{Columns.recv_column, Packing.is_final}
use Rattle.dr_machine.specs.{Group.{Group, roster}, World.World}
use Rattle.dr_faithful.specs.{Chosen.{Values, endings_by, views_by}, Tells.Views}

-- the view with a number, of which V gives the members
abbrev pub view_numbered : Group → Views → ℕ → GroupView
view_numbered g V v = record { age = g.opening.age; number = v; members = members_of (V v) }

-- the entries up to and with the View of a number
abbrev pub head_by : Group → Values → World → ℕ → List Entry
head_by g values w v = head_of g.opening w.past.sent (endings_by g.opening values) v

-- histories are laid out by views and places
pub record Historic (g : Group) (values : Values) (w : World) : Type 0 where
  -- each member's history goes up to the View that it is in, and behind it lie the messages of the places
  -- below its next one
  pub history : (m : ℕ) → m < roster g → w.past.history m
      ≡ course g.opening w.past.sent (endings_by g.opening values) (w.past.view m) (w.next m)
  -- the messages that are sent in a view that somebody has come to go on from its head
  pub goes : (m v : ℕ) → m < roster g → v ≤ w.past.view m
      → GoesOn g.opening w.past.sent (head_by g values w v) (view_numbered g (views_by g values) v)
  -- and each member sends on from the messages that the head of its view has
  pub based : (m : ℕ) → m < roster g → w.base m
      ≡ length (messages_from m (head_by g values w (w.past.view m)))

-- a view that somebody has left ended as it may, and with a safe value
pub record HasEndedSafely (g : Group) (values : Values) (w : World) (v : ℕ) : Type 0 where
  pub ended : ViewHasEnded g.opening w.past.sent (endings_by g.opening values) v
  -- of each member no less is taken than some member has received for good
  pub least : (s : ℕ) → has (views_by g values v) s ≡ true
      → (j : ℕ) × (has (views_by g values v) j ≡ true)
      × (is_final (w.past.own j v (recv_column s)) ≡ true)
      × (w.past.count j v s ≤ slice_index (values v).trim s)
  -- and no more than each that remains has received
  pub covered : (i s : ℕ) → has (views_by g values v) i ≡ true → has (views_by g values (v + 1)) i ≡ true
      → has (views_by g values v) s ≡ true
      → slice_index (values v).trim s ≤ w.past.count i v s

-- the histories of a world are laid out by the values of its views, and each view that was left ended well
pub record AreLaid (g : Group) (values : Values) (w : World) : Type 0 where
  pub historic : Historic g values w
  pub left : (m v : ℕ) → m < roster g → v < w.past.view m → HasEndedSafely g values w v

-- the history of a member is the head of its view, and behind it the merge of all that was sent in the view
pub record IsMerged (g : Group) (values : Values) (w : World) (m : ℕ) : Type 0 where
  pub laid : AreLaid g values w
  pub history : let v = view_in g.opening (endings_by g.opening values) (w.past.view m) in
      w.past.history m ≡ head_by g values w (w.past.view m)
      ++ merge g.opening w.past.sent v (counts_sent w.past.sent v)

-- an entry is a View of the age with a number above 0, or one of the messages that the script gives to its
-- sender, a member of the roster
abbrev pub IsOfAge : Group → Entry → Type 0
IsOfAge g (View age number members) =
    (age ≡ g.opening.age) × (0 < number) × (0 < members) × (members < 2 ^ 16)
IsOfAge g (Msg sender index bytes) =
    (sender < roster g) × (slice_get (messages_of g.opening sender) index ≡ Some bytes)

-- behind its first entries a history holds such Views and messages, and nothing else
abbrev pub HoldsMessages : Group → List Entry → Type 0
HoldsMessages g history =
    (more : List Entry) × (history ≡ first_entries g.opening ++ more) × All (IsOfAge g) more
