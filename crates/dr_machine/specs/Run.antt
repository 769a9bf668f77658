-- Runs: what comes of a list of events, and of events and words that arrive late.
use Rattle.std.specs.Prelude.{◌≡◌, ◌⊎◌, ℕ, ◌+◌, ◌<◌, ◌≤◌, All, Contains, List, [], ◌∷◌}
use Rattle.dr_words.specs.{Grown.HasGrown, Packing.ring_tag, declared.column.TheConstants.PIECES}
use Rattle.dr_history.specs.{Agreement.{Accounts, Agreed}, History.IsPrefixOf}
use Rattle.dr_ring.specs.Slots.{slot_column}
use Rattle.dr_machine.specs.{Acts.{Guard, effect}, Group.{Group, roster}, Guards.{IsInView, IsOther}}
use Rattle.dr_machine.specs.{World.{Past, Table, World, opening_world, items_received}, declared.event.Event.Event}

-- what happens at an event: its effect where it may come, and else nothing
abbrev pub Happens : Group → World → Event → World → Type 0
Happens g w e after = (Guard g w e × (after ≡ effect g w e)) ⊎ ((¬ Guard g w e) × (after ≡ w))

-- the world after these events, one after the other
abbrev pub Run : Group → World → List Event → World → Type 0
Run g w [] after = after ≡ w
Run g w (e ∷ es) after = (mid : World) × Happens g w e mid × Run g mid es after

-- the world comes of some events from the opening on, and of nothing else
abbrev pub ComesOfEvents : Group → World → Type 0
ComesOfEvents g w = (es : List Event) × Run g (opening_world g) es w

-- at one of these moments member i was in this view, and this was its own word of the column
abbrev pub WasOwn : List World → ℕ → ℕ → ℕ → ℕ → Type 0
WasOwn moments v i c word =
    (u : World) × Contains moments u × (u.past.view i ≡ v) × (u.past.own i v c ≡ word)

-- a word that may come to the row of member i in a copy: one that was i's own, in the view of that bank, at one
-- of these moments, or that of another copy (so it is with the beat that i stamps in the bank that it leaves)
abbrev pub MayArrive : List World → World → ℕ → ℕ → ℕ → ℕ → Type 0
MayArrive moments w v i c word = WasOwn moments v i c word ⊎ ((k : ℕ) × (w.table v k i c ≡ word))

-- a table to which words have come, however long they were on their way. One that is a smaller number than
-- the word that stands there is dropped; any may be lost, come more than once, or be overtaken by others
pub record HaveArrived (moments : List World) (w : World) (table : Table) : Type 0 where
  pub source : (v j i c : ℕ) → MayArrive moments w v i c (table v j i c)
  pub rises : (v j i c : ℕ) → w.table v j i c ≤ table v j i c

-- the world with this table
abbrev pub with_table : World → Table → World
with_table w table = record w { table = table }

-- a world that comes next of w, behind the worlds before: what an event makes of w, or w with the table to
-- which words have come
abbrev pub ComesNext : Group → List World → World → World → Type 0
ComesNext g before w after =
    ((e : Event) × Guard g w e × (after ≡ effect g w e))
    ⊎ ((table : Table) × HaveArrived (w ∷ before) w table × (after ≡ with_table w table))

-- the way from the opening to a world: the worlds before it, the last one first
abbrev pub Way : Group → List World → World → Type 0
Way g [] w = w ≡ opening_world g
Way g (u ∷ us) w = Way g us u × ComesNext g us u w

-- the world is reached: it comes of some events, and of words that arrive, from the opening on
abbrev pub IsReached : Group → World → Type 0
IsReached g w = (us : List World) × Way g us w

-- the same, where this holds of each world on the way
abbrev pub IsReachedWhere : Group → (World → Type 0) → World → Type 0
IsReachedWhere g P w = (us : List World) × Way g us w × All P us

-- what each member has done
abbrev pub accounts_in : World → Accounts
accounts_in w m = record {
  sent = w.past.sent m;
  history = w.past.history m;
  log = w.past.log m;
  durable = w.past.durable m;
}

-- the members agree
abbrev pub WorldAgreed : Group → World → Type 0
WorldAgreed g w = Agreed g.opening (accounts_in w)

-- no later item stands in the slot of the item of s that m waits for, neither in m's copy nor in what it
-- has seen
abbrev pub NoLaterItem : Group → World → Type 0
NoLaterItem g w = (m s part : ℕ) → IsInView w m → IsOther w m s → part < PIECES
    → (let column = slot_column (roster g) g.window (items_received w m s) + part in
    (ring_tag (w.table (w.past.view m) m s column) ≤ items_received w m s + 1)
    × (ring_tag (w.seen m s column) ≤ items_received w m s + 1))

-- what only grows has grown, or is as before
pub record PastGrew (old new : Past) : Type 0 where
  pub view : (m : ℕ) → old.view m ≤ new.view m
  pub count : (m v s : ℕ) → old.count m v s ≤ new.count m v s
  pub sent : (m v : ℕ) → IsPrefixOf (old.sent m v) (new.sent m v)
  pub history : (m : ℕ) → IsPrefixOf (old.history m) (new.history m)
  pub log : (m : ℕ) → IsPrefixOf (old.log m) (new.log m)
  pub votes : (m : ℕ) → IsPrefixOf (old.votes m) (new.votes m)
  pub durable : (m : ℕ) → old.durable m ≤ new.durable m
  pub acts : (m : ℕ) → old.acts m ≤ new.acts m

-- each word is as before or has grown, in the sense of its column, while its member stays in its view
pub record WordsGrew (g : Group) (old new : World) : Type 0 where
  pub own : (m v c : ℕ) → HasGrown (roster g) c (old.past.own m v c) (new.past.own m v c)
  pub table : (v j i c : ℕ) → HasGrown (roster g) c (old.table v j i c) (new.table v j i c)
  pub seen : (m i c : ℕ) → new.past.view m ≡ old.past.view m
      → HasGrown (roster g) c (old.seen m i c) (new.seen m i c)
