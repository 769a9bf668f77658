-- The slots of a table, in which late members get their letters, and the words that go with them.
use Rattle.std.specs.Prelude.{◌≡◌, ◌⊎◌, ◌<◌, ◌≤◌, ℕ, true, false, List, [], ◌∷◌, length, slice_get, slice_index, Option, None, Some, Vec, vec_capacity}
use Rattle.std.specs.declared.alloc.Global.{Global}
use Rattle.dr_entry.specs.declared.entry.Entry.{Entry}
use Rattle.dr_history.specs.Members.{has, members_below}
use Rattle.dr_machine.specs.Group.{Group, late_members}
use Rattle.dr_program.specs.declared.deed.Deed.TheVariants as deeds
use Rattle.dr_program.specs.{Presence.present_at, Reading.letters_of, Replica.me, Running.{Running, next_deed}}
use Rattle.dr_table.specs.declared.rule.{Errand.Errand, View.View}
use mathlib.Core.Option.{Option as Maybe, some, none}
use lib.ListN.{get_elem?}

-- what a slot has at home: a list for a letter, or nothing
abbrev pub Slot : Type 0
Slot = Option (Vec Entry Global)

-- the number of a late member's slot: how many late members there are below it
abbrev pub slot_number : ℕ → ℕ → ℕ
slot_number late j = length (members_below late j)

-- a list into which nothing is written yet, and which has this room
pub record IsBlankList (room : ℕ) (list : Vec Entry Global) : Type 0 where
  pub empty : list.items ≡ []
  pub fits : room ≤ vec_capacity list

-- a slot with such a list
abbrev pub IsBlankSlot : ℕ → Slot → Type 0
IsBlankSlot room None = ⊥
IsBlankSlot room (Some list) = IsBlankList room list

-- a late member whose word is this number has its slot so, at home or out with a seat, and this letter, or none
pub record IsPosted (room word : ℕ) (home : Maybe (Maybe Slot)) (letter : Option (List Entry)) : Type 0 where
  -- there is a letter exactly where the word is 2 or more
  pub yet : word < 2 → letter ≡ None
  pub there : 2 ≤ word → (list : List Entry) × (letter ≡ Some list)
  -- the slot is at home with a blank list, with the letter, and empty; and else it is out
  pub blank : word ≡ 0 → (list : Vec Entry Global) × (home ≡ some (some (Some list))) × IsBlankList room list
  pub full : word ≡ 2 → (list : Vec Entry Global) × (home ≡ some (some (Some list))) × (letter ≡ Some list.items)
  pub empty : word ≡ 4 → home ≡ some (some None)
  pub away : (word ≡ 1) ⊎ (word ≡ 3) → home ≡ some none
  pub last : word ≤ 4

-- the member is due to give the letter that a seat is about, or to take it, as its own
pub record IsDueFor (r : Running) (e : Errand) : Type 0 where
  pub gives : e.word ≡ 1 → next_deed r ≡ deeds.Give e.late
  pub takes : 2 ≤ e.word → (next_deed r ≡ deeds.Take) × (me r.replica ≡ e.late)

-- a seat with these members, which are one, is about such a letter, where the late members have these letters and
-- words
pub record IsAbout (letters : List (Option (List Entry))) (flags : List ℕ) (members : List (Option Running))
    (e : Errand) : Type 0 where
  pub word : slice_index flags e.late ≡ e.word
  pub begun : 1 ≤ e.word
  pub member : (r : Running) × (members ≡ Some r ∷ []) × IsDueFor r e
  pub letter : e.word ≡ 3 → letters_of letters e.late ≡ Some e.letter

-- some seat is about the letter of this member
abbrev pub IsSeenTo : List View → ℕ → Type 0
IsSeenTo views j = (seat : ℕ) × (v : View) × (e : Errand)
    × (slice_get views seat ≡ Some v) × (v.errand ≡ Some e) × (e.late ≡ j)

-- of a program of the group with these members and letters, the words, the slots and the seats stand so: each slot had
-- a list with this room
pub record HaveSlots (g : Group) (members : List (Option Running)) (letters : List (Option (List Entry)))
    (most : ℕ) (flags : List ℕ) (homes : List (Maybe Slot)) (views : List View) : Type 0 where
  -- the word of a late member tells of its slot and its letter; that of any other stays 0
  pub late : (j : ℕ) → has (late_members g) j ≡ true → IsPosted most (slice_index flags j)
      (get_elem? homes (slot_number (late_members g) j)) (letters_of letters j)
  pub others : (j : ℕ) → has (late_members g) j ≡ false → slice_index flags j ≡ 0
  -- a slot that is out is so with a seat that is about it
  pub abouts : (seat : ℕ) (v : View) (e : Errand) → slice_get views seat ≡ Some v → v.errand ≡ Some e
      → IsAbout letters flags v.members e
  pub out : (j : ℕ) → (slice_index flags j ≡ 1) ⊎ (slice_index flags j ≡ 3) → IsSeenTo views j
  -- who has taken its letter is in a later view than the first
  pub joined : (j : ℕ) (r : Running) → slice_index flags j ≡ 4 → present_at members j ≡ Some r
      → 0 < r.replica.view
  -- each list had room for any of their histories
  pub room : (m : ℕ) (r : Running) → present_at members m ≡ Some r → r.replica.room ≤ most
