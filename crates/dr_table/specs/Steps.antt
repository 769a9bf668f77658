-- What steps make of the members of a seat, and what they tell.
use Rattle.std.specs.Prelude.{◌≡◌, ◌≢◌, ◌⊎◌, ◌+◌, ◌<◌, ℕ, true, List, [], ◌∷◌, None, Some, Option, Vec}
use Rattle.std.specs.declared.alloc.Global.{Global}
use Rattle.atomic_table.specs.Table.{Me}
use Rattle.dr_play.specs.Sound.{IsSound}
use Rattle.dr_entry.specs.declared.entry.Entry.{Entry}
use Rattle.dr_machine.specs.{Group.Group, World.no_value}
use Rattle.dr_member.specs.Deeds.{is_append, table_size}
use Rattle.dr_program.specs.{Presence.present_at, Running.{Running, after_step, next_deed, settled, took_letter}}
use Rattle.dr_program.specs.{Program.{Program, appended_as, letter_for, next_sight}, declared.outcome.Outcome.Outcome}
use Rattle.dr_table.specs.{Rule.number, Slots.{IsBlankList, Slot, slot_number}, declared.rule.Errand.Errand}
use Rattle.dr_table.specs.declared.rule.View.{View}

-- a seat with these members that is about no letter and holds no slot
abbrev pub idle : List (Option Running) → Me Slot View
idle members = (record { members = members; errand = None }, [])

-- such a seat with this member alone
abbrev pub alone : Running → Me Slot View
alone r = idle (Some r ∷ [])

-- a seat with this member alone that is about this letter and holds these slots
abbrev pub busy : Running → Errand → List (ℕ × Slot) → Me Slot View
busy r e slots = (record { members = Some r ∷ []; errand = Some e }, slots)

-- the seat holds the slot of the late member whose letter it is about, with this in it, and nothing else
abbrev pub holds_slot : Running → Errand → Slot → List (ℕ × Slot)
holds_slot r e slot = (slot_number r.replica.late e.late, slot) ∷ []

-- as r knows, the late member whose letter a seat is about has its word here, among so many, and this slot
pub record IsLetterAt (words : ℕ) (e : Errand) (r : Running) (index slot : ℕ) : Type 0 where
  pub word : index ≡ table_size r + e.late
  pub within : index < words
  pub home : slot ≡ slot_number r.replica.late e.late

-- r is a member of this sound program of the group
pub record IsOfProgram (g : Group) (p : Program) (r : Running) : Type 0 where
  pub sound : IsSound g p
  pub there : present_at p.members (number r) ≡ Some r

-- r is a member of some such program
abbrev pub IsReachedMember : Running → Type 0
IsReachedMember r = (g : Group) × (p : Program) × IsOfProgram g p r

-- and over the table of that program, its next step sees this word
abbrev pub MayFind : Running → ℕ → Type 0
MayFind r word = (g : Group) × (p : Program) × IsOfProgram g p r × (next_sight p.table r ≡ word)

-- and in that program this letter is there for it, or none
abbrev pub MayTake : Running → Option (List Entry) → Type 0
MayTake r letter = (g : Group) × (p : Program) × IsOfProgram g p r × (letter_for p (number r) ≡ letter)

-- the member, now r, has looked at this word
abbrev pub Looked : Running → ℕ → Me Slot View → Type 0
Looked r word after = (after ≡ alone (after_step word r)) × MayFind r word

-- it has stored the word of its deed
abbrev pub Stored : Running → Me Slot View → Type 0
Stored r after = after ≡ alone (after_step 0 r)

-- the member, now r, which is to give a letter has taken the slot, with a list into which its history fits
abbrev pub Opened : Errand → Running → Me Slot View → Type 0
Opened e r after = (list : Vec Entry Global) × IsBlankList r.replica.room list
    × (after ≡ busy r e (holds_slot r e (Some list)))

-- the member, now r, which is to take its letter saw that it is there; or that it isn't, which was its take
abbrev pub Peeked : Errand → Running → ℕ → Me Slot View → Type 0
Peeked e r word after = ((word ≡ 2) × (after ≡ busy r e []))
    ⊎ ((word ≢ 2) × MayTake r None × (after ≡ alone (settled (took_letter None r))))

-- it has taken its slot, with its letter
abbrev pub Fetched : Errand → Running → Me Slot View → Type 0
Fetched e r after = (list : Vec Entry Global) × MayTake r (Some list.items)
    × (after ≡ busy r (record e { word = 3; letter = list.items }) (holds_slot r e (Some list)))

-- it has its letter, and nothing is in the slot that it holds
abbrev pub HasFetched : Errand → Running → Me Slot View → Type 0
HasFetched e r me = (letter : List Entry)
    × (me ≡ busy r (record e { word = 3; letter = letter }) (holds_slot r e None))

-- it has put the slot back, and taken the letter that it has
abbrev pub Returned : Running → Me Slot View → Me Slot View → Type 0
Returned r me after = (f : Errand) → me.0.errand ≡ Some f → after ≡ alone (settled (took_letter (Some f.letter) r))

-- q is r after these appends
abbrev pub HasAppended : List Outcome → Running → Running → Type 0
HasAppended [] r q = r ≡ q
HasAppended (o ∷ os) r q = (is_append (next_deed r) ≡ true) × HasAppended os (appended_as o r) q

-- q is r after appends that no step has counted yet
abbrev pub IsAhead : Running → Running → Type 0
IsAhead r q = (os : List Outcome) × HasAppended os r q

-- an errand for seats that are about nothing
abbrev pub no_errand : Errand
no_errand = record { late = 0; word = 0; letter = [] }

-- a member for places at which nobody stands
abbrev pub nobody : Running
nobody = record {
  replica = record {
    age = 0;
    roster = 0;
    window = 0;
    banks = 0;
    messages = [];
    totals = [];
    late = 0;
    rows = record { members = 0; columns = 0; me = 0; words = []; sent = []; frozen = [] };
    view = 0;
    members = 0;
    suspects = 0;
    came_from = 0;
    given = 0;
    tag = 0;
    value = no_value;
    committed = None;
    pending = None;
    votes = [];
    counts = [];
    items = [];
    base = 0;
    sent = [];
    left = [];
    next = 0;
    history = [];
    room = 0;
    logged = 0;
    durable = 0;
    turns = 0;
    acts = 0;
    end = None;
  };
  place = record { part = 0; row = 0; column = 0 };
  limit = 0;
  waits = record { limit = 0; counts = []; beats = [] };
  crashes = [];
  suspicions = [];
  pushes = 0;
  failed = None;
}
