-- What an age may start with.
use Rattle.std.specs.Prelude.{◌≡◌, ℕ, ◌-◌, ◌^◌, ◌<◌, ◌⊎◌, true, List, length, take, Contains, slice_get, Option, Some, IsSomeAnd}
use Rattle.dr_entry.specs.declared.entry.Entry.{Entry, TheVariants.{View, Msg}}
use Rattle.dr_history.specs.{History.{GroupView, view_of, messages_of}, Members.has}
use Rattle.dr_history.specs.{Order.{AreOfRoster, ContinuesAge, messages_from}, declared.opening.Opening.Opening}

-- the member is there in this age
abbrev pub IsPresentIn : Opening → ℕ → Type 0
IsPresentIn o m = has o.present m ≡ true

-- the mask of all members of the roster
abbrev pub whole_roster : Opening → ℕ
whole_roster o = 2 ^ length o.messages - 1

-- nobody is late: all that are there are of the first view
abbrev pub IsNobodyLate : Opening → Type 0
IsNobodyLate o = o.members ≡ o.present

-- an age is above that of the last view, if there is one
abbrev pub IsLaterAge : Option GroupView → ℕ → Type 0
IsLaterAge last age = (v : GroupView) → last ≡ Some v → v.age < age

-- a View that opens an age: number 0 of a later age
pub record Opens (last : Option GroupView) (age number : ℕ) : Type 0 where
  pub later : IsLaterAge last age
  pub first : number ≡ 0

-- an entry may stand behind these entries: a View of some members of the roster opens an age or goes on in that
-- of the last view, and a message is the next of its sender, a member of the last view, with the script's
-- bytes
abbrev pub MayStand : Opening → List Entry → Entry → Type 0
MayStand o before (View age number members) =
    AreOfRoster (length o.messages) members
    × (Opens (view_of before) age number
    ⊎ IsSomeAnd (view_of before) (λ v. ContinuesAge v age number members))
MayStand o before (Msg s index bytes) =
    IsSomeAnd (view_of before) (λ v. Contains v.members s)
    × (index ≡ length (messages_from s before))
    × (slice_get (messages_of o s) index ≡ Some bytes)

-- what the logs of earlier ages gave is a sound start of this age
pub record Sound (o : Opening) : Type 0 where
  -- each entry may stand behind those before it
  pub entries : (i : ℕ) (e : Entry) → slice_get o.start i ≡ Some e → MayStand o (take i o.start) e
  -- the age is later than every age of the start
  pub later : IsLaterAge (view_of o.start) o.age
  -- its first view has some of the members that are there, and these are of the roster
  pub members : AreOfRoster (length o.messages) o.members
  pub part : (m : ℕ) → has o.members m ≡ true → IsPresentIn o m
  pub present : (m : ℕ) → IsPresentIn o m → m < length o.messages
