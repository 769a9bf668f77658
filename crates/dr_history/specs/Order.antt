-- What it is for a history to be in order.
use Rattle.std.specs.List.{enumerate_from}
use Rattle.std.specs.Prelude.{◌≡◌, ◌≢◌, ⊤, ℕ, ◌+◌, ◌*◌, ◌^◌, ◌<◌, ◌≤◌, ◌==◌, ◌⊎◌, Bool, true, false, List, [], ◌∷◌, ◌++◌, length, map, filter, take, Contains, slice_get, Some, IsSome, IsSomeAnd}
use Rattle.dr_entry.specs.declared.{end.SentItem.{SentItem, TheVariants.{Null, Index}}, entry.Entry.Entry}
use Rattle.dr_entry.specs.declared.entry.Entry.TheVariants.{View, Msg}
use Rattle.dr_history.specs.History.{IsPrefixOf, GroupView, view_of, Sent, messages_of, item_at, place_at}
use Rattle.dr_history.specs.{Members.{has, members_of}, declared.opening.Opening.Opening}

-- what every history of the age begins with: the start, and View 0 of the members with which the age opens
abbrev pub first_entries : Opening → List Entry
first_entries o = o.start ++ View o.age 0 o.members ∷ []

-- a mask of some members of a roster of so many
pub record AreOfRoster (n members : ℕ) : Type 0 where
  pub some : 0 < members
  pub within : (m : ℕ) → has members m ≡ true → m < n

-- the member is late in this age: it is there, and is none of the members with which the age opens
abbrev pub IsLateIn : Opening → ℕ → Type 0
IsLateIn o s = (has o.present s ≡ true) × (has o.members s ≡ false)

-- the member is in no View of this age among the entries
abbrev pub IsInNoView : ℕ → List Entry → ℕ → Type 0
IsInNoView age es s = (number members : ℕ) → Contains es (View age number members) → has members s ≡ false

-- the member may be taken into the next view behind these entries
abbrev pub MayJoin : Opening → List Entry → ℕ → Type 0
MayJoin o es s = IsLateIn o s × IsInNoView o.age es s

-- the member is late, and in no view up to this one, where these are the masks of the views
pub record IsNewIn (o : Opening) (views : ℕ → ℕ) (v s : ℕ) : Type 0 where
  pub late : IsLateIn o s
  pub absent : (u : ℕ) → u ≤ v → has (views u) s ≡ false

-- a View that goes on in the age of the last view: with the next number, and other members
pub record ContinuesAge (v : GroupView) (age number members : ℕ) : Type 0 where
  pub same_age : age ≡ v.age
  pub next_number : number ≡ v.number + 1
  pub other : members_of members ≢ v.members
  pub numbers : (number < 2 ^ 8) × (members < 2 ^ 16)

-- a View by which the view of these entries may be succeeded: it goes on in the age, more than half of the
-- view's members stay, and each other member of the View is late and in no earlier one
pub record IsSucceededBy (o : Opening) (es : List Entry) (v : GroupView) (age number members : ℕ) : Type 0 where
  pub follows : ContinuesAge v age number members
  pub roster : AreOfRoster (length o.messages) members
  pub majority : length v.members < 2 * length (filter (has members) v.members)
  pub newcomers : (s : ℕ) → has members s ≡ true → Contains v.members s ⊎ MayJoin o es s

-- the messages of a sender among the entries
abbrev pub messages_from : ℕ → List Entry → List Entry
messages_from s es = filter is_from es
  where
    is_from : Entry → Bool
    is_from (View a n m) = false
    is_from (Msg sender i b) = sender == s

-- the script's messages of a sender as entries, numbered from 0
abbrev pub numbered_messages : Opening → ℕ → List Entry
numbered_messages o s = map (λ t. Msg s t.0 t.1) (enumerate_from 0 (messages_of o s))

-- a sent item was delivered: a null leaves no entry, a message has its entry in the history
abbrev pub IsDelivered : List Entry → ℕ → SentItem → Type 0
IsDelivered h s Null = ⊤
IsDelivered h s (Index i) = (b : List ℕ) × Contains h (Msg s i b)

-- a history is in order
pub record InOrder (o : Opening) (sent : Sent) (h : List Entry) : Type 0 where
  -- it begins with the start, followed by View 0
  pub begins : IsPrefixOf (first_entries o) h
  -- each later View is one by which the view before it may be succeeded
  pub views : (i age number members : ℕ) → length o.start < i → slice_get h i
      ≡ Some (View age number members)
      → IsSomeAnd (view_of (take i h)) (λ v. IsSucceededBy o (take i h) v age number members)
  -- each message after the start was sent in the view in which it was delivered, by a member of it
  pub placed : (i s index : ℕ) (b : List ℕ) → length o.start < i → slice_get h i
      ≡ Some (Msg s index b)
      → IsSome (place_at sent h i)
  -- within a view the places of the messages rise
  pub rising : (i j p q : ℕ) → length o.start < i → i < j → view_of (take i h) ≡ view_of (take j h)
      → place_at sent h i ≡ Some p → place_at sent h j ≡ Some q → p < q
  -- each sender's messages are its first ones by the script, in their order: with the indices 0, 1, 2, and
  -- so on
  pub numbered : (s : ℕ) → IsPrefixOf (messages_from s h) (numbered_messages o s)
  -- below a message delivered in the last view, every place of that view holds an item that was delivered
  pub whole : (i p q : ℕ) (v : GroupView) → length o.start < i → view_of (take i h) ≡ Some v
      → view_of h ≡ Some v
      → place_at sent h i ≡ Some p → q < p
      → IsSomeAnd (item_at sent v q) (λ t. IsDelivered h t.0 t.1)
