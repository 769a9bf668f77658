-- What is laid down behind a View: the messages of the view's places, place by place.
use Rattle.std.specs.List.{range_with_len}
use Rattle.std.specs.Prelude.{◌≡◌, ◌≢◌, ℕ, ◌+◌, ◌<◌, List, [], ◌∷◌, ◌++◌, length, map, take, filter_map, Contains, slice_get, Option, Some, IsSome, option_and_then}
use Rattle.dr_entry.specs.declared.{end.SentItem.{SentItem, TheVariants.Index}, entry.Entry.{Entry, TheVariants.View}}
use Rattle.dr_history.specs.History.{IsPrefixOf, GroupView, Sent, messages_of, messages_in, entry_of, item_at}
use Rattle.dr_history.specs.{Members.members_of, Order.messages_from, declared.opening.Opening.Opening}

-- the entry of a place of a view: none where a null stands, and none where nothing was sent
abbrev pub entry_at : Opening → Sent → GroupView → ℕ → Option Entry
entry_at o sent v p = option_and_then (λ t. entry_of o t.0 t.1) (item_at sent v p)

-- the entries of the places of a view below p, by ascending place
unfoldable pub laid : Opening → Sent → GroupView → ℕ → List Entry
laid o sent v p = filter_map (entry_at o sent v) (range_with_len 0 p)

-- every place of the view below p holds a sent item
abbrev pub HeldBelow : Sent → GroupView → ℕ → Type 0
HeldBelow sent v p = (q : ℕ) → q < p → IsSome (item_at sent v q)

-- a history goes up to and with a View, by which it is in this view
pub record EndsWithView (h : List Entry) (v : GroupView) : Type 0 where
  pub before : List Entry
  pub mask : ℕ
  pub ends : h ≡ before ++ View v.age v.number mask ∷ []
  pub members : members_of mask ≡ v.members

-- the messages that the members of a view have sent in it go on from a history
pub record GoesOn (o : Opening) (sent : Sent) (h : List Entry) (v : GroupView) : Type 0 where
  -- those of each member have the indices that follow the ones in the history, one by one
  pub index : (s k i : ℕ) → Contains v.members s → slice_get (sent s v.number) k ≡ Some (Index i)
      → i ≡ length (messages_from s h) + messages_in (take k (sent s v.number))
  -- and the script has them
  pub scripted : (s k i : ℕ) → Contains v.members s → slice_get (sent s v.number) k ≡ Some (Index i)
      → i < length (messages_of o s)

-- an item that may be the next of s behind what it has sent: a null, or the message that follows
pub record MayBeNext (o : Opening) (sent : Sent) (h : List Entry) (v : GroupView) (s : ℕ)
    (item : SentItem) : Type 0 where
  pub index : (i : ℕ) → item ≡ Index i → i
      ≡ length (messages_from s h) + messages_in (sent s v.number)
  pub scripted : (i : ℕ) → item ≡ Index i → i < length (messages_of o s)

-- of what was sent in a view s has one item more now, and nobody else has
pub record SendsNext (v : GroupView) (s : ℕ) (item : SentItem) (sent now : Sent) : Type 0 where
  pub own : now s v.number ≡ sent s v.number ++ item ∷ []
  pub others : (t : ℕ) → t ≢ s → now t v.number ≡ sent t v.number

-- what the members of a view had sent in it is the front part of what they have sent in it now
abbrev pub SentMoreIn : GroupView → Sent → Sent → Type 0
SentMoreIn v sent now = (s : ℕ) → Contains v.members s → IsPrefixOf (sent s v.number) (now s v.number)

-- and so for every member and every view
abbrev pub SentMore : Sent → Sent → Type 0
SentMore sent now = (s n : ℕ) → IsPrefixOf (sent s n) (now s n)

-- the first view of an age, that of View 0
abbrev pub first_view : Opening → GroupView
first_view o = record { age = o.age; number = 0; members = members_of o.members }

-- the history has as many messages of each member of the view as the script
abbrev pub HoldsAll : Opening → GroupView → List Entry → Type 0
HoldsAll o v h = (s : ℕ) → Contains v.members s → length (messages_from s h)
    ≡ length (messages_of o s)

-- how many items each member of a view has sent in it, by rank
abbrev pub counts_sent : Sent → GroupView → List ℕ
counts_sent sent v = map (λ s. length (sent s v.number)) v.members
