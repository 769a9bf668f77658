-- Histories: the entries that a member has delivered, from the first age on.
use Rattle.std.specs.Prelude.{◌≡◌, ℕ, ◌/◌, ◌%◌, ◌==◌, Bool, true, false, List, [], ◌∷◌, ◌++◌, length, filter, filter_map, take, slice_get, slice_index_or, position, Option, None, Some, option_map, if◌then◌else◌, option_and_then}
use Rattle.dr_entry.specs.declared.end.{MemberEnd.MemberEnd, SentItem.{SentItem, TheVariants.{Null, Index}}}
use Rattle.dr_entry.specs.declared.{end.ViewSent.ViewSent, entry.Entry.{Entry, TheVariants.{View, Msg}}}
use Rattle.dr_history.specs.{Members.members_of, Places.{place_of, held_places}, declared.opening.Opening.Opening}

-- the first list is the front part of the second, or all of it
abbrev pub IsPrefixOf : {A : Type 0} → List A → List A → Type 0
IsPrefixOf {A} xs ys = (rest : List A) × (xs ++ rest ≡ ys)

-- a view of the group: its age, its number within the age, and its members, ascending
pub record GroupView : Type 0 where
  pub age : ℕ
  pub number : ℕ
  pub members : List ℕ

-- the view in force after the entries, where `v` was in force before them
unfoldable pub view_after : Option GroupView → List Entry → Option GroupView
view_after v [] = v
view_after v (View a n m ∷ es) =
    view_after (Some (record { age = a; number = n; members = members_of m })) es
view_after v (Msg s i b ∷ es) = view_after v es

-- the view that a history is in: that of its last View
abbrev pub view_of : List Entry → Option GroupView
view_of h = view_after None h

-- an entry before others, where there are some
abbrev pub before_some : Entry → List Entry → List Entry
before_some e [] = []
before_some e (x ∷ xs) = e ∷ x ∷ xs

-- the entries up to and with the last View among them
unfoldable pub up_to_view : List Entry → List Entry
up_to_view [] = []
up_to_view (View a n m ∷ es) = View a n m ∷ up_to_view es
up_to_view (Msg s i b ∷ es) = before_some (Msg s i b) (up_to_view es)

-- the number and the mask of the last View among the entries, and what is given where there is none
unfoldable pub last_view : ℕ × ℕ → List Entry → ℕ × ℕ
last_view v [] = v
last_view v (View a n m ∷ es) = last_view (n, m) es
last_view v (Msg s i b ∷ es) = last_view v es

-- what each member put in each view of the age, by its number and the view's
abbrev pub Sent : Type 0
Sent = ℕ → ℕ → List SentItem

-- the items listed for the view of this number
abbrev pub items_in : ℕ → List ViewSent → List SentItem
items_in v [] = []
items_in v (w ∷ ws) = if w.number == v then w.items else items_in v ws

-- what the members of an age that has ended had sent
abbrev pub sent_of : List MemberEnd → Sent
sent_of ends s v = items_in v (unwrap_items (slice_get ends s))
  where
    unwrap_items : Option MemberEnd → List ViewSent
    unwrap_items None = []
    unwrap_items (Some e) = e.sent

-- the messages that the script gives a member
abbrev pub messages_of : Opening → ℕ → List (List ℕ)
messages_of o s = slice_index_or o.messages s []

-- the entry of a message of a member: none for a null, and none where the script has no such message
abbrev pub entry_of : Opening → ℕ → SentItem → Option Entry
entry_of o s Null = None
entry_of o s (Index i) = option_map (λ b. Msg s i b) (slice_get (messages_of o s) i)

-- how many of the items are messages
abbrev pub messages_in : List SentItem → ℕ
messages_in items = length (filter is_message items)
  where
    is_message : SentItem → Bool
    is_message Null = false
    is_message (Index i) = true

-- the member and the item at a place of a view, where an item was sent there
abbrev pub item_at : Sent → GroupView → ℕ → Option (ℕ × SentItem)
item_at sent v p =
    option_and_then
    (λ s. option_map (λ item. (s, item)) (slice_get (sent s v.number) (p / length v.members)))
    (slice_get v.members (p % length v.members))

-- the merge of what was sent in a view, up to these counts by rank: the messages by ascending place
abbrev pub merge : Opening → Sent → GroupView → List ℕ → List Entry
merge o sent v counts =
    filter_map (λ p. option_and_then (λ t. entry_of o t.0 t.1) (item_at sent v p)) (held_places counts)

-- the place that the sender's message with this index has in a view, where it was sent there
abbrev pub place_in : Sent → GroupView → ℕ → ℕ → Option ℕ
place_in sent v s index =
    option_and_then
    (λ rank. option_map (place_of (length v.members) rank) (position (is_index index) (sent s v.number)))
    (position (λ m. m == s) v.members)
  where
    is_index : ℕ → SentItem → Bool
    is_index i Null = false
    is_index i (Index j) = j == i

-- the place of an entry that is delivered in a view: that of its message, and none for a View
abbrev pub place_of_entry : Sent → Option GroupView → Entry → Option ℕ
place_of_entry sent None e = None
place_of_entry sent (Some v) (View a n m) = None
place_of_entry sent (Some v) (Msg s i b) = place_in sent v s i

-- the place of entry i of a history, in the view in which it was delivered
abbrev pub place_at : Sent → List Entry → ℕ → Option ℕ
place_at sent h i = option_and_then (place_of_entry sent (view_of (take i h))) (slice_get h i)
