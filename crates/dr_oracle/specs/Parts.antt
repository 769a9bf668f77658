-- The parts of an order, each behind the first entries of a history and so many others.
use Rattle.std.specs.Prelude.{◌≡◌, ℕ, ◌<◌, List, take, slice_get, Some, IsSome, IsSomeAnd}
use Rattle.dr_entry.specs.declared.entry.Entry.{Entry, TheVariants.{View, Msg}}
use Rattle.dr_history.specs.History.{IsPrefixOf, GroupView, Sent, view_of, item_at, place_at}
use Rattle.dr_history.specs.Order.{IsDelivered, IsSucceededBy, messages_from, numbered_messages}
use Rattle.dr_history.specs.declared.opening.Opening.{Opening}

-- that the View at i is one by which the view before it may be succeeded
abbrev pub Follows : Opening → List Entry → ℕ → Type 0
Follows o h i =
    (age number members : ℕ) → slice_get h i ≡ Some (View age number members)
    → IsSomeAnd (view_of (take i h)) (λ v. IsSucceededBy o (take i h) v age number members)

-- each View behind the first `start + 1` entries is one by which the view before it may be succeeded
abbrev pub ViewsFollow : Opening → List Entry → ℕ → Type 0
ViewsFollow o h start =
    (i age number members : ℕ) → start < i → slice_get h i ≡ Some (View age number members)
    → IsSomeAnd (view_of (take i h)) (λ v. IsSucceededBy o (take i h) v age number members)

-- each message behind them was sent in the view in which it was delivered, by a member of it
abbrev pub AllPlaced : Sent → List Entry → ℕ → Type 0
AllPlaced sent h start =
    (i s index : ℕ) (b : List ℕ) → start < i → slice_get h i ≡ Some (Msg s index b)
    → IsSome (place_at sent h i)

-- within a view the places of the messages behind them rise
abbrev pub PlacesRise : Sent → List Entry → ℕ → Type 0
PlacesRise sent h start =
    (i j p q : ℕ) → start < i → i < j → view_of (take i h) ≡ view_of (take j h)
    → place_at sent h i ≡ Some p → place_at sent h j ≡ Some q → p < q

-- each sender's messages are its first ones by the script, in their order
abbrev pub AllNumbered : Opening → List Entry → Type 0
AllNumbered o h = (s : ℕ) → IsPrefixOf (messages_from s h) (numbered_messages o s)

-- below each message that was delivered in the last view, behind the first `start + 1` entries, every place
-- of that view holds an item that was delivered
abbrev pub LastViewWhole : Sent → List Entry → ℕ → Type 0
LastViewWhole sent h start =
    (i p q : ℕ) (v : GroupView) → start < i → view_of (take i h) ≡ Some v → view_of h ≡ Some v
    → place_at sent h i ≡ Some p → q < p → IsSomeAnd (item_at sent v q) (λ t. IsDelivered h t.0 t.1)
