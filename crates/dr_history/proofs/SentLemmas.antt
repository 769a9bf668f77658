-- The place of a message in a view, by its sender's rank and its number among the sender's items.
use Rattle.std.specs.List.{position}
use Rattle.std.proofs.Common.{◌≡◌, ◌≢◌, ℕ, ◌<◌, ◌==◌, Bool, length, take, All, slice_get, None, Some, option_map, option_and_then, refl, ap, arith}
use Rattle.std.proofs.lemmas.{List.{get_or-take, length-take-le}, Option.{slice_get_within, get_or_from_slice_get}}
use mathlib.Core.Path.{fun_ext}
use Rattle.dr_entry.specs.declared.end.SentItem.{SentItem, TheVariants.{Null, Index}}
use Rattle.dr_entry.proofs.Ends.{is_message, is_message-other, is_message-same}
use Rattle.dr_entry.proofs.ListPlaces.{position_found, position_none}
use Rattle.dr_history.specs.{History.{GroupView, Sent, place_in}, Places.place_of}

place_in_is : (sent : Sent) (v : GroupView) (s index : ℕ) → place_in sent v s index ≡ option_and_then
    (λ rank. option_map (place_of (length v.members) rank)
    (position (is_message index) (sent s v.number))) (position (λ m. m == s) v.members)
unfolding is_message
place_in_is sent v s index = ap (λ (f : SentItem → Bool). option_and_then
    (λ rank. option_map (place_of (length v.members) rank) (position f (sent s v.number)))
    (position (λ m. m == s) v.members)) (fun_ext (λ x. elim x [ Null ↦ refl | Index j ↦ refl ]))

-- no place, where the sender is no member
pub place_in-no_member : (sent : Sent) (v : GroupView) (s index : ℕ) → position (λ m. m == s) v.members ≡ None
    → place_in sent v s index ≡ None
place_in-no_member sent v s index none = rw (place_in_is sent v s index, none) refl

-- no place, where the message wasn't sent
pub place_in-not_sent : (sent : Sent) (v : GroupView) (s index rank : ℕ)
    → position (λ m. m == s) v.members ≡ Some rank
    → All (λ item. item ≢ Index index) (sent s v.number) → place_in sent v s index ≡ None
place_in-not_sent sent v s index rank at never =
    let none = position_none (is_message index) (sent s v.number) Null
    (λ j within. is_message-other index _ (never j Null within)) in
    rw (place_in_is sent v s index, at, none) refl

-- the place of the sender's first item that is the message
pub place_in-sent : (sent : Sent) (v : GroupView) (s index rank k : ℕ) → position (λ m. m == s) v.members ≡ Some rank
    → slice_get (sent s v.number) k ≡ Some (Index index) → All (λ item. item ≢ Index index) (take k (sent s v.number))
    → place_in sent v s index ≡ Some (place_of (length v.members) rank k)
place_in-sent sent v s index rank k at found first =
    let within : k < length (sent s v.number) = slice_get_within (sent s v.number) k (Index index) found in
    let read = get_or_from_slice_get (sent s v.number) k (Index index) Null found in
    let place = position_found (is_message index) (sent s v.number) k Null within
    (λ j before. rw (get_or-take k (sent s v.number) j Null before) at
    (is_message-other index _ (first j Null (rw (length-take-le k (sent s v.number) (omega arith)) before))))
    (is_message-same index _ read) in
    rw (place_in_is sent v s index, at, place) refl
