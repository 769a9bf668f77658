-- Messages among sent items, and the place that a message has by its index.
use Rattle.std.proofs.Common.{◌≡◌, ap, sym, ◌∙◌, ℕ, ◌+◌, ◌/◌, ◌%◌, ◌<◌, arith, List, length, take, get_or, Some, slice_get}
use Rattle.std.proofs.lemmas.{List.{length-take-le, get_or-take}, Option.{slice_get_within, slice_get-get_or}}
use Rattle.dr_entry.specs.declared.{end.SentItem.{SentItem, TheVariants.Index}, entry.Entry.Entry}
use Rattle.dr_entry.proofs.{ListFacts.AreDistinct, ListPlaces.{position-rank, Contains-slice_get}}
use Rattle.dr_history.specs.{History.{GroupView, Sent, item_at, place_in}, declared.opening.Opening.Opening}
use Rattle.dr_history.proofs.Indices.{messages_in-message, messages_in-le, item_at-parts}
use Rattle.dr_history.proofs.{PlaceLemmas.place_of-split, SentLemmas.place_in-sent}
use Rattle.dr_history_laws.specs.Laid.{GoesOn}

-- where messages go on from a history, a member's message with an index is one item
first_message : (o : Opening) (sent : Sent) (h : List Entry) (v : GroupView) (s j k i : ℕ) (rank : ℕ)
    → GoesOn o sent h v → slice_get v.members rank ≡ Some s → j < k
    → slice_get (sent s v.number) j ≡ Some (Index i) → slice_get (sent s v.number) k ≡ Some (Index i) → ⊥
first_message o sent h v s j k i rank goes member l at_j at_k =
    let within = Contains-slice_get v.members rank s member in
    omega (
      arith,
      goes.index s j i within at_j,
      goes.index s k i within at_k,
      messages_in-message (sent s v.number) j i at_j,
      messages_in-le (sent s v.number) (j + 1) k (omega arith),
    )

-- so the message at a place has this place
pub place_in-here : (o : Opening) (sent : Sent) (h : List Entry) (v : GroupView) (p s i : ℕ)
    → GoesOn o sent h v → AreDistinct v.members → item_at sent v p ≡ Some (s, Index i) → place_in sent v s i ≡ Some p
place_in-here o sent h v p s i goes distinct e = place_in-sent sent v s i (p % length v.members)
    (p / length v.members) (position-rank v.members (p % length v.members) s distinct parts.0) parts.1 never
    ∙ ap Some (place_of-split (length v.members) p)
  where
    parts : (slice_get v.members (p % length v.members) ≡ Some s)
        × (slice_get (sent s v.number) (p / length v.members) ≡ Some (Index i))
    parts = item_at-parts sent v p s (Index i) e

    within : p / length v.members < length (sent s v.number)
    within = slice_get_within (sent s v.number) (p / length v.members) (Index i) parts.1

    never : (j : ℕ) (d : SentItem) → j < length (take (p / length v.members) (sent s v.number))
        → get_or (take (p / length v.members) (sent s v.number)) j d ≡ Index i → ⊥
    never j d l is =
        let before : j < p / length v.members =
        omega (arith, l, length-take-le (p / length v.members) (sent s v.number) (omega (arith, within))) in
        first_message o sent h v s j (p / length v.members) i (p % length v.members) goes parts.0 before
        (at_item j d before is) parts.1
      where
        at_item : (j : ℕ) (d : SentItem) → j < p / length v.members → get_or (take (p / length v.members)
            (sent s v.number)) j d ≡ Index i → slice_get (sent s v.number) j ≡ Some (Index i)
        at_item j d before is = slice_get-get_or (sent s v.number) j d (omega (arith, before, within)) ∙
            ap Some (sym (get_or-take (p / length v.members) (sent s v.number) j d before) ∙ is)
