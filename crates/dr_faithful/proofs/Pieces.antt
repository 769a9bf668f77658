-- What a word of a ring tells, and what stays told as items are added.
use Rattle.std.specs.Prelude.{◌⊎◌}
use Rattle.std.proofs.Common.{List, [], get_or, slice_get, slice_index_or, None, Some, ap, arith, inl, inr, le_trans, length, slice_index, subst, sym, ℕ, ◌+◌, ◌<◌, ◌∙◌, ◌≡◌, ◌≤◌}
use Rattle.std.proofs.lemmas.{List.get_or_past, Option.{get_or_from_slice_get, slice_get_cases}}
use Rattle.dr_entry.specs.declared.{end.SentItem.SentItem, entry.Item.{Item, TheVariants.Text}}
use Rattle.dr_entry.proofs.Fields.{IsItem}
use Rattle.dr_entry.specs.declared.end.SentItem.TheVariants as sent_items
use Rattle.dr_history.specs.History.{Sent, messages_of}
use Rattle.dr_machine.specs.Group.{Group, IsGroup}
use Rattle.dr_ring.{specs.Pieces.pieces, proofs.Items.piece_fits}
use Rattle.dr_faithful.specs.Tells.{IsPiece, TellsPiece, item_named, item_sent}
use Rattle.dr_words.{specs.Packing.{ring_tag, ring_word}, proofs.Packed.piece_tag}

-- what a member puts is an item: a null, or a message of the script, in its ranges
pub named_item : (g : Group) (s : ℕ) (x : SentItem) → IsGroup g → IsItem (item_named g s x)
named_item g s sent_items.Null is = tt
named_item g s (sent_items.Index i) is = by (slice_get_cases (messages_of g.opening s) i).1
  where
    by : ((x : List ℕ) × (i < length (messages_of g.opening s))
        × (slice_get (messages_of g.opening s) i ≡ Some x) × (get_or (messages_of g.opening s) i x ≡ x))
        ⊎ ((length (messages_of g.opening s) ≤ i) × (slice_get (messages_of g.opening s) i ≡ None))
        → IsItem (Text (slice_index_or (messages_of g.opening s) i []))
    by (inl t) = subst (λ b. IsItem (Text b)) (sym (get_or_from_slice_get (messages_of g.opening s) i t.0 [] t.2))
        (is.short s i t.0 t.2, is.bytes s i t.0 t.2)
    by (inr t) = subst (λ b. IsItem (Text b)) (sym (get_or_past (messages_of g.opening s) i [] t.0))
        (omega arith, λ k. omega arith)

-- every item that was put is one
pub sent_item : (g : Group) (sent : Sent) (s v k : ℕ) → IsGroup g → IsItem (item_sent g sent s v k)
sent_item g sent s v k is = named_item g s (slice_index_or (sent s v) k sent_items.Null) is

-- what is told of a piece stays told as more is put
pub later : (g : Group) (total more : ℕ) (items new : ℕ → Item) (slot part word : ℕ) → total
    ≤ more → ((k : ℕ) → k < total → new k ≡ items k)
    → TellsPiece g total items slot part word → TellsPiece g more new slot part word
later g total more items new slot part word rises same (inl none) = inl none
later g total more items new slot part word rises same (inr p) =
    let e : new p.number ≡ items p.number = same p.number p.put in
    inr (record {
      number = p.number;
      put = le_trans p.put rises;
      place = p.place;
      needed = subst (λ (x : Item). part < length (pieces x)) (sym e) p.needed;
      made = subst (λ (x : Item). word ≡ ring_word p.number (slice_index (pieces x) part)) (sym e) p.made;
    })

-- the tag of a word of an item is one more than the number of the item
pub tag_of_piece : (g : Group) (total : ℕ) (items : ℕ → Item) (slot part word : ℕ) → ((k : ℕ) → IsItem (items k))
    → (p : IsPiece g total items slot part word) → ring_tag word ≡ p.number + 1
tag_of_piece g total items slot part word are p = rw p.made (piece_tag p.number
    (slice_index (pieces (items p.number)) part) (piece_fits (items p.number) part (are p.number)))

-- a word with the tag of item k is a piece of it
pub piece_of : (g : Group) (total : ℕ) (items : ℕ → Item) (slot part word k : ℕ) → ((i : ℕ) → IsItem (items i))
    → TellsPiece g total items slot part word → ring_tag word ≡ k + 1 → (k < total)
    × (word ≡ ring_word k (slice_index (pieces (items k)) part))
piece_of g total items slot part word k are (inl none) tag = absurd (omega arith)
piece_of g total items slot part word k are (inr p) tag =
    let number : p.number ≡ k = omega (arith, tag_of_piece g total items slot part word are p) in (
      subst (λ i. i < total) number p.put,
      p.made ∙ ap (λ i. ring_word i (slice_index (pieces (items i)) part)) number,
    )

-- a word is at most one of a later item
pub piece_le : (g : Group) (total : ℕ) (items : ℕ → Item) (slot part word low : ℕ) → ((i : ℕ) → IsItem (items i))
    → TellsPiece g total items slot part word → word ≤ ring_word total low
piece_le g total items slot part word low are (inl none) = omega arith
piece_le g total items slot part word low are (inr p) =
    omega (arith, p.put, tag_of_piece g total items slot part word are p)
