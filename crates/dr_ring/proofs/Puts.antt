-- The writes by which an item is put, one after the other.
use Rattle.std.specs.{Int.div_ceil, List.range_with_len}
use Rattle.std.proofs.Common.{◌≡◌, ℕ, ◌+◌, ◌%◌, ◌<◌, ◌≤◌, inr, List, [], ◌∷◌, length, map, sym, ap, subst, ◌∙◌, arith, ◌-◌}
use Rattle.std.proofs.lemmas.{List.FromFn.{length-map-range_with_len, map-range_with_len_more}, Nat.mod_below}
use Rattle.dr_words.specs.{Columns.{columns_of, head_column, body_column}, declared.column.TheConstants.PIECES}
use Rattle.dr_words.{specs.{Form.AllInForm, Grown.Grown, Packing.{ring_word, ring_tag}}, proofs.Packed.ring_grows}
use Rattle.dr_entry.{specs.declared.entry.Item.{Item, TheVariants.Text}, proofs.Fields.IsItem}
use Rattle.dr_rows.{specs.Words.{Words, IsWords, own, seen, with_own}, proofs.RowWords.IsWords-before}
use Rattle.dr_ring.{specs.Arrival.Arrives, proofs.{Growing.{pieces_grow, pieces_in_form}, Items.few_pieces}}
use Rattle.dr_ring.specs.{Pieces.{pieces, body_piece}, Slots.{slot_column, slot_of, with_pieces, with_item}}
use Rattle.dr_ring.proofs.{Looks.item_arrives, Writes.{HasSlot, HasSlot-from, pieces_none, pieces_more, own_left}}

-- the rows in which an item is put
pub record HasRoom (window : ℕ) (old : Words) (k : ℕ) : Type 0 where
  pub form : IsWords old
  pub slot : HasSlot window old k
  pub within : slot_column old.members window k + PIECES ≤ old.columns

slot_within : (window : ℕ) (w : Words) (k : ℕ) → 1 ≤ window
    → w.columns ≡ columns_of w.members window → slot_column w.members window k + PIECES ≤ w.columns
slot_within window w k some columns = let slot : k % window < window = mod_below k window some in
    rw columns (omega arith)

-- before a word of a slot was written, there was room for the item
pub room_before : (window : ℕ) (old new : Words) (k column word : ℕ) → 1 ≤ window
    → old.columns ≡ columns_of old.members window → new ≡ with_own old column word → IsWords new
    → HasRoom window old k
room_before window old new k column word some columns after form =
    let before : IsWords old = IsWords-before old column word (subst IsWords after form) in
    record {
      form = before;
      slot = HasSlot-from window old k before some columns;
      within = slot_within window old k some columns;
    }

-- the head was set
pub head_set : (window : ℕ) (old new : Words) (k members slot column word low : ℕ)
    → HasRoom window old k → new ≡ with_own old column word → old.members ≡ members → slot ≡ k % window
    → column ≡ head_column members slot → word ≡ ring_word k low → new ≡ with_pieces window old k (low ∷ [])
head_set window old new k members slot column word low room after same at here is =
    let place : column ≡ slot_column old.members window k + 0 = rw (here, at, same) (omega arith) in
    after ∙ ap (λ (c : ℕ). with_own old c word) place
    ∙ ap (λ (v : ℕ). with_own old (slot_column old.members window k + 0) v) is
    ∙ ap (λ (w : Words). with_own w (slot_column old.members window k + 0) (ring_word k low))
    (sym (pieces_none window old k)) ∙ pieces_more window old k [] low room.slot (omega arith)

body_place : (window : ℕ) (old : Words) (k members slot column part : ℕ) → old.members ≡ members → slot ≡ k % window
    → column ≡ body_column members slot part → column ≡ slot_column old.members window k + (1 + part)
body_place window old k members slot column part same at here = rw (here, at, same) (omega arith)

-- the next word of the body was set
pub body_set : (window : ℕ) (old rows new : Words) (k members slot column word part : ℕ) (bytes : List ℕ)
    → HasRoom window old k → part < 16 → rows ≡ with_pieces window old k (length bytes
    ∷ map (body_piece bytes) (range_with_len 0 part)) → new ≡ with_own rows column word → old.members ≡ members
    → slot ≡ k % window → column ≡ body_column members slot part → word ≡ ring_word k (body_piece bytes part)
    → new ≡ with_pieces window old k (length bytes ∷ map (body_piece bytes) (range_with_len 0 (part + 1)))
body_set window old rows new k members slot column word part bytes room lt before after same at here is =
    let list : List ℕ = length bytes ∷ map (body_piece bytes) (range_with_len 0 part) in
    let len : length list ≡ 1 + part = omega (arith, length-map-range_with_len (body_piece bytes) 0 part) in
    let place : column ≡ slot_column old.members window k + length list =
    omega (arith, body_place window old k members slot column part same at here, len) in
    after ∙ ap (λ (w : Words). with_own w column word) before ∙ ap (λ (c : ℕ). with_own
    (with_pieces window old k list) c word) place ∙ ap (λ (v : ℕ). with_own (with_pieces window old k list)
    (slot_column old.members window k + length list) v) is ∙ pieces_more window old k list
    (body_piece bytes part) room.slot (omega (arith, len)) ∙ ap (λ (xs : List ℕ). with_pieces window old k
    (length bytes ∷ xs)) (sym (map-range_with_len_more (body_piece bytes) 0 part part (omega arith)))

-- the word that stands there is smaller
pub body_rises : (window : ℕ) (old rows : Words) (k members slot column word part : ℕ) (bytes : List ℕ)
    → HasRoom window old k → part < 16 → ((p : ℕ) → p < PIECES → ring_tag (slot_of window old old.me k p) ≤ k)
    → rows ≡ with_pieces window old k (length bytes ∷ map (body_piece bytes) (range_with_len 0 part))
    → old.members ≡ members → slot ≡ k % window
    → column ≡ body_column members slot part → word ≡ ring_word k (body_piece bytes part) → own rows column ≤ word
body_rises window old rows k members slot column word part bytes room lt earlier before same at here is =
    let list : List ℕ = length bytes ∷ map (body_piece bytes) (range_with_len 0 part) in
    let len : length list ≡ 1 + part = omega (arith, length-map-range_with_len (body_piece bytes) 0 part) in
    let place = body_place window old k members slot column part same at here in
    let left : own rows column ≡ slot_of window old old.me k (1 + part) = ap (λ (w : Words). own w column) before
    ∙ own_left window old k list column room.slot (omega (arith, len))
    (inr (omega (arith, place, len))) ∙ ap (λ (c : ℕ). seen old old.me c) place in
    omega (
      arith,
      left,
      is,
      ring_grows k (slot_of window old old.me k (1 + part)) (body_piece bytes part)
          (earlier (1 + part) (omega arith)),
    )

-- ---- what then holds

-- an item that was put arrives at each member that looks at its words
pub put_arrives : (window : ℕ) (old new : Words) (k : ℕ) (item : Item) → HasRoom window old k
    → IsItem item → new ≡ with_item window old k item → Arrives window new k item
put_arrives window old new k item room is after = subst (λ (n : Words). Arrives window n k item) (sym after)
    (item_arrives window old k item room.slot room.within room.form.present is)

-- the rows grow where an item is put over earlier ones
pub put_grows : (window : ℕ) (old new : Words) (k : ℕ) (item : Item) → HasRoom window old k → IsItem item
    → new ≡ with_item window old k item → ((p : ℕ) → p < PIECES → ring_tag (slot_of window old old.me k p) ≤ k)
    → Grown old.members old.words new.words old.frozen new.frozen
put_grows window old new k item room is after earlier =
    subst (λ (n : Words). Grown old.members old.words n.words old.frozen n.frozen) (sym after)
    (pieces_grow window old k (pieces item) room.slot room.form (few_pieces item is) earlier)

-- all words are in form after an item is put
pub put_in_form : (window : ℕ) (old new : Words) (k : ℕ) (item : Item) → HasRoom window old k → IsItem item
    → new ≡ with_item window old k item → AllInForm old.members old.words → AllInForm new.members new.words
put_in_form window old new k item room is after form = subst (λ (n : Words). AllInForm n.members n.words) (sym after)
    (pieces_in_form window old k (pieces item) room.slot (few_pieces item is) form)

-- a message has no more pieces than a slot has words
pub few_parts : (bytes : List ℕ) → length bytes ≤ 64 → length (pieces (Text bytes)) ≤ 17
few_parts bytes short =
    omega (arith, short, length-map-range_with_len (body_piece bytes) 0 (div_ceil (length bytes) 4))
