-- The words of a member that puts an item grow, and stay in form.
use Rattle.std.proofs.Common.{◌≡◌, ℕ, ◌+◌, ◌<◌, ◌≤◌, inl, inr, true, false, List, length, get_or, sym, ap, subst, arith}
use Rattle.std.proofs.lemmas.Bool.{cases_eq}
use Rattle.dr_entry.proofs.NumberFacts.{InOrOut, in_or_out}
use Rattle.dr_words.specs.{Form.{IsInForm, AllInForm}, Grown.{HasGrown, Grown}, Packing.ring_tag}
use Rattle.dr_words.{specs.declared.column.TheConstants.PIECES, proofs.{Columns.ring_grown, Forms.ring_in_form}}
use Rattle.dr_words.proofs.{Order.HasGrown_same, Packed.ring_grows}
use Rattle.dr_rows.specs.Words.{Words, IsWords, row_of, word_at}
use Rattle.dr_ring.specs.Slots.{slot_column, slot_of, with_pieces}
use Rattle.dr_ring.proofs.Writes.{HasSlot, own_set, own_left, other_rows}

-- the rows grow where pieces of item k are written over words of earlier items
pub pieces_grow : (window : ℕ) (w : Words) (k : ℕ) (list : List ℕ) → HasSlot window w k
    → IsWords w → length list ≤ PIECES → ((part : ℕ) → part < PIECES → ring_tag (slot_of window w w.me k part) ≤ k)
    → Grown w.members w.words (with_pieces window w k list).words w.frozen w.frozen
pieces_grow window w k list slot form few earlier = record {
  words = words;
  frozen = λ row frozen. frozen;
  still = still;
}
  where
    mine : (column : ℕ) → InOrOut (slot_column w.members window k) (length list) column
        → HasGrown w.members column (word_at w.words w.me column)
        (word_at (with_pieces window w k list).words w.me column)
    mine column (inl p) =
        let set = own_set window w k list p.0 slot p.1 in
        let grows = ring_grows k (slot_of window w w.me k p.0) (get_or list p.0 0)
        (earlier p.0 (omega (arith, p.1))) in
        subst (λ (c : ℕ). HasGrown w.members c (word_at w.words w.me c)
        (word_at (with_pieces window w k list).words w.me c)) p.2
        (ring_grown w.members (slot_column w.members window k + p.0) (slot_of window w w.me k p.0)
        (word_at (with_pieces window w k list).words w.me (slot_column w.members window k + p.0))
        (omega arith) (omega (arith, grows, set)))
    mine column (inr out) = HasGrown_same w.members column _ _ (own_left window w k list column slot few out)

    words : (row column : ℕ) → HasGrown w.members column (word_at w.words row column)
        (word_at (with_pieces window w k list).words row column)
    words row column = elim (cases_eq row w.me) [
      | inl same ↦ subst (λ (i : ℕ). HasGrown w.members column (word_at w.words i column)
          (word_at (with_pieces window w k list).words i column)) (sym same)
          (mine column (in_or_out (slot_column w.members window k) (length list) column))
      | inr other ↦ HasGrown_same w.members column _ _
          (ap (λ (r : List ℕ). get_or r column 0) (other_rows window w k list row other))
    ]

    still : (row : ℕ) → get_or w.frozen row false ≡ true
        → row_of (with_pieces window w k list).words row ≡ row_of w.words row
    still row frozen = elim (cases_eq row w.me) [
      | inl same ↦ absurd (cc (ap (λ (i : ℕ). get_or w.frozen i false) same, form.alive))
      | inr other ↦ other_rows window w k list row other
    ]

-- all words are in form after pieces of an item are written
pub pieces_in_form : (window : ℕ) (w : Words) (k : ℕ) (list : List ℕ) → HasSlot window w k
    → length list ≤ PIECES → AllInForm w.members w.words → AllInForm w.members (with_pieces window w k list).words
pieces_in_form window w k list slot few form row column = elim (cases_eq row w.me) [
  | inl same ↦ subst (λ (i : ℕ). IsInForm w.members column (word_at (with_pieces window w k list).words i column))
      (sym same) (mine (in_or_out (slot_column w.members window k) (length list) column))
  | inr other ↦ subst (λ (v : ℕ). IsInForm w.members column v)
      (sym (ap (λ (r : List ℕ). get_or r column 0) (other_rows window w k list row other))) (form row column)
]
  where
    mine : InOrOut (slot_column w.members window k) (length list) column
        → IsInForm w.members column (word_at (with_pieces window w k list).words w.me column)
    mine (inl p) = ring_in_form w.members column _ (omega (arith, p.2))
    mine (inr out) = subst (λ (v : ℕ). IsInForm w.members column v)
        (sym (own_left window w k list column slot few out)) (form w.me column)
