-- What is known while items are received and put.
use Rattle.std.proofs.Common.{◌≡◌, ◌≢◌, ℕ, ◌+◌, ◌-◌, ◌*◌, ◌<◌, ◌≤◌, inl, inr, List, length, get_or, refl, le_refl, sym, ap, subst, ◌∙◌, arith}
use Rattle.std.proofs.lemmas.Bool.{cases_lt}
use Rattle.dr_entry.specs.declared.entry.Item.{Item}
use Rattle.dr_words.specs.{Form.{IsInForm, AllInForm}, Packing.ring_tag, declared.shape.Shape.Shape}
use Rattle.dr_words.proofs.Packed.{piece_tag}
use Rattle.dr_rows.{specs.Words.{Words, IsWords, looked, own}, proofs.Grids.{with_word-row, with_word_either}}
use Rattle.dr_ring.{specs.{Pieces.pieces, Slots.{slot_column, with_item}}, proofs.Items.{few_pieces, piece_fits}}
use Rattle.dr_ring.proofs.Writes.{HasSlot-from, own_set, own_left}
use Rattle.dr_bench.{specs.Known.{HasPut, IsItem, IsUpTo}, proofs.Bounds.up_to_looked}

-- ---- before the first put: the others have received all

-- what is known while the others come to have received all
pub record AreReceived (shape : Shape) (word : ℕ) (w : Words) : Type 0 where
  pub rows : IsUpTo shape word w
  pub in_form : AllInForm w.members w.words
  pub own : (c : ℕ) → own w c ≡ 0

-- another member has received all up to a word that a look sees
pub received_one : (shape : Shape) (word : ℕ) (w x : Words) (i c : ℕ) → AreReceived shape word w
    → x ≡ looked w i c word → IsWords x → i < w.members → c < w.columns → i ≢ w.me → IsInForm w.members c word
    → AreReceived shape word x
received_one shape word w x i c known same =
    subst (λ (y : Words). IsWords y → i < w.members → c < w.columns → i ≢ w.me
    → IsInForm w.members c word → AreReceived shape word y) (sym same) (λ form h g other fits. record {
      rows = up_to_looked shape word w (looked w i c word) i c word known.rows refl form h g (le_refl word);
      in_form = λ j d. elim (with_word_either w.members w.columns w.words i c word j d
          known.rows.rows.form.rows h g) [
            | inl kept ↦ subst (λ (v : ℕ). IsInForm w.members d v) (sym kept) (known.in_form j d)
            | inr new ↦ subst (λ (v : ℕ). IsInForm w.members d v) (sym new.1)
                (subst (λ (e : ℕ). IsInForm w.members e word) (sym new.0) fits)
          ];
      own = λ d. ap (λ (row : List ℕ). get_or row d 0)
          (with_word-row w.words i c word w.me (λ e. other (sym e))) ∙ known.own d;
    })

-- ---- a put

-- no own word has a tag above k + 1 once item k has been put
tag_after : (window : ℕ) (w : Words) (k : ℕ) (item : Item) (c : ℕ) → IsWords w → 1 ≤ window
    → w.columns ≡ 6 + 2 * w.members + 17 * window
    → IsItem item → ring_tag (own w c) ≤ k → ring_tag (own (with_item window w k item) c) ≤ k + 1
tag_after window w k item c form some columns is before =
    let column : ℕ = slot_column w.members window k in
    let slot = HasSlot-from window w k form some columns in
    elim (cases_lt c column) [
      | inl front ↦ omega (
        arith,
        ap ring_tag (own_left window w k (pieces item) c slot (few_pieces item is) (inl front)),
      )
      | inr from ↦ elim (cases_lt (c - column) (length (pieces item))) [
        | inl within ↦
            let there : column + (c - column) ≡ c = omega arith in
            let word = own_set window w k (pieces item) (c - column) slot within in
            let tag = piece_tag k (get_or (pieces item) (c - column) 0) (piece_fits item (c - column) is) in
            subst (λ (d : ℕ). ring_tag (own (with_item window w k item) d) ≤ k + 1) there
            (omega (arith, ap ring_tag word, tag))
        | inr behind ↦ omega (
          arith,
          ap ring_tag (own_left window w k (pieces item) c slot (few_pieces item is) (inr (omega arith))),
        )
      ]
    ]

-- after a put the own slots have items up to the one that was put
pub put_kept : (shape : Shape) (old new : Words) (k : ℕ) (item : Item) → HasPut shape k old → IsItem item
    → new ≡ with_item shape.window old k item → IsWords new → AllInForm new.members new.words
    → HasPut shape (k + 1) new
put_kept shape old new k item known is same =
    subst (λ (w : Words). IsWords w → AllInForm w.members w.words → HasPut shape (k + 1) w) (sym same)
    (λ form in_form. record {
      fits = record { members = known.fits.members; columns = known.fits.columns };
      form = form;
      in_form = in_form;
      earlier = λ c h. tag_after shape.window old k item c known.form shape.some_slot
          (omega (arith, known.fits.members, known.fits.columns)) is (known.earlier c h);
    })
