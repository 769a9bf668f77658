-- Rows in which words were written.
use Rattle.std.proofs.Common.{◌≡◌, ℕ, ◌<◌, inl, inr, List, [], length, get_or, set, sym, ap, ◌∙◌, arith, length-set}
use Rattle.std.proofs.lemmas.{Bool.cases_eq, List.{get_or-set_same, get_or-set_other, get_or_default}}
use Rattle.dr_rows.specs.Words.{Words, IsWords, row_of, with_own}

-- words that have their form after an own word is written had it before
pub IsWords-before : (w : Words) (c v : ℕ) → IsWords (with_own w c v) → IsWords w
IsWords-before w c v form = record {
  few = form.few;
  narrow = form.narrow;
  present = form.present;
  rows = record { height = height; width = width };
  pushes = form.pushes;
  marks = form.marks;
  alive = form.alive;
}
  where
    new : List ℕ
    new = set (row_of w.words w.me) c v

    height : length w.words ≡ w.members
    height = sym (length-set w.words w.me new) ∙ form.rows.height

    width : (i : ℕ) (d : List ℕ) → i < length w.words → length (get_or w.words i d) ≡ w.columns
    width i d lt =
        let there : i < length (set w.words w.me new) = omega (arith, length-set w.words w.me new) in
        elim (cases_eq i w.me) [
          | inl same ↦
              let mine : w.me < length w.words = omega arith in
              rw same (ap length (get_or_default w.words w.me d [] mine) ∙ sym (length-set (row_of w.words w.me) c v)
              ∙ sym (ap length (get_or-set_same w.words w.me new d mine))
              ∙ form.rows.width w.me d (omega (arith, length-set w.words w.me new)))
          | inr other ↦ sym (ap length (get_or-set_other w.words w.me i new d other)) ∙ form.rows.width i d there
        ]
