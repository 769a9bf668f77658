-- What doors have in the copies of their members stands so in a table, as words come to either.
use Rattle.std.specs.Prelude.{slice_set, Option, Some}
use Rattle.std.proofs.Common.{◌≡◌, ◌≢◌, ◌⊎◌, ◌∙◌, inl, inr, sym, ap, subst, ℕ, ◌<◌, List, length, slice_index, arith}
use Rattle.std.proofs.lemmas.{Bool.cases_eq, List.{get_or-set_other, get_or-set_same, length-set}}
use Rattle.dr_machine.{specs.Group.{Group, banks, columns, roster}, proofs.Groups.{place_in, IsPlace, other_place}}
use Rattle.dr_program.{specs.Presence.{present_at, with_present}, proofs.Present.{place_set, present_within}}
use Rattle.dr_words.{specs.Layout.words_of, proofs.Places.word_index_within}
use Rattle.dr_door.specs.{Apart.AreCopies, Lone.Lone}

-- a door that has the same words as before
pub copies_kept : (g : Group) (doors : List (Option Lone)) (table : List ℕ) (m : ℕ) (d x : Lone)
    → present_at doors m ≡ Some d → x.words ≡ d.words → AreCopies g doors table
    → AreCopies g (with_present doors m x) table
copies_kept g doors table m d x there words are = record {
  whole = λ k e stands. whole_by k e (place_set doors m k x e stands);
  same = λ k e stands v i c bank row column. same_by k e v i c bank row column (place_set doors m k x e stands);
}
  where
    whole_by : (k : ℕ) (e : Lone) → ((k ≡ m) × (x ≡ e)) ⊎ ((k ≢ m) × (present_at doors k ≡ Some e))
        → length e.words ≡ length table
    whole_by k e (inl h) = ap (λ (y : Lone). length y.words) (sym h.1) ∙ ap length words ∙ are.whole m d there
    whole_by k e (inr h) = are.whole k e h.1

    same_by : (k : ℕ) (e : Lone) (v i c : ℕ) → v < banks g → i < roster g → c < columns g
        → ((k ≡ m) × (x ≡ e)) ⊎ ((k ≢ m) × (present_at doors k ≡ Some e))
        → slice_index e.words (place_in g v k i c) ≡ slice_index table (place_in g v k i c)
    same_by k e v i c bank row column (inl h) =
        subst (λ n. slice_index e.words (place_in g v n i c) ≡ slice_index table (place_in g v n i c)) (sym h.0)
        (ap (λ (y : Lone). slice_index y.words (place_in g v m i c)) (sym h.1)
        ∙ ap (λ ws. slice_index ws (place_in g v m i c)) words ∙ are.same m d there v i c bank row column)
    same_by k e v i c bank row column (inr h) = are.same k e h.1 v i c bank row column

-- a word that is written at a place of its own copy, and there in the table too
pub copies_written : (g : Group) (doors : List (Option Lone)) (table : List ℕ) (m : ℕ) (d x : Lone)
    (v i c index word : ℕ) → length doors ≡ roster g
    → length table ≡ words_of (roster g) g.window (banks g) → present_at doors m ≡ Some d
    → IsPlace g v m i c → index ≡ place_in g v m i c → x.words ≡ slice_set d.words index word
    → AreCopies g doors table → AreCopies g (with_present doors m x) (slice_set table index word)
copies_written g doors table m d x v i c index word all size there p at words are = record {
  whole = λ k e stands. whole_by k e (place_set doors m k x e stands);
  same = λ k e stands u j b bank row column. same_by k e u j b bank row column (place_set doors m k x e stands);
}
  where
    whole_by : (k : ℕ) (e : Lone) → ((k ≡ m) × (x ≡ e)) ⊎ ((k ≢ m) × (present_at doors k ≡ Some e))
        → length e.words ≡ length (slice_set table index word)
    whole_by k e (inl h) = ap (λ (y : Lone). length y.words) (sym h.1) ∙ ap length words
        ∙ length-set d.words index word ∙ are.whole m d there ∙ sym (length-set table index word)
    whole_by k e (inr h) = are.whole k e h.1 ∙ sym (length-set table index word)

    within : index < length table
    within = omega (
      arith,
      at,
      size,
      word_index_within (roster g) g.window (banks g) v m i c p.bank p.copy p.row p.column,
    )

    mine : (u j b : ℕ) → u < banks g → j < roster g → b < columns g → (place_in g u m j b ≡ index)
        ⊎ (place_in g u m j b ≢ index) → slice_index (slice_set d.words index word) (place_in g u m j b)
        ≡ slice_index (slice_set table index word) (place_in g u m j b)
    mine u j b bank row column (inl here) = subst (λ n. slice_index
        (slice_set d.words index word) n ≡ slice_index (slice_set table index word) n)
        (sym here) (get_or-set_same d.words index word 0 (omega (arith, within, are.whole m d there))
        ∙ sym (get_or-set_same table index word 0 within))
    mine u j b bank row column (inr other) =
        get_or-set_other d.words index (place_in g u m j b) word 0 other ∙ are.same m d there u j b bank row column
        ∙ sym (get_or-set_other table index (place_in g u m j b) word 0 other)

    same_by : (k : ℕ) (e : Lone) (u j b : ℕ) → u < banks g → j < roster g → b < columns g
        → ((k ≡ m) × (x ≡ e)) ⊎ ((k ≢ m) × (present_at doors k ≡ Some e))
        → slice_index e.words (place_in g u k j b) ≡ slice_index (slice_set table index word) (place_in g u k j b)
    same_by k e u j b bank row column (inl h) = subst (λ n. slice_index e.words (place_in g u n j b)
        ≡ slice_index (slice_set table index word) (place_in g u n j b))
        (sym h.0) (ap (λ (y : Lone). slice_index y.words (place_in g u m j b)) (sym h.1)
        ∙ ap (λ ws. slice_index ws (place_in g u m j b)) words
        ∙ mine u j b bank row column (cases_eq (place_in g u m j b) index))
    same_by k e u j b bank row column (inr h) =
        let copy : k < roster g = omega (arith, present_within doors k e h.1, all) in
        are.same k e h.1 u j b bank row column ∙ sym (get_or-set_other table index
        (place_in g u k j b) word 0 (λ same. other_place g v m i c u k j b p copy row column h.0 (same ∙ at)))

-- a word that is written at a place of another copy, which its member doesn't see
pub copies_elsewhere : (g : Group) (doors : List (Option Lone)) (table : List ℕ) (m : ℕ) (d x : Lone)
    (v k i c index word : ℕ) → length doors ≡ roster g → present_at doors m ≡ Some d
    → IsPlace g v k i c → m ≢ k → index ≡ place_in g v k i c → x.words ≡ slice_set d.words index word
    → AreCopies g doors table → AreCopies g (with_present doors m x) table
copies_elsewhere g doors table m d x v k i c index word all there p apart at words are = record {
  whole = λ n e stands. whole_by n e (place_set doors m n x e stands);
  same = λ n e stands u j b bank row column. same_by n e u j b bank row column (place_set doors m n x e stands);
}
  where
    whole_by : (n : ℕ) (e : Lone) → ((n ≡ m) × (x ≡ e)) ⊎ ((n ≢ m) × (present_at doors n ≡ Some e))
        → length e.words ≡ length table
    whole_by n e (inl h) = ap (λ (y : Lone). length y.words) (sym h.1) ∙ ap length words
        ∙ length-set d.words index word ∙ are.whole m d there
    whole_by n e (inr h) = are.whole n e h.1

    copy : m < roster g
    copy = omega (arith, present_within doors m d there, all)

    same_by : (n : ℕ) (e : Lone) (u j b : ℕ) → u < banks g → j < roster g → b < columns g
        → ((n ≡ m) × (x ≡ e)) ⊎ ((n ≢ m) × (present_at doors n ≡ Some e))
        → slice_index e.words (place_in g u n j b) ≡ slice_index table (place_in g u n j b)
    same_by n e u j b bank row column
        (inl h) = subst (λ z. slice_index e.words (place_in g u z j b) ≡ slice_index table (place_in g u z j b))
        (sym h.0) (ap (λ (y : Lone). slice_index y.words (place_in g u m j b)) (sym h.1)
        ∙ ap (λ ws. slice_index ws (place_in g u m j b)) words ∙ get_or-set_other d.words index
        (place_in g u m j b) word 0 (λ same. other_place g v k i c u m j b p copy row column apart (same ∙ at))
        ∙ are.same m d there u j b bank row column)
    same_by n e u j b bank row column (inr h) = are.same n e h.1 u j b bank row column
