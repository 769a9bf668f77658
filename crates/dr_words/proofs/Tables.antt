-- The words of a member as it writes its own: what a write changes, and what it leaves.
use Rattle.std.proofs.Common.{◌≡◌, ℕ, ◌<◌, inl, inr, Bool, false, List, get_or, sym, ap, subst, arith}
use Rattle.dr_rows.specs.Words.{Words, IsWords, IsGrid, looked, own, seen, with_own, with_word, word_at, is_frozen}
use Rattle.dr_rows.proofs.{Grids.{with_word-same, with_word-row, written_either}, WordsLemmas.IsWords-looked}
use Rattle.dr_words.specs.{Columns.columns_of, Form.{IsInForm, AllInForm}, Grown.{HasGrown, Grown}}
use Rattle.dr_words.proofs.Order.{HasGrown_refl}

-- ---- a write

written_in_form : (n k m : ℕ) (rows : List (List ℕ)) (i c v : ℕ) → IsGrid n k rows → i < n
    → c < k → AllInForm m rows → IsInForm m c v → AllInForm m (with_word rows i c v)
written_in_form n k m rows i c v grid h g form is j d = elim (written_either n k rows i c v j d grid h g) [
  | inl kept ↦ subst (λ (x : ℕ). IsInForm m d x) (sym kept) (form j d)
  | inr (_, column, new) ↦ subst (λ (x : ℕ). IsInForm m d x) (sym new)
      (subst (λ (e : ℕ). IsInForm m e v) (sym column) is)
]

written_grown : (n k m : ℕ) (rows : List (List ℕ)) (frozen : List Bool) (i c v : ℕ) → IsGrid n k rows → i < n → c < k
    → get_or frozen i false ≡ false → HasGrown m c (word_at rows i c) v
    → Grown m rows (with_word rows i c v) frozen frozen
written_grown n k m rows frozen i c v grid h g alive grown = record {
  words = λ j d. elim (written_either n k rows i c v j d grid h g) [
    | inl kept ↦ subst (λ (x : ℕ). HasGrown m d (word_at rows j d) x) (sym kept)
        (HasGrown_refl m d (word_at rows j d))
    | inr (row, column, new) ↦ rw (new, row, column) grown
  ];
  frozen = λ row f. f;
  still = λ row f. with_word-row rows i c v row
      (λ e. absurd (cc (ap (λ (x : ℕ). get_or frozen x false) e, f, alive)));
}

-- ---- the rows of a member

-- they are of the group's shape, and each word is in form
pub record IsTable (n window : ℕ) (w : Words) : Type 0 where
  pub rows : IsWords w
  pub members : w.members ≡ n
  pub columns : w.columns ≡ columns_of n window
  pub words : AllInForm w.members w.words

-- the rows remain a table when a word in form is taken over by a look
pub table_looked : (n window : ℕ) (w : Words) (i c v : ℕ) → IsTable n window w → i < n → c
    < columns_of n window → IsInForm n c v → IsTable n window (looked w i c v)
table_looked n window w i c v t row column is =
    let within : i < w.members = omega (arith, t.members) in
    record {
      rows = IsWords-looked w i c v t.rows within;
      members = t.members;
      columns = t.columns;
      words = written_in_form w.members w.columns w.members w.words i c v t.rows.rows within
          (omega (arith, t.columns)) t.words (subst (λ (m : ℕ). IsInForm m c v) (sym t.members) is);
    }

-- the rows remain a table when an own word in form is set
pub table_set : (n window : ℕ) (w : Words) (c v : ℕ) → IsTable n window w → c < columns_of n window
    → IsInForm n c v → IsTable n window (with_own w c v)
table_set n window w c v t column is =
    table_looked n window w w.me c v t (omega (arith, t.rows.present, t.members)) column is

-- the own words after a write
pub own_written : (n window : ℕ) (w : Words) (c v : ℕ) → IsTable n window w → c
    < columns_of n window → own (with_own w c v) c ≡ v
own_written n window w c v t column =
    with_word-same w.members w.columns w.words w.me c v t.rows.rows t.rows.present (omega (arith, t.columns))

-- they grow where the word of a row that isn't frozen does
pub looked_grown : (n window : ℕ) (w : Words) (i c v : ℕ) → IsTable n window w → i < n → c < columns_of n window
    → is_frozen w i ≡ false → HasGrown n c (seen w i c) v → Grown n w.words (looked w i c v).words w.frozen w.frozen
looked_grown n window w i c v t row column alive grown =
    written_grown w.members w.columns n w.words w.frozen i c v t.rows.rows (omega (arith, t.members))
    (omega (arith, t.columns)) alive grown

-- no word falls where an own word grows
pub set_grown : (n window : ℕ) (w : Words) (c v : ℕ) → IsTable n window w → c < columns_of n window
    → HasGrown n c (own w c) v → Grown n w.words (with_own w c v).words w.frozen w.frozen
set_grown n window w c v t column grown =
    looked_grown n window w w.me c v t (omega (arith, t.rows.present, t.members)) column t.rows.alive grown
