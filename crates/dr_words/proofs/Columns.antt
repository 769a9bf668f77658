-- Columns of rows that are alike, and what stays in them.
use Rattle.std.proofs.Common.{ℕ, ◌<◌, ◌^◌, refl, List, ◌≤◌, arith, ◌≡◌, ◌⊎◌, ◌∙◌, ap, ◌+◌, ◌*◌, ◌/◌, ◌%◌}
use Rattle.std.proofs.lemmas.Nat.{div-mul-add, mod-mul-add}
use Rattle.dr_rows.{specs.Words.{Words, seen, with_own}, proofs.Grids.with_word-column}
use Rattle.dr_words.specs.{Accepts.Shown, Columns.{recv_column, head_column, leavers_column, trim_column, columns_of}}
use Rattle.dr_words.specs.{Form.AllInForm, Grown.HasGrown, Layout.word_index_of, Rows.word_at}
use Rattle.dr_words.specs.declared.column.TheConstants.{BEAT_COLUMN}

-- a recv word has 33 bits
pub recv_small : (n : ℕ) (rows : List (List ℕ)) → AllInForm n rows → (s : ℕ) → s < n
    → (i : ℕ) → word_at rows i (recv_column s) < 2 ^ 33
recv_small n rows form s l i = (form i (recv_column s)).recv s l refl

-- a greater word of a ring's column has grown
pub ring_grown : (members column old new : ℕ) → head_column members 0 ≤ column → old ≤ new
    → HasGrown members column old new
ring_grown members column old new ring le = record {
  number = le;
  suspected = λ e. absurd (omega arith);
  final = λ s lt e f. absurd (omega arith);
}

-- two members' rows show the same of what votes go by
pub record AreAlike (n : ℕ) (f g : Shown) : Type 0 where
  pub leavers : (i : ℕ) → f i (leavers_column n) ≡ g i (leavers_column n)
  pub trims : (i s : ℕ) → f i (trim_column n s) ≡ g i (trim_column n s)
  pub counts : (i s : ℕ) → f i (recv_column s) ≡ g i (recv_column s)

-- a beat is none of them
pub beats_alike : (n : ℕ) (w : Words) (v : ℕ) → AreAlike n (seen (with_own w BEAT_COLUMN v)) (seen w)
beats_alike n w v = record {
  leavers = λ i. same i (leavers_column n) (λ e. omega (arith, e));
  trims = λ i s. same i (trim_column n s) (λ e. omega (arith, e));
  counts = λ i s. same i (recv_column s) (λ e. omega (arith, e));
}
  where
    same : (i c : ℕ) → (c ≡ 0 → ⊥) → seen (with_own w BEAT_COLUMN v) i c ≡ seen w i c
    same i c other = with_word-column w.words w.me BEAT_COLUMN v i c other

-- below the ring, or in it
pub low_or_high : (n c : ℕ) → (c < head_column n 0) ⊎ (head_column n 0 ≤ c)
low_or_high n c = grind arith

pub row_found : (n w view copy row column index : ℕ) → row < n → column < columns_of n w
    → index ≡ word_index_of n w view copy row column → index / columns_of n w % n ≡ row
row_found n w view copy row column index q s at = ap (λ x. x / columns_of n w % n) at ∙ ap (λ x. x % n)
    (div-mul-add ((view * n + copy) * n + row) (columns_of n w) column s) ∙ mod-mul-add (view * n + copy) n row q

pub column_found : (n w view copy row column index : ℕ) → column < columns_of n w
    → index ≡ word_index_of n w view copy row column → index % columns_of n w ≡ column
column_found n w view copy row column index s at =
    ap (λ x. x % columns_of n w) at ∙ mod-mul-add ((view * n + copy) * n + row) (columns_of n w) column s
