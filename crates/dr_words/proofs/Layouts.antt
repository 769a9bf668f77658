-- Where the words of a row stand, and the first rows.
use Rattle.std.{specs.Prelude.{◌^◌}, proofs.lemmas.{Bool.{cases_eq, Decides.nat_tests}, List.length-set, Nat.mul-le}}
use Rattle.std.proofs.Common.{ℕ, ◌≡◌, refl, ◌∙◌, ◌==◌, if◌then◌else◌, inl, inr, [], sym, subst, ◌-◌, ◌≤◌, ◌+◌, arith, ◌<◌, List, length, slice_index, set, ◌*◌, not, false}
use Rattle.dr_entry.proofs.{ListPlaces.one_more, NumberFacts.{same_number, other_number}}
use Rattle.dr_rows.specs.Words.{Words, begun, with_own, seen, word_at, last_pushed, own}
use Rattle.dr_rows.proofs.{Grids.{seen_with, with_word-column}, WordsLemmas.IsFresh-begun}
use Rattle.dr_words.specs.{Columns.columns_of, Form.{IsInForm, AllInForm}, Layout.{word_index_of, words_of}}
use Rattle.dr_words.{specs.declared.column.TheConstants.LOGGED_COLUMN, proofs.Forms.{logged_in_form, form_zero}}

-- the rows as the age opens
abbrev pub first_rows : ℕ → ℕ → ℕ → ℕ → Words
first_rows n k m logged = with_own (begun n k m) LOGGED_COLUMN logged

pub first_seen : (n k m logged i c : ℕ) → (if i == m then 0 else seen (first_rows n k m logged) i c) ≡ 0
first_seen n k m logged i c = elim (cases_eq i m) [
  | inl same ↦ rw (same, same_number m) refl
  | inr other ↦ rw (other_number i m other)
      (seen_with (begun n k m) LOGGED_COLUMN logged i c other ∙ (IsFresh-begun n k m).zero i c)
]

-- words that are 0 but for a logged word are in form
pub first_in_form : (n k m x : ℕ) → 1 ≤ n → AllInForm n (with_own (begun n k m) LOGGED_COLUMN x).words
first_in_form n k m x some i c = elim (cases_eq c LOGGED_COLUMN) [
  | inl same ↦ rw same (logged_in_form n (word_at (with_own (begun n k m) LOGGED_COLUMN x).words i LOGGED_COLUMN))
  | inr other ↦ subst (λ v. IsInForm n c v) (sym (with_word-column (begun n k m).words m LOGGED_COLUMN x i c other
      ∙ (IsFresh-begun n k m).zero i c)) (form_zero n c some)
]

-- a word stands so many columns behind the first of its row
pub behind_first : (n w v copy row c : ℕ) → word_index_of n w v copy row 0 + c ≡ word_index_of n w v copy row c
behind_first n w v copy row c = omega arith

-- the first words of the rows of some members are noted
pub record AreNoted (n w v m others : ℕ) (mine theirs : List ℕ) : Type 0 where
  pub long_looks : length mine ≡ 16
  pub long_pushes : length theirs ≡ 16
  pub looks : (i : ℕ) → i < others → slice_index mine i ≡ word_index_of n w v m i 0
  pub pushes : (j : ℕ) → j < others → slice_index theirs j ≡ word_index_of n w v j m 0

-- and those of one more, which stand at its number
pub noted_more : (n w v m k i j x y : ℕ) (mine theirs : List ℕ) → k < 16 → AreNoted n w v m k mine theirs
    → i ≡ k → j ≡ k → x ≡ word_index_of n w v m k 0 → y ≡ word_index_of n w v k m 0
    → AreNoted n w v m (k + 1) (set mine i x) (set theirs j y)
noted_more n w v m k i j x y mine theirs few before here there is also = subst (λ (s : ℕ × ℕ). AreNoted n w v m
    (k + 1) (set mine s.0 x) (set theirs s.1 y)) (λ z. (sym here z, sym there z)) (record {
      long_looks = length-set mine k x ∙ before.long_looks;
      long_pushes = length-set theirs k y ∙ before.long_pushes;
      looks = one_more mine (λ i. word_index_of n w v m i 0) k x (omega (arith, few, before.long_looks)) is
          before.looks;
      pushes = one_more theirs (λ j. word_index_of n w v j m 0) k y (omega (arith, few, before.long_pushes))
          also before.pushes;
    })

pub words_small : (n w banks : ℕ) → n ≤ 16 → w ≤ 8 → banks ≤ 32 → words_of n w banks < 2 ^ 32
words_small n w banks few narrow least =
    let columns : columns_of n w ≤ 256 = omega (arith, few, narrow) in
    let a : banks * n ≤ 32 * 16 = mul-le banks n 32 16 least few in
    let b : banks * n * n ≤ 32 * 16 * 16 = mul-le (banks * n) n (32 * 16) 16 a few in
    let c : banks * n * n * columns_of n w ≤ 32 * 16 * 16 * 256 =
    mul-le (banks * n * n) (columns_of n w) (32 * 16 * 16) 256 b columns in
    omega (arith, c)

-- rows that begin have pushed nothing
pub begun_unpushed : (n k m logged j c : ℕ) → last_pushed (first_rows n k m logged) j c ≡ 0
begun_unpushed n k m logged j c = zero (own (begun n k m) c)
    (last_pushed (begun n k m) j c) ((IsFresh-begun n k m).zero m c) ((IsFresh-begun n k m).unchanged j c)
  where
    zero : (a b : ℕ) → a ≡ 0 → not (a == b) ≡ false → b ≡ 0
    zero a b none same = grind (arith, nat_tests, none, same)
