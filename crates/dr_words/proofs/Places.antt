-- Indices of words: they are within the table, and each stands for one word.
use Rattle.std.proofs.Common.{◌≡◌, ℕ, ◌+◌, ◌*◌, ◌<◌, arith, ◌^◌, ◌≤◌}
use Rattle.std.proofs.lemmas.Nat.{mul-add-lt, same_from_place, mul-le}
use Rattle.dr_words.specs.{Columns.columns_of, Layout.{words_of, word_index_of}}

-- within the table
pub word_index_within : (n w banks bank copy row column : ℕ) → bank < banks → copy < n → row < n
    → column < columns_of n w → word_index_of n w bank copy row column < words_of n w banks
word_index_within n w banks bank copy row column p q r s =
    let in_bank = mul-add-lt bank n copy banks p q in
    let in_copy = mul-add-lt (bank * n + copy) n row (n * banks) in_bank r in
    let in_row = mul-add-lt ((bank * n + copy) * n + row) (columns_of n w) column (n * (n * banks)) in_copy s in
    omega (arith, in_row)

-- one word each
pub word_index_one_to_one : (n w bank copy row column b c r x : ℕ) → copy < n → row < n → column < columns_of n w
    → c < n → r < n → x < columns_of n w → word_index_of n w b c r x ≡ word_index_of n w bank copy row column
    → (b ≡ bank) × (c ≡ copy) × (r ≡ row) × (x ≡ column)
word_index_one_to_one n w bank copy row column b c r x p q s t u v e =
    let rows = same_from_place ((b * n + c) * n + r) x ((bank * n + copy) * n + row) column (columns_of n w) v s e in
    let copies = same_from_place (b * n + c) r (bank * n + copy) row n u q rows.0 in
    let banks = same_from_place b c bank copy n t p copies.0 in (banks.0, banks.1, copies.1, rows.1)

-- an index of a table, below the greatest that there is
pub below : (n w v copy row column : ℕ) → n ≤ 16 → w ≤ 8 → v < 2 ^ 8 → copy < n → row < n → column < columns_of n w
    → word_index_of n w v copy row column < 2 ^ 64
below n w v copy row column few slots small p q r =
    let within = word_index_within n w 256 v copy row column (omega arith) p q r in
    let banks = mul-le (256 * n) n 4096 16 (omega arith) few in
    let table = mul-le (256 * n * n) (columns_of n w) 65536 174 banks (omega arith) in omega (arith, within, table)
