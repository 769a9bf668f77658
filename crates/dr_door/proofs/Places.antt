-- Whose copy a place of the table is in.
use Rattle.std.proofs.{Common.{◌≡◌, ◌∙◌, ap, ℕ, ◌+◌, ◌*◌, ◌/◌, ◌%◌, ◌<◌}, lemmas.Nat.{div-mul-add, mod-mul-add}}
use Rattle.dr_words.specs.{Columns.columns_of, Layout.word_index_of}
use Rattle.dr_door.specs.Coming.{copy_of}

pub copy_found : (n w view copy row column index : ℕ) → copy < n → row < n → column < columns_of n w
    → index ≡ word_index_of n w view copy row column → copy_of n w index ≡ copy
copy_found n w view copy row column index p q s at = ap (λ x. x / columns_of n w / n % n) at
    ∙ ap (λ x. x / n % n) (div-mul-add ((view * n + copy) * n + row) (columns_of n w) column s)
    ∙ ap (λ x. x % n) (div-mul-add (view * n + copy) n row q) ∙ mod-mul-add view n copy p
