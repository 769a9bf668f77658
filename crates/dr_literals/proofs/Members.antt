-- Lists of members, number by number.
use Rattle.std.specs.{Option.option_and_then, Prelude.{Option, None, Some}}
use Rattle.std.proofs.Common.{◌≡◌, ℕ, ◌+◌, ◌<◌, ◌≤◌, List, ◌∷◌, length, drop, get_or, ap, sym, ◌∙◌}
use Rattle.std.proofs.lemmas.List.{drop_all, drop_more}
use Rattle.dr_words.specs.Masks.{with_member}
use Rattle.dr_literals.specs.Literals.{member_word, with_words}

-- what the words from a place on make, by what the word there writes
by_word : (mask least i : ℕ) (w : List ℕ) (words : List (List ℕ)) (n : Option ℕ) → i < length words
    → w ≡ get_or words i w → n ≡ member_word least w → with_words mask least (drop i words)
    ≡ option_and_then (λ k. with_words (with_member mask k) (k + 1) (drop (i + 1) words)) n
by_word mask least i w words n within here is = ap (with_words mask least) (drop_more words i w within)
    ∙ ap (λ x. with_words mask least (x ∷ drop (i + 1) words)) (sym here)
    ∙ ap (option_and_then (λ k. with_words (with_member mask k) (k + 1) (drop (i + 1) words))) (sym is)

-- one member more
pub member_more : (mask more least i n : ℕ) (w : List ℕ) (words : List (List ℕ)) → i < length words
    → w ≡ get_or words i w → Some n ≡ member_word least w → more ≡ with_member mask n
    → with_words mask least (drop i words) ≡ with_words more (n + 1) (drop (i + 1) words)
member_more mask more least i n w words within here is grown = by_word mask least i w words (Some n) within here is
    ∙ ap (λ k. with_words k (n + 1) (drop (i + 1) words)) (sym grown)

-- a word that writes none leaves no mask
pub no_member : (mask least i : ℕ) (w : List ℕ) (words : List (List ℕ)) → i < length words
    → w ≡ get_or words i w → None ≡ member_word least w → with_words mask least (drop i words) ≡ None
no_member mask least i w words within here is = by_word mask least i w words None within here is

-- behind the last word
pub all_members : (mask least i : ℕ) (words : List (List ℕ)) → length words ≤ i
    → with_words mask least (drop i words) ≡ Some mask
all_members mask least i words past = ap (with_words mask least) (drop_all i words past)
