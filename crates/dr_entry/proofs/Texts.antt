-- Facts of texts and of their bytes.
use Rattle.std.specs.{Bool.MatchBool, Fmt.{decimal, digits}, Str.{IsAscii, IsUtf8, is_utf8, IsNotAscii, chars}}
use Rattle.std.proofs.Common.{◌≡◌, ℕ, nat_lt, true, List, [], ◌∷◌, false, inl, inr, refl, ◌<◌, ◌∙◌, sym, ap, Bool, true≢false, length}
use Rattle.std.proofs.lemmas.{Bool.{and_parts, ltb-true, cases_Bool}, Str.{IsUtf8-from_is_utf8, chars-IsAscii}}
use Rattle.std.proofs.lemmas.Str.Ascii.{IsAscii-nil, IsAscii-cons}
use Rattle.dr_entry.proofs.{ListFacts.{all_ascii, is_free}, OptionFacts.free_below}

-- bytes below 128 are ASCII
pub ascii_from_all : (bs : List ℕ) → all_ascii bs ≡ true → IsAscii bs
ascii_from_all [] h = IsAscii-nil
ascii_from_all (b ∷ bs) h =
    let parts = and_parts (nat_lt b 128) (all_ascii bs) h in
    IsAscii-cons b bs (ltb-true b 128 parts.0) (ascii_from_all bs parts.1)

pub no_text : (bytes : List ℕ) → (IsUtf8 bytes → ⊥) → is_utf8 bytes ≡ false
no_text bytes none = elim (cases_Bool (is_utf8 bytes)) [
  | inl some ↦ absurd (none (IsUtf8-from_is_utf8 bytes some))
  | inr other ↦ other
]

-- so have those of members
pub free_number : (n : ℕ) → n < 16 → is_free (decimal n) ≡ true
unfolding digits
free_number n l = free_below 16 n refl l

-- the width of a text that a test found to be ASCII
pub ascii_width : (r : Bool) (text : List ℕ) (n : ℕ) → MatchBool r (IsAscii text) (IsNotAscii text) → r ≡ true
    → n ≡ length text → n ≡ length (chars text)
ascii_width true text n ascii is len = len ∙ ap length (sym (chars-IsAscii text ascii))
ascii_width false text n other is len = absurd (true≢false (sym is))
