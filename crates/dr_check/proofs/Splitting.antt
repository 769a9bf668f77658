-- Fields, one by one.
use Rattle.std.{specs.Fmt.{decimal, digit_glyph}, proofs.lemmas.Fmt.decimal_by_steps}
use Rattle.std.{specs.List.{flat_map, position_or_len}, proofs.lemmas.{Bool.cases_lt, List.Sums.fails_before_first}}
use Rattle.std.proofs.Common.{◌≡◌, ◌⊎◌, inl, inr, refl, sym, ap, ◌∙◌, ℕ, suc, ◌+◌, ◌<◌, ◌≤◌, ◌/◌, ◌%◌, ◌^◌, codes, arith, false, List, [], ◌∷◌, ◌++◌, All, length, take, drop, get_or}
use Rattle.std.proofs.lemmas.List.{drop_all, take_all, Splits.{slice_split_first, slice_split_none, slice_split_at}}
use Rattle.std.proofs.lemmas.List.Elements.{All-append, All-cons, All-head, All-nil, All-tail, Contains-get_or}
use Rattle.dr_entry.proofs.{ListFacts.{none_at, joined}, NumberFacts.glyph_high}
use Rattle.dr_history.{specs.Members.members_of, proofs.MemberLemmas.members_of-lt}
use Rattle.dr_text.specs.Report.{hex_text, mask_text, message_text}
use Rattle.dr_check.specs.Fields.{field, fields, is_end}

-- bytes without an end are one field
alone : (bytes : List ℕ) → length bytes ≤ position_or_len is_end bytes → fields bytes ≡ bytes ∷ []
alone bytes past = slice_split_none is_end bytes
    (λ k d within. fails_before_first is_end bytes k d (omega (arith, within, past)))

split : (bytes : List ℕ) → (position_or_len is_end bytes < length bytes)
    ⊎ (length bytes ≤ position_or_len is_end bytes)
split bytes = cases_lt (position_or_len is_end bytes) (length bytes)

-- the first one
pub field_first : (bytes : List ℕ) → field bytes 0 ≡ take (position_or_len is_end bytes) bytes
field_first bytes = by (split bytes)
  where
    by : (position_or_len is_end bytes < length bytes) ⊎ (length bytes ≤ position_or_len is_end bytes)
        → field bytes 0 ≡ take (position_or_len is_end bytes) bytes
    by (inl less) = ap (λ fs. get_or fs 0 []) (slice_split_first is_end bytes 0 less)
    by (inr past) = ap (λ fs. get_or fs 0 []) (alone bytes past)
        ∙ sym (take_all (position_or_len is_end bytes) bytes past)

-- those behind it
pub field_behind : (bytes : List ℕ) (k : ℕ)
    → field bytes (suc k) ≡ field (drop (position_or_len is_end bytes + 1) bytes) k
field_behind bytes k = by (split bytes)
  where
    by : (position_or_len is_end bytes < length bytes) ⊎ (length bytes ≤ position_or_len is_end bytes)
        → field bytes (suc k) ≡ field (drop (position_or_len is_end bytes + 1) bytes) k
    by (inl less) = ap (λ fs. get_or fs (suc k) []) (slice_split_first is_end bytes 0 less)
    by (inr past) =
        let none = drop_all (position_or_len is_end bytes + 1) bytes (omega (arith, past)) in
        ap (λ fs. get_or fs (suc k) []) (alone bytes past) ∙ (sym (none_at k) ∙ ap (λ bs. field bs k) (sym none))

-- no byte ends a field
abbrev pub IsPlain : List ℕ → Type 0
IsPlain bytes = All (λ b. is_end b ≡ false) bytes

-- a field before a blank, and one before the line feed
pub next_field : (word rest : List ℕ) → IsPlain word → fields (word ++ 32 ∷ rest) ≡ word ∷ fields rest
next_field word rest plain = slice_split_at is_end word 32 rest plain refl

pub last_field : (word rest : List ℕ) → IsPlain word → fields (word ++ 10 ∷ rest) ≡ word ∷ fields rest
last_field word rest plain = slice_split_at is_end word 10 rest plain refl

-- digits are plain
not_end : (b : ℕ) → 33 ≤ b → is_end b ≡ false
not_end b above = grind (arith, above)

plain_digit : (b : ℕ) → 33 ≤ b → IsPlain (b ∷ [])
plain_digit b above = All-cons (λ b. is_end b ≡ false) b [] (not_end b above) (All-nil (λ b. is_end b ≡ false))

pub plain_decimal : (n : ℕ) → n < 2 ^ 64 → IsPlain (decimal n)
plain_decimal n small = decimal_by_steps (λ n ds. IsPlain ds) (λ n less. plain_digit (48 + n) (omega arith))
    (λ n ds least before. All-append (λ b. is_end b ≡ false) ds ((48 + n % 10) ∷ []) before
    (plain_digit (48 + n % 10) (omega arith))) n small

pub plain_hex : (bytes : List ℕ) → IsPlain (flat_map hex_text bytes)
plain_hex [] = All-nil (λ b. is_end b ≡ false)
plain_hex (byte ∷ bytes) = All-append (λ b. is_end b ≡ false) (hex_text byte) (flat_map hex_text bytes)
    (All-cons (λ b. is_end b ≡ false) (digit_glyph false (byte / 16)) (digit_glyph false (byte % 16) ∷ [])
    (not_end (digit_glyph false (byte / 16)) (glyph_high (byte / 16)))
    (plain_digit (digit_glyph false (byte % 16)) (glyph_high (byte % 16)))) (plain_hex bytes)

pub plain_message : (bytes : List ℕ) → IsPlain (message_text bytes)
plain_message [] = plain_digit 45 (omega arith)
plain_message (byte ∷ bytes) = plain_hex (byte ∷ bytes)

more_plain : (ms : List ℕ) → All (λ m. m < 16) ms → IsPlain (flat_map (λ m. codes "," ++ decimal m) ms)
more_plain [] small = All-nil (λ b. is_end b ≡ false)
more_plain (m ∷ ms) small =
    All-append (λ b. is_end b ≡ false) (codes "," ++ decimal m) (flat_map (λ m. codes "," ++ decimal m) ms)
    (All-append (λ b. is_end b ≡ false) (codes ",") (decimal m) (plain_digit 44 (omega arith))
    (plain_decimal m (omega (arith, All-head (λ m. m < 16) m ms small))))
    (more_plain ms (All-tail (λ m. m < 16) m ms small))

pub plain_joined : (ms : List ℕ) → All (λ m. m < 16) ms → IsPlain (joined ms)
plain_joined [] small = All-nil (λ b. is_end b ≡ false)
plain_joined (m ∷ ms) small =
    All-append (λ b. is_end b ≡ false) (decimal m) (flat_map (λ m. codes "," ++ decimal m) ms)
    (plain_decimal m (omega (arith, All-head (λ m. m < 16) m ms small)))
    (more_plain ms (All-tail (λ m. m < 16) m ms small))

pub plain_mask : (mask : ℕ) → IsPlain (mask_text mask)
plain_mask mask = plain_joined (members_of mask)
    (λ k d within. members_of-lt mask (get_or (members_of mask) k d) (Contains-get_or (members_of mask) k d within))
