-- The kit's words for hexadecimal text, and those of the report.
use Rattle.std.{specs.Fmt.digit_glyph, proofs.lemmas.List.{flat_map_more, length-set, take_more, take_more_set}}
use Rattle.std.{specs.{List.flat_map, Str.IsAscii}, proofs.lemmas.Bool.{and_parts, cases_lt, eqb-true}}
use Rattle.std.proofs.Common.{◌≡◌, ℕ, zero, suc, ◌+◌, ◌*◌, ◌/◌, ◌%◌, ◌<◌, ◌==◌, ◌&&◌, Bool, true, inl, inr, false, List, [], ◌∷◌, ◌++◌, append_assoc, length, set, take, slice_index, refl, sym, ap, ap₂, ◌∙◌, arith, Ok, codes, Err}
use Rattle.hex.specs.Hex.{IsBytes, encode_with, encode_lower, lower_digits, decode_of}
use Rattle.hex.specs.declared.error.FromHexError.{FromHexError}
use Rattle.hex.proofs.HexLemmas.{IsAscii-encode_with, decode_of-encode_lower}
use Rattle.dr_entry.{specs.Messages.IsMessage, proofs.Texts.ascii_from_all}
use Rattle.dr_text.{specs.Report.{hex_text, message_text}, proofs.Hexes.are_bytes}

-- the first n of the kit's digits are those of the report
abbrev same_digits : ℕ → Bool
same_digits zero = true
same_digits (suc n) = (slice_index lower_digits n == digit_glyph false n) && same_digits n

-- a digit below n is the same
same_digit : (n d : ℕ) → same_digits n ≡ true → d < n → slice_index lower_digits d ≡ digit_glyph false d
same_digit zero d h below = absurd (omega arith)
same_digit (suc n) d h below =
    let parts = and_parts (slice_index lower_digits n == digit_glyph false n) (same_digits n) h in
    elim (cases_lt d n) [
      | inl less ↦ same_digit n d parts.1 less
      | inr top ↦
          let e : d ≡ n = omega arith in rw e (eqb-true (slice_index lower_digits n) (digit_glyph false n) parts.0)
    ]

-- the kit's hexadecimal text is that of the report
pub encoded_text : (bytes : List ℕ) → IsBytes bytes → encode_lower bytes ≡ flat_map hex_text bytes
unfolding encode_with
encoded_text [] h = refl
encoded_text (b ∷ rest) h =
    let low : b < 256 = h 0 in
    let high_digit = same_digit 16 (b / 16) refl (omega arith) in
    let low_digit = same_digit 16 (b % 16) refl (omega arith) in
    rw (high_digit, low_digit, encoded_text rest (λ i. h (suc i))) refl

-- the kit's hexadecimal text is ASCII
pub encoded_ascii : (bytes : List ℕ) → IsAscii (encode_lower bytes)
encoded_ascii bytes = IsAscii-encode_with lower_digits bytes (ascii_from_all lower_digits refl)

-- the text of one byte more, in two writes
pub two_more : (into bytes : List ℕ) (i h l : ℕ) → length into ≡ 2 * length bytes → i < length bytes
    → h ≡ digit_glyph false (slice_index bytes i / 16) → l ≡ digit_glyph false (slice_index bytes i % 16)
    → take (2 * i) into ≡ flat_map hex_text (take i bytes)
    → take (2 * (i + 1)) (set (set into (2 * i) h) (2 * i + 1) l) ≡ flat_map hex_text (take (i + 1) bytes)
two_more into bytes i h l long within high low so = ap (λ n. take n (set (set into (2 * i) h) (2 * i + 1) l)) two
    ∙ take_more_set (set into (2 * i) h) (2 * i + 1) l (omega (arith, long, length-set into (2 * i) h, within))
    ∙ ap (λ xs. xs ++ l ∷ []) (take_more_set into (2 * i) h (omega (arith, long, within))
    ∙ ap (λ xs. xs ++ h ∷ []) so) ∙ append_assoc (flat_map hex_text (take i bytes)) (h ∷ []) (l ∷ [])
    ∙ ap₂ (λ (a b : ℕ). flat_map hex_text (take i bytes) ++ a ∷ b ∷ []) high low ∙ flat_map_more hex_text []
    (take i bytes) (slice_index bytes i) ∙ ap (flat_map hex_text) (sym (take_more bytes i 0 within))
  where
    two : 2 * (i + 1) ≡ 2 * i + 1 + 1
    two = omega arith

pub decoded : (bytes : List ℕ) → IsMessage bytes → decode_of (flat_map hex_text bytes) ≡ Ok bytes
decoded bytes is = ap decode_of (sym (encoded_text bytes (are_bytes bytes is)))
    ∙ decode_of-encode_lower bytes (are_bytes bytes is)

-- what was decoded of the text of a message is the message
pub ok_message : (bytes items word : List ℕ) → IsMessage bytes → word ≡ message_text bytes → decode_of word ≡ Ok items
    → items ≡ bytes
ok_message [] items word is same ok =
    let bad : decode_of word ≡ decode_of (codes "-") = ap decode_of same in absurd (cc)
ok_message (b ∷ bs) items word is same ok =
    let good : Ok items ≡ Ok (b ∷ bs) = sym ok ∙ (ap decode_of same ∙ decoded (b ∷ bs) is) in cc

-- and where nothing was, it is empty
pub err_message : (bytes word : List ℕ) (e : FromHexError) → IsMessage bytes → word ≡ message_text bytes
    → decode_of word ≡ Err e → [] ≡ bytes
err_message [] word e is same err = refl
err_message (b ∷ bs) word e is same err =
    let good : decode_of word ≡ Ok (b ∷ bs) = ap decode_of same ∙ decoded (b ∷ bs) is in absurd (cc)

pub same_message : (b c : List ℕ) → IsMessage b → IsMessage c → message_text b ≡ message_text c → b ≡ c
same_message [] [] is also same = refl
same_message [] (y ∷ c) is also same =
    let bad : decode_of (codes "-") ≡ Ok (y ∷ c) = ap decode_of same ∙ decoded (y ∷ c) also in absurd (cc)
same_message (x ∷ b) [] is also same =
    let bad : decode_of (codes "-") ≡ Ok (x ∷ b) = ap decode_of (sym same) ∙ decoded (x ∷ b) is in absurd (cc)
same_message (x ∷ b) (y ∷ c) is also same =
    let good : Ok (x ∷ b) ≡ Ok (y ∷ c) = sym (decoded (x ∷ b) is) ∙ (ap decode_of same ∙ decoded (y ∷ c) also) in cc
