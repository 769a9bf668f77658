-- Bytes that stand in quotes as they are.
use Rattle.std.{specs.{List.{flat_map, list_any}, Str.IsAscii}, proofs.lemmas.List.Elements.All-tail}
use Rattle.std.proofs.Common.{◌≡◌, refl, ap, ℕ, ◌≤◌, ◌==◌, ◌||◌, true, false, nat_le, List, [], ◌∷◌, ◌++◌, All, arith}
use Rattle.std.proofs.lemmas.{Bool.{and_parts, not-true, leb-true, lt-leb}, List.Folds.list_any-append}
use Rattle.std.proofs.lemmas.Str.{IsUtf8-from_ascii, chars-IsAscii, IsAscii-append, Ascii.{IsAscii-cons, IsAscii-nil}}
use Rattle.dr_quote.specs.Quote.{escaped, is_clear, is_hidden, is_plain, message_text, quoted}
use Rattle.dr_quote.proofs.Texts.{shown_clear}

-- each of these bytes stands in quotes as it is
abbrev ArePlain : List ℕ → Type 0
ArePlain bytes = All (λ byte. is_plain byte ≡ true) bytes

-- the range of a plain byte
plain_parts : (b : ℕ) → is_plain b ≡ true → (32 ≤ b) × (b ≤ 126) × (((b == 34) || (b == 92)) ≡ false)
plain_parts b plain =
    let one = and_parts (nat_le 32 b) _ plain in
    let two = and_parts (nat_le b 126) _ one.1 in (leb-true 32 b one.0, leb-true b 126 two.0, not-true _ two.1)

head_plain : (b : ℕ) (bs : List ℕ) → ArePlain (b ∷ bs) → is_plain b ≡ true
head_plain b bs plain = plain 0 b (omega arith)

tail_plain : (b : ℕ) (bs : List ℕ) → ArePlain (b ∷ bs) → ArePlain bs
tail_plain b bs plain = All-tail (λ byte. is_plain byte ≡ true) b bs plain

-- they are ASCII
pub plain_ascii : (bs : List ℕ) → ArePlain bs → IsAscii bs
plain_ascii [] plain = IsAscii-nil
plain_ascii (b ∷ bs) plain = IsAscii-cons b bs (omega (arith, (plain_parts b (head_plain b bs plain)).1))
    (plain_ascii bs (tail_plain b bs plain))

-- none gets a backslash before it
plain_escaped : (bs : List ℕ) → ArePlain bs → flat_map escaped bs ≡ bs
plain_escaped [] plain = refl
plain_escaped (b ∷ bs) plain =
    rw ((plain_parts b (head_plain b bs plain)).2, plain_escaped bs (tail_plain b bs plain)) refl

-- each of them can be seen
plain_seen : (b : ℕ) → is_plain b ≡ true → is_hidden b ≡ false
plain_seen b plain =
    let parts = plain_parts b plain in
    rw (
      lt-leb b 31 (omega (arith, parts.0)),
      lt-leb 127 b (omega (arith, parts.1)),
      lt-leb 173 b (omega (arith, parts.1)),
      lt-leb 1564 b (omega (arith, parts.1)),
      lt-leb 6158 b (omega (arith, parts.1)),
      lt-leb 8192 b (omega (arith, parts.1)),
      lt-leb 8232 b (omega (arith, parts.1)),
      lt-leb 8287 b (omega (arith, parts.1)),
      lt-leb 12288 b (omega (arith, parts.1)),
      lt-leb 65279 b (omega (arith, parts.1)),
      lt-leb 917504 b (omega (arith, parts.1)),
    ) refl

all_seen : (bs : List ℕ) → ArePlain bs → list_any is_hidden bs ≡ false
all_seen [] plain = refl
all_seen (b ∷ bs) plain = rw (plain_seen b (head_plain b bs plain), all_seen bs (tail_plain b bs plain)) refl

-- such bytes in quotes
pub plain_quoted : (bs : List ℕ) → ArePlain bs → quoted bs ≡ 34 ∷ (bs ++ 34 ∷ [])
plain_quoted bs plain = ap (λ xs. 34 ∷ (xs ++ 34 ∷ [])) (plain_escaped bs plain)

quotes_ascii : (bs : List ℕ) → ArePlain bs → IsAscii (34 ∷ (bs ++ 34 ∷ []))
quotes_ascii bs plain = IsAscii-cons 34 (bs ++ 34 ∷ []) (omega arith)
    (IsAscii-append bs (34 ∷ []) (plain_ascii bs plain) (IsAscii-cons 34 [] (omega arith) IsAscii-nil))

quotes_clear : (bs : List ℕ) → ArePlain bs → is_clear (34 ∷ (bs ++ 34 ∷ [])) ≡ true
quotes_clear bs plain = rw (
  chars-IsAscii (34 ∷ (bs ++ 34 ∷ [])) (quotes_ascii bs plain),
  list_any-append is_hidden bs (34 ∷ []),
  all_seen bs plain,
) refl

-- a message of such bytes
pub plain_message : (bs : List ℕ) → ArePlain bs → message_text bs ≡ 34 ∷ (bs ++ 34 ∷ [])
plain_message bs plain = rw (
  plain_quoted bs plain,
  shown_clear (34 ∷ (bs ++ 34 ∷ [])) (IsUtf8-from_ascii _ (quotes_ascii bs plain)) (quotes_clear bs plain),
) refl
