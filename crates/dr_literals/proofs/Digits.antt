-- Numbers and keys, digit by digit.
use Rattle.std.specs.Prelude.{Option, None, Some, option_map}
use Rattle.std.proofs.Common.{◌≡◌, ℕ, ◌+◌, ◌*◌, ◌-◌, ◌^◌, ◌<◌, ◌≤◌, Bool, true, false, cond, ltb, List, [], ◌∷◌, ◌++◌, length, take, drop, refl, ap, sym, ◌∙◌, arith, append_assoc, get_or}
use Rattle.std.proofs.lemmas.{Bool.{lt-ltb, ltb-true}, List.{drop_all, drop_more}}
use Rattle.dr_literals.specs.Literals.{if_fits, hex_byte, hex_bytes, hex_digit, is_digit, is_plain, number_from, number_word}

-- a number that has come to the limit is above it with more digits
pub too_great : (n : ℕ) (w : List ℕ) → 2 ^ 64 ≤ n → if_fits (number_from n w) ≡ None
too_great n [] great = elim (ltb n (2 ^ 64)) as (λ b. ltb n (2 ^ 64) ≡ b → cond b (Some n) None ≡ None) [
  | true ↦ λ less. absurd (omega (arith, ltb-true n (2 ^ 64) less))
  | false ↦ λ _. refl
] refl
too_great n (c ∷ w) great =
    elim (is_digit c) as (λ b. if_fits (cond b (number_from (10 * n + (c - 48)) w) None) ≡ None) [
      | true ↦ too_great (10 * n + (c - 48)) w (omega arith)
      | false ↦ refl
    ]

-- a digit that can't be put behind the number leaves no number
pub no_more : (n c : ℕ) (w : List ℕ) → (is_digit c ≡ true → 2 ^ 64 ≤ 10 * n + (c - 48))
    → if_fits (number_from n (c ∷ w)) ≡ None
no_more n c w great =
    elim (is_digit c) as (λ b. is_digit c ≡ b → if_fits (cond b (number_from (10 * n + (c - 48)) w) None) ≡ None) [
      | true ↦ λ is. too_great (10 * n + (c - 48)) w (omega (arith, great is))
      | false ↦ λ _. refl
    ] refl

-- one more byte of a key
pub byte_more : (xs : List ℕ) (x y : Option ℕ) (b : ℕ) (rest : Option (List ℕ)) → hex_byte x y (Some []) ≡ Some (b
    ∷ []) → option_map (λ ys. xs ++ ys) (hex_byte x y rest) ≡ option_map (λ ys. (xs ++ b ∷ []) ++ ys) rest
byte_more xs None y b rest is = absurd (cc is)
byte_more xs (Some x) None b rest is = absurd (cc is)
byte_more xs (Some x) (Some y) b None is = refl
byte_more xs (Some x) (Some y) b (Some ys) is =
    ap Some (ap (λ z. xs ++ z ∷ ys) same ∙ sym (append_assoc xs (b ∷ []) ys))
  where
    same : 16 * x + y ≡ b
    same = cc is

-- the digits as a pair and the others
pub paired : (left : List ℕ) → 1 < length left → hex_bytes left
    ≡ hex_byte (hex_digit (get_or (take 2 left) 0 0)) (hex_digit (get_or (take 2 left) 1 0)) (hex_bytes (drop 2 left))
paired [] two = absurd (omega (arith, two))
paired (a ∷ []) two = absurd (omega (arith, two))
paired (a ∷ b ∷ w) two = refl

-- a pair of digits more
pub key_more : (word left key pair rest longer : List ℕ) (b : ℕ) → hex_bytes word ≡ option_map (λ ys. key
    ++ ys) (hex_bytes left) → 1 < length left → pair ≡ take 2 left → rest ≡ drop 2 left
    → Some (b ∷ []) ≡ hex_byte (hex_digit (get_or pair 0 0)) (hex_digit (get_or pair 1 0)) (Some [])
    → longer ≡ key ++ b ∷ [] → hex_bytes word ≡ option_map (λ ys. longer ++ ys) (hex_bytes rest)
key_more word left key pair rest longer b so_far two front back byte more =
    so_far ∙ ap (option_map (λ ys. key ++ ys)) (paired left two ∙ ap (λ p. hex_byte (hex_digit (get_or p 0 0))
    (hex_digit (get_or p 1 0)) (hex_bytes (drop 2 left))) (sym front))
    ∙ byte_more key (hex_digit (get_or pair 0 0)) (hex_digit (get_or pair 1 0)) b (hex_bytes (drop 2 left)) (sym byte)
    ∙ ap (λ w. option_map (λ ys. (key ++ b ∷ []) ++ ys) (hex_bytes w)) (sym back)
    ∙ ap (λ k. option_map (λ ys. k ++ ys) (hex_bytes rest)) (sym more)

-- where a digit can't be put behind the others, the word writes no number
pub number_none : (word digits : List ℕ) (n i : ℕ) → digits ≡ word
    → number_from 0 digits ≡ number_from n (drop i digits) → i < length digits
    → (is_digit (get_or digits i 0) ≡ true → 2 ^ 64 ≤ 10 * n + (get_or digits i 0 - 48)) → number_word word ≡ None
number_none word digits n i same so_far within great = either (is_plain word) (ap (λ w. if_fits (number_from 0 w))
    (sym same) ∙ ap if_fits (so_far ∙ ap (number_from n) (drop_more digits i 0 within))
    ∙ no_more n (get_or digits i 0) (drop (i + 1) digits) great)
  where
    either : (b : Bool) → if_fits (number_from 0 word) ≡ None → cond b (if_fits (number_from 0 word)) None ≡ None
    either true e = e
    either false e = refl

-- where all digits are behind one another, the word writes their number
pub number_some : (word digits : List ℕ) (n i : ℕ) → n < 2 ^ 64 → is_plain word ≡ true → digits ≡ word
    → number_from 0 digits ≡ number_from n (drop i digits) → length digits ≤ i → number_word word ≡ Some n
number_some word digits n i fits plain same so_far all = ap (λ b. cond b (if_fits (number_from 0 word)) None) plain
    ∙ ap (λ w. if_fits (number_from 0 w)) (sym same) ∙ ap if_fits
    (so_far ∙ ap (number_from n) (drop_all i digits all)) ∙ ap (λ b. cond b (Some n) None) (lt-ltb n (2 ^ 64) fits)
