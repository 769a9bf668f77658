-- What words write: numbers in decimal, keys in hexadecimal, and lists of members.
use Rattle.std.specs.{List.slice_split, Option.option_and_then}
use Rattle.std.specs.Prelude.{ℕ, ◌+◌, ◌*◌, ◌-◌, ◌^◌, ◌==◌, ◌&&◌, Bool, true, false, not, nat_le, nat_lt, if◌then◌else◌, List, [], ◌∷◌, length, Option, None, Some}
use Rattle.dr_entry.specs.declared.limits.TheConstants.{MAX_MEMBERS}
use Rattle.dr_words.specs.Masks.{with_member}

-- whether a byte is a decimal digit
abbrev pub is_digit : ℕ → Bool
is_digit c = nat_le 48 c && nat_le c 57

-- the number that digits write behind those of n: none where some byte is no digit
abbrev pub number_from : ℕ → List ℕ → Option ℕ
number_from n [] = Some n
number_from n (c ∷ w) = if is_digit c then number_from (10 * n + (c - 48)) w else None

-- a number has a digit, and none but 0 begins with a zero
abbrev pub is_plain : List ℕ → Bool
is_plain [] = false
is_plain (c ∷ []) = true
is_plain (c ∷ d ∷ w) = not (c == 48)

-- the number, where it is one of 64 bits
abbrev pub if_fits : Option ℕ → Option ℕ
if_fits None = None
if_fits (Some n) = if nat_lt n (2 ^ 64) then Some n else None

-- the number that a word writes, in decimal without leading zeros
abbrev pub number_word : List ℕ → Option ℕ
number_word w = if is_plain w then if_fits (number_from 0 w) else None

-- the value of a hexadecimal digit, of lower case
abbrev pub hex_digit : ℕ → Option ℕ
hex_digit c =
    if is_digit c then Some (c - 48) else (if nat_le 97 c && nat_le c 102 then Some (c - 87) else None)

-- the byte of two digits before these bytes
abbrev pub hex_byte : Option ℕ → Option ℕ → Option (List ℕ) → Option (List ℕ)
hex_byte (Some x) (Some y) (Some bytes) = Some ((16 * x + y) ∷ bytes)
hex_byte x y bytes = None

-- the bytes that pairs of hexadecimal digits write
abbrev pub hex_bytes : List ℕ → Option (List ℕ)
hex_bytes [] = Some []
hex_bytes (a ∷ []) = None
hex_bytes (a ∷ b ∷ w) = hex_byte (hex_digit a) (hex_digit b) (hex_bytes w)

-- the key that a word writes in hexadecimal: it has 1 to 62 bytes
abbrev pub key_word : List ℕ → Option (List ℕ)
key_word w = if nat_le 2 (length w) && nat_le (length w) 124 then hex_bytes w else None

-- the number of a member that a word writes, where it is no lower than `least`
abbrev pub member_word : ℕ → List ℕ → Option ℕ
member_word least w =
    option_and_then (λ n. if nat_le least n && nat_lt n MAX_MEMBERS then Some n else None) (number_word w)

-- the mask with the members too that words write, in ascending order from `least` on
abbrev pub with_words : ℕ → ℕ → List (List ℕ) → Option ℕ
with_words mask least [] = Some mask
with_words mask least (w ∷ words) =
    option_and_then (λ n. with_words (with_member mask n) (n + 1) words) (member_word least w)

-- the mask of the members that a word writes: the number of at least one, in ascending order, with commas
-- between them
abbrev pub mask_word : List ℕ → Option ℕ
mask_word w = with_words 0 0 (slice_split (λ byte. byte == 44) w)
