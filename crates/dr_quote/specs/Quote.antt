-- A message in quotes, or in hexadecimal.
use Rattle.std.specs.{List.{flat_map, list_any}, Str.{chars, is_utf8}}
use Rattle.std.specs.Prelude.{ℕ, ◌==◌, ◌&&◌, ◌||◌, not, nat_le, if◌then◌else◌, Bool, List, [], ◌∷◌, ◌++◌}
use Rattle.dr_text.specs.Report.{hex_text}

-- a printable byte of ASCII, but for the quote and the backslash: it stands in quotes as it is
abbrev pub is_plain : ℕ → Bool
is_plain byte = nat_le 32 byte && (nat_le byte 126 && not ((byte == 34) || (byte == 92)))

-- the bytes of a message in quotes, with a backslash before each quote and each backslash
abbrev pub escaped : ℕ → List ℕ
escaped byte = if (byte == 34) || (byte == 92) then 92 ∷ byte ∷ [] else byte ∷ []

abbrev pub quoted : List ℕ → List ℕ
quoted bytes = 34 ∷ (flat_map escaped bytes ++ 34 ∷ [])

-- a character from one to another
abbrev pub is_within : ℕ → ℕ → ℕ → Bool
is_within low high c = nat_le low c && nat_le c high

-- a character can't be seen, or isn't what it looks like: a control character, one that has no width or turns
-- the direction of others, or a blank other than that of ASCII
abbrev pub is_hidden : ℕ → Bool
is_hidden c = nat_le c 31 || (is_within 127 160 c || (is_within 173 173 c || (is_within 1564 1564 c
    || (is_within 6158 6158 c || (is_within 8192 8207 c || (is_within 8232 8239 c || (is_within 8287 8303 c
    || (is_within 12288 12288 c || (is_within 65279 65279 c || is_within 917504 921599 c)))))))))

-- a text can be shown as it is: it is UTF-8, and each of its characters can be seen
abbrev pub is_clear : List ℕ → Bool
is_clear text = not (list_any is_hidden (chars text))

abbrev pub can_be_shown : List ℕ → Bool
can_be_shown text = is_utf8 text && is_clear text

-- a message in quotes where it can be shown so, and else in hexadecimal
abbrev pub message_text : List ℕ → List ℕ
message_text bytes = if can_be_shown (quoted bytes) then quoted bytes else flat_map hex_text bytes
