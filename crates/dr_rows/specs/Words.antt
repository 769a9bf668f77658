-- What `Rows` is to its callers: the words that one member has, and sees of the others.
use Rattle.std.specs.List.{range_with_len}
use Rattle.std.specs.Prelude.{◌≡◌, ℕ, ◌<◌, ◌≤◌, ◌==◌, Bool, true, false, not, List, [], All, length, map, replicate, slice_index, slice_index_or, slice_set}
use Rattle.dr_entry.specs.declared.limits.TheConstants.{MAX_MEMBERS}

-- the numbers of members and of columns, the own member, and by member the row of words (the own row has
-- the own words),
-- the words that were last pushed to that member, and whether its row is frozen
pub record Words : Type 0 where
  pub members : ℕ
  pub columns : ℕ
  pub me : ℕ
  pub words : List (List ℕ)
  pub sent : List (List ℕ)
  pub frozen : List Bool

-- the row of a member
abbrev pub row_of : List (List ℕ) → ℕ → List ℕ
row_of rows i = slice_index_or rows i []

-- the word of a row and a column
abbrev pub word_at : List (List ℕ) → ℕ → ℕ → ℕ
word_at rows i c = slice_index (row_of rows i) c

-- the rows with this word at a row and a column
abbrev pub with_word : List (List ℕ) → ℕ → ℕ → ℕ → List (List ℕ)
with_word rows i c v = slice_set rows i (slice_set (row_of rows i) c v)

-- the seen word of a row, which is the own word in the own row
abbrev pub seen : Words → ℕ → ℕ → ℕ
seen w i c = word_at w.words i c

-- the own word
abbrev pub own : Words → ℕ → ℕ
own w c = seen w w.me c

-- the own word that was last pushed to a member
abbrev pub last_pushed : Words → ℕ → ℕ → ℕ
last_pushed w j c = word_at w.sent j c

-- the own word differs from the one that was last pushed to the member
abbrev pub changed : Words → ℕ → ℕ → Bool
changed w j c = not (own w c == last_pushed w j c)

-- the row of a member is frozen
abbrev pub is_frozen : Words → ℕ → Bool
is_frozen w i = slice_index_or w.frozen i false

-- the words after a look that saw this word
abbrev pub looked : Words → ℕ → ℕ → ℕ → Words
looked w i c v = record w { words = with_word w.words i c v }

-- the words with this own word
abbrev pub with_own : Words → ℕ → ℕ → Words
with_own w c v = looked w w.me c v

-- the words of which each own one is made of the one before, by its column
abbrev pub rewritten : Words → (ℕ → ℕ → ℕ) → Words
rewritten w make =
    record w { words = slice_set w.words w.me (map (λ c. make c (own w c)) (range_with_len 0 w.columns)) }

-- the words after a push of an own word to a member
abbrev pub pushed : Words → ℕ → ℕ → Words
pushed w j c = record w { sent = with_word w.sent j c (own w c) }

-- the words with the row of a member frozen
abbrev pub with_frozen : Words → ℕ → Words
with_frozen w i = record w { frozen = slice_set w.frozen i true }

-- rows of zeros
abbrev pub zeros : ℕ → ℕ → List (List ℕ)
zeros n k = replicate n (replicate k 0)

-- the words of a member at the beginning: all are 0, pushed ones too, and no row is frozen
abbrev pub begun : ℕ → ℕ → ℕ → Words
begun n k me = record {
  members = n;
  columns = k;
  me = me;
  words = zeros n k;
  sent = zeros n k;
  frozen = replicate n false;
}

-- the words with all as at the beginning
abbrev pub renewed : Words → Words
renewed w = begun w.members w.columns w.me

-- there is a row for each member, with a word for each column
pub record IsGrid (n k : ℕ) (rows : List (List ℕ)) : Type 0 where
  pub height : length rows ≡ n
  pub width : All (λ row. length row ≡ k) rows

-- the form that the words of `Rows` always have
pub record IsWords (w : Words) : Type 0 where
  pub few : w.members ≤ MAX_MEMBERS
  pub narrow : w.columns ≤ 1024
  pub present : w.me < w.members
  pub rows : IsGrid w.members w.columns w.words
  pub pushes : IsGrid w.members w.columns w.sent
  pub marks : length w.frozen ≡ w.members
  pub alive : is_frozen w w.me ≡ false
