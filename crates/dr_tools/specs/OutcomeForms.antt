-- Which texts are outcomes, as they are spelled in rows, but without blanks.
use Rattle.std.specs.List.{after_first, before_first, concat, list_all, position_or_len, slice_split}
use Rattle.std.specs.Prelude.{ℕ, ◌-◌, ◌==◌, ◌&&◌, ◌||◌, nat_lt, if◌then◌else◌, Bool, false, List, [], ◌∷◌, Option, None, Some, bytes_eq, codes, drop, length, take}
use Rattle.dr_literals.specs.Literals.{is_digit}

-- a text without its blanks
abbrev pub without_blanks : List ℕ → List ℕ
without_blanks text = concat (slice_split (λ byte. byte == 32) text)

-- the word is this one, and behind it a number
abbrev pub is_numbered : List ℕ → List ℕ → Bool
is_numbered front word =
    nat_lt (length front) (length word)
    && (bytes_eq (take (length front) word) front && list_all is_digit (drop (length front) word))

-- the word tells how a member ends, of those whose logs are in memory
abbrev pub is_end : List ℕ → Bool
is_end word =
    bytes_eq word (codes "done")
    || (bytes_eq word (codes "crashed")
    || (is_numbered (codes "spent") word
    || (is_numbered (codes "suspected") word
    || (is_numbered (codes "excluded") word
    || is_numbered (codes "nomajority") word))))

-- Before a word: whether members of a list may follow, as behind an end without a majority, and how many members are
-- left whose ends do. The same behind the word, where it may stand there.
abbrev pub behind_word : Bool → ℕ → List ℕ → Option (Bool × ℕ)
behind_word lists left word =
    if is_numbered [] word then (if lists then Some (lists, left) else None)
    else (if nat_lt 0 left && is_end word then Some (is_numbered (codes "nomajority") word, left - 1) else None)

-- the words may follow, and then no member is left
abbrev pub are_ends : Option (Bool × ℕ) → List (List ℕ) → Bool
are_ends None words = false
are_ends (Some (lists, left)) [] = left == 0
are_ends (Some (lists, left)) (word ∷ words) = are_ends (behind_word lists left word) words

-- the texts tell how so many members end in each of so many ages
abbrev pub are_ages : ℕ → ℕ → List (List ℕ) → Bool
are_ages members left [] = left == 0
are_ages members left (text ∷ texts) =
    nat_lt 0 left
    && (are_ends (Some (false, members)) (slice_split (λ byte. byte == 44) text) && are_ages members (left - 1) texts)

-- the line is the last one of a run over logs in memory
abbrev pub is_last : List ℕ → Bool
is_last line =
    bytes_eq line (codes "ok\n") || (bytes_eq line (codes "unfinished\n") || bytes_eq line (codes "nomajority\n"))

-- the line is an outcome of so many members and ages: the last line of a run, or how its members end, age by age, and
-- behind a colon the last line
abbrev pub is_outcome : ℕ → ℕ → List ℕ → Bool
is_outcome members ages line =
    if nat_lt (position_or_len (λ byte. byte == 58) line) (length line)
    then are_ages members ages (slice_split (λ byte. byte == 124) (before_first (λ byte. byte == 58) line))
    && is_last (after_first (λ byte. byte == 58) line)
    else is_last line
