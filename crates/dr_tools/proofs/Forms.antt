-- Texts of outcomes, piece by piece.
use Rattle.std.specs.List.{after_first, before_first, concat, list_all, position_or_len, slice_split}
use Rattle.std.proofs.Common.{◌≡◌, ◌∙◌, refl, sym, ap, append-nil, append_assoc, ℕ, zero, suc, ◌+◌, ◌-◌, ◌==◌, ◌<◌, ◌≤◌, ◌&&◌, nat_lt, arith, Bool, true, false, List, [], ◌∷◌, ◌++◌, Option, Some, bytes_eq, drop, get_or, length, take}
use Rattle.std.proofs.lemmas.{Bool.{le-ltb, lt-ltb}, List.{drop_all, drop_more}}
use Rattle.dr_literals.specs.Literals.{is_digit}
use Rattle.dr_tools.specs.OutcomeForms.{are_ages, are_ends, behind_word, is_last, is_numbered, is_outcome}

-- the digits behind a front of a word
pub numbered_by : (front word : List ℕ) (digits : Bool) → length front < length word
    → bytes_eq (take (length front) word) front ≡ true → digits ≡ list_all is_digit (drop (length front) word)
    → digits ≡ is_numbered front word
numbered_by front word digits shorter begins are =
    are ∙ sym (rw (lt-ltb (length front) (length word) shorter, begins) refl)

-- the words from a place on, by what stands behind the word there
pub word_more : (lists : Bool) (left i : ℕ) (w : List ℕ) (words : List (List ℕ)) (next : Option (Bool × ℕ))
    → i < length words → w ≡ get_or words i w → next ≡ behind_word lists left w
    → are_ends (Some (lists, left)) (drop i words) ≡ are_ends next (drop (i + 1) words)
word_more lists left i w words next below here is = ap (are_ends (Some (lists, left))) (drop_more words i w below)
    ∙ ap (λ x. are_ends (Some (lists, left)) (x ∷ drop (i + 1) words)) (sym here)
    ∙ ap (λ s. are_ends s (drop (i + 1) words)) (sym is)

-- the ages from a place on, where none is left, where the one there is told ill, and where it is told well
age_at : (members left i : ℕ) (t : List ℕ) (texts : List (List ℕ))
    → i < length texts → t ≡ get_or texts i t → are_ages members left (drop i texts)
    ≡ (nat_lt 0 left && (are_ends (Some (false, members)) (slice_split (λ byte. byte == 44) t)
    && are_ages members (left - 1) (drop (i + 1) texts)))
age_at members left i t texts below here = ap (are_ages members left) (drop_more texts i t below)
    ∙ ap (λ x. are_ages members left (x ∷ drop (i + 1) texts)) (sym here)

pub age_missing : (members left i : ℕ) (t : List ℕ) (texts : List (List ℕ)) → i < length texts
    → t ≡ get_or texts i t → left ≡ 0 → are_ages members left (drop i texts) ≡ false
age_missing members left i t texts below here none = age_at members left i t texts below here
    ∙ ap (λ b. b && (are_ends (Some (false, members)) (slice_split (λ byte. byte == 44) t)
    && are_ages members (left - 1) (drop (i + 1) texts))) (ap (nat_lt 0) none)

pub age_ill : (members left i : ℕ) (t : List ℕ) (texts : List (List ℕ)) → i < length texts → t ≡ get_or texts i t
    → 0 < left → are_ends (Some (false, members)) (slice_split (λ byte. byte == 44) t) ≡ false
    → are_ages members left (drop i texts) ≡ false
age_ill members left i t texts below here some ill =
    age_at members left i t texts below here ∙ rw (lt-ltb 0 left some, ill) refl

pub age_well : (members left i : ℕ) (t : List ℕ) (texts : List (List ℕ)) → i < length texts → t ≡ get_or texts i t
    → 0 < left → are_ends (Some (false, members)) (slice_split (λ byte. byte == 44) t) ≡ true
    → are_ages members left (drop i texts) ≡ are_ages members (left - 1) (drop (i + 1) texts)
age_well members left i t texts below here some well =
    age_at members left i t texts below here ∙ rw (lt-ltb 0 left some, well) refl

-- behind the last one
pub all_ends : (lists : Bool) (left i : ℕ) (words : List (List ℕ)) → length words ≤ i
    → are_ends (Some (lists, left)) (drop i words) ≡ (left == 0)
all_ends lists left i words past = ap (are_ends (Some (lists, left))) (drop_all i words past)

pub all_ages : (members left i : ℕ) (texts : List (List ℕ)) → length texts ≤ i
    → are_ages members left (drop i texts) ≡ (left == 0)
all_ages members left i texts past = ap (are_ages members left) (drop_all i texts past)

-- a line with a colon, and one without
pub with_colon : (members ages : ℕ) (line ends last : List ℕ) → ends ≡ before_first (λ byte. byte == 58) line
    → last ≡ after_first (λ byte. byte == 58) line → position_or_len (λ byte. byte == 58) line < length line
    → (are_ages members ages (slice_split (λ byte. byte == 124) ends) && is_last last) ≡ is_outcome members ages line
with_colon members ages line ends last before after inside =
    (λ i. are_ages members ages (slice_split (λ byte. byte == 124) (before i)) && is_last (after i))
    ∙ sym (rw (lt-ltb (position_or_len (λ byte. byte == 58) line) (length line) inside) refl)

pub without_colon : (members ages : ℕ) (line : List ℕ)
    → position_or_len (λ byte. byte == 58) line ≡ length line → is_last line ≡ is_outcome members ages line
without_colon members ages line outside =
    sym (rw (le-ltb (position_or_len (λ byte. byte == 58) line) (length line) (omega (arith, outside))) refl)
