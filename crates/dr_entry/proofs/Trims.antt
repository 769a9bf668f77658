-- The trims of a vote, read one after the other.
use Rattle.std.{specs.{Int.{w16, w32, to_be_bytes}, List.{range_with_len, flat_map}}, proofs.lemmas.List.set_at}
use Rattle.std.proofs.Common.{◌≡◌, ℕ, suc, ◌+◌, ◌*◌, ◌-◌, ◌<◌, ◌≤◌, List, ◌∷◌, ◌++◌, length, set, map, replicate, None, Some, refl, sym, ap, ◌∙◌, zero, append_assoc, [], take, length-append, length-take, arith}
use Rattle.std.proofs.lemmas.{Bool.{lt-ltb, le-ltb}, List.FromFn.{length-map-range_with_len, map-range_with_len_more}}
use Rattle.dr_entry.specs.Grammar.{Field, free, number_at, first_fault, trim_fields, trims_at}
use Rattle.dr_entry.specs.{Spelling.vote_spelling, declared.limits.TheConstants.MAX_MEMBERS}
use Rattle.dr_entry.specs.{declared.reading.DecodeFault.TheVariants.Short, declared.record.Vote.Vote}

-- the fields of the trims from i on
abbrev pub trims_left : ℕ → ℕ → List Field
trims_left members i = map (λ s. free (8 + 4 * s) 4) (range_with_len i (members - i))

filled_more : (f : ℕ → ℕ) (i : ℕ) → i < 16 → set (map f (range_with_len 0 i) ++ replicate (16 - i) 0) i (f i)
    ≡ map f (range_with_len 0 (i + 1)) ++ replicate (16 - (i + 1)) 0
filled_more f i lt =
    let one : 16 - i ≡ suc (16 - (i + 1)) = omega arith in
    rw (
      one,
      set_at (map f (range_with_len 0 i)) 0 (replicate (16 - (i + 1)) 0) (f i) i (length-map-range_with_len f 0 i),
      map-range_with_len_more f 0 i i (omega arith),
    ) (sym (append_assoc (map f (range_with_len 0 i)) (f i ∷ []) (replicate (16 - (i + 1)) 0)))

-- one trim more was read
pub set-trims_at : (i : ℕ) (bytes : List ℕ) → i < 16
    → set (trims_at i bytes) i (number_at w32 (8 + 4 * i) bytes) ≡ trims_at (i + 1) bytes
set-trims_at i bytes lt = filled_more (λ s. number_at w32 (8 + 4 * s) bytes) i lt

left_more : (members i : ℕ) → i < members → trims_left members i ≡ free (8 + 4 * i) 4 ∷ trims_left members (i + 1)
left_more members i lt = let one : members - i ≡ suc (members - (i + 1)) = omega arith in rw one refl

-- where the next trim is whole, the fault is that of the trims behind it; else it is Short there
pub first_fault-whole : (members i : ℕ) (bytes : List ℕ) → i < members → 8 + 4 * i + 4
    ≤ length bytes → first_fault (trims_left members i) bytes ≡ first_fault (trims_left members (i + 1)) bytes
first_fault-whole members i bytes lt whole = rw (left_more members i lt, le-ltb _ _ whole) refl

-- where the next trim is cut off, the fault is Short at its place
pub first_fault-short : (members i : ℕ) (bytes : List ℕ) → i < members → length bytes
    < 8 + 4 * i + 4 → first_fault (trims_left members i) bytes ≡ Some (Short (8 + 4 * i))
first_fault-short members i bytes lt short = rw (left_more members i lt, lt-ltb _ _ short) refl

-- the fault of the trims, where the first so many are whole
whole_before : (members i : ℕ) (bytes : List ℕ) → i ≤ members → 8 + 4 * i ≤ length bytes
    → first_fault (trim_fields members) bytes ≡ first_fault (trims_left members i) bytes
whole_before members zero bytes few whole =
    let all : members ≡ members - 0 = omega arith in
    ap (λ (n : ℕ). first_fault (map (λ s. free (8 + 4 * s) 4) (range_with_len 0 n)) bytes) all
whole_before members (suc i) bytes few whole =
    let next : i + 1 ≡ suc i = omega arith in
    whole_before members i bytes (omega (arith, few)) (omega (arith, whole)) ∙ first_fault-whole members i bytes
    (omega (arith, few)) (omega (arith, whole)) ∙ ap (λ (n : ℕ). first_fault (trims_left members n) bytes) next

-- there is none where all are whole
pub none_cut_off : (members : ℕ) (bytes : List ℕ) → 8 + 4 * members ≤ length bytes
    → first_fault (trim_fields members) bytes ≡ None
none_cut_off members bytes whole =
    let none : members - members ≡ 0 = omega arith in
    whole_before members members bytes (omega arith) whole
    ∙ ap (λ (n : ℕ). first_fault (map (λ s. free (8 + 4 * s) 4) (range_with_len members n)) bytes) none

-- else the first that is not is Short
pub one_cut_off : (members i : ℕ) (bytes : List ℕ) → 8 + 4 * i ≤ length bytes → length bytes < 8 + 4 * i + 4
    → length bytes < 8 + 4 * members → first_fault (trim_fields members) bytes ≡ Some (Short (8 + 4 * i))
one_cut_off members i bytes whole short cut =
    let below : i < members = omega (arith, whole, cut) in
    whole_before members i bytes (omega (arith, below)) whole ∙ first_fault-short members i bytes below short

-- four bytes for each number
pub counts_length : (counts : List ℕ) → length (flat_map (to_be_bytes w32) counts) ≡ 4 * length counts
counts_length [] = refl
counts_length (count ∷ counts) = omega (arith, counts_length counts)

-- a vote is spelled in eight bytes and four for each member
pub vote_length : (v : Vote) → length v.value.trim ≡ 16 → v.members ≤ 16
    → length (vote_spelling v) ≡ 8 + 4 * v.members
vote_length v places few = omega (
  arith,
  length-append (3 ∷ to_be_bytes w16 v.age ++ v.view ∷ v.ballot ∷ to_be_bytes w16 v.value.leavers)
      (v.members ∷ flat_map (to_be_bytes w32) (take v.members v.value.trim)),
  counts_length (take v.members v.value.trim),
  length-take v.members v.value.trim,
)

-- a vote has a short block
pub short_vote : (v : Vote) → v.members ≤ MAX_MEMBERS → 1 + length (vote_spelling v) ≤ 73
short_vote v few = omega (arith, few, counts_length (take v.members v.value.trim), length-take v.members v.value.trim)
