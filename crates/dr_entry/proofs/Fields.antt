-- The bytes of a field, and fields that are whole and keep their rules.
use Rattle.std.{specs.Int.{w16, w32, from_be_bytes, to_be_bytes}, proofs.lemmas.Bool.{cases_lt, le-ltb, ltb-false}}
use Rattle.std.{specs.List.AllByRecursion, proofs.lemmas.Nat.{be_bytes_2, be_bytes_4}}
use Rattle.std.proofs.Common.{◌≡◌, ℕ, ◌+◌, ◌<◌, ◌≤◌, Bool, true, false, cond, ◌^◌, List, [], ◌∷◌, ◌++◌, length, get_or, take, drop, Option, Some, None, refl, sym, ap, ◌∙◌, inl, inr, arith, length-drop, length-take}
use Rattle.std.proofs.lemmas.List.{drop-drop, drop_more, take-append-drop, get_or-drop, get_or-take, get_or_past}
use Rattle.dr_entry.specs.{Grammar.{Field, number_at, first_fault}, declared.entry.Item.Item}
use Rattle.dr_entry.specs.declared.{entry.Item.TheVariants.{Null, Text}, limits.TheConstants.MAX_MESSAGE_LENGTH}
use Rattle.dr_entry.specs.declared.reading.DecodeFault.{DecodeFault, TheVariants.{Short, BadField}}

-- each number of the list is a byte
abbrev pub IsBytes : List ℕ → Type 0
IsBytes bytes = (i : ℕ) → get_or bytes i 0 < 256

IsBytes-drop : (n : ℕ) (bytes : List ℕ) → IsBytes bytes → IsBytes (drop n bytes)
IsBytes-drop n bytes fits i = rw get_or-drop (fits (n + i))

IsBytes-take : (n : ℕ) (bytes : List ℕ) → IsBytes bytes → IsBytes (take n bytes)
IsBytes-take n bytes fits i = elim (cases_lt i n) [
  | inl lt ↦ rw (get_or-take n bytes i 0 lt) (fits i)
  | inr le ↦ rw (get_or_past (take n bytes) i 0 (omega (arith, length-take n bytes))) (omega arith)
]

-- the bytes of a number, and what follows it
front_2 : (bytes : List ℕ) → IsBytes bytes → 2 ≤ length bytes → bytes
    ≡ to_be_bytes w16 (from_be_bytes w16 bytes) ++ drop 2 bytes
front_2 [] fits long = absurd (omega arith)
front_2 (a ∷ []) fits long = absurd (omega arith)
front_2 (a ∷ b ∷ bytes) fits long = ap (λ (front : List ℕ). front ++ bytes)
    (sym (be_bytes_2 (a ∷ b ∷ []) _ refl (IsBytes-take 2 (a ∷ b ∷ bytes) fits) refl))

front_4 : (bytes : List ℕ) → IsBytes bytes → 4 ≤ length bytes → bytes
    ≡ to_be_bytes w32 (from_be_bytes w32 bytes) ++ drop 4 bytes
front_4 [] fits long = absurd (omega arith)
front_4 (a ∷ []) fits long = absurd (omega arith)
front_4 (a ∷ b ∷ []) fits long = absurd (omega arith)
front_4 (a ∷ b ∷ c ∷ []) fits long = absurd (omega arith)
front_4 (a ∷ b ∷ c ∷ d ∷ bytes) fits long = ap (λ (front : List ℕ). front ++ bytes)
    (sym (be_bytes_4 (a ∷ b ∷ c ∷ d ∷ []) _ refl (IsBytes-take 4 (a ∷ b ∷ c ∷ d ∷ bytes) fits) refl))

-- from a place inside on, the bytes are the byte there and those behind it
pub drop-byte : (at : ℕ) (bytes : List ℕ) → at + 1 ≤ length bytes → drop at bytes
    ≡ get_or bytes at 0 ∷ drop (at + 1) bytes
drop-byte at bytes whole = drop_more bytes at 0 (omega arith)

-- where two bytes are left, they spell the number that is read there, and the others follow
pub drop-number_2 : (at : ℕ) (bytes : List ℕ) → IsBytes bytes → at + 2 ≤ length bytes
    → drop at bytes ≡ to_be_bytes w16 (number_at w16 at bytes) ++ drop (at + 2) bytes
drop-number_2 at bytes fits whole =
    front_2 (drop at bytes) (IsBytes-drop at bytes fits) (omega (arith, length-drop at bytes))
    ∙ ap (λ (rest : List ℕ). to_be_bytes w16 (number_at w16 at bytes) ++ rest) (drop-drop 2 at bytes)

-- where four bytes are left, they spell the number that is read there, and the others follow
pub drop-number_4 : (at : ℕ) (bytes : List ℕ) → IsBytes bytes → at + 4 ≤ length bytes
    → drop at bytes ≡ to_be_bytes w32 (number_at w32 at bytes) ++ drop (at + 4) bytes
drop-number_4 at bytes fits whole =
    front_4 (drop at bytes) (IsBytes-drop at bytes fits) (omega (arith, length-drop at bytes))
    ∙ ap (λ (rest : List ℕ). to_be_bytes w32 (number_at w32 at bytes) ++ rest) (drop-drop 4 at bytes)

-- from a place on, the bytes are the next n and those behind them
pub drop-bytes : (at n : ℕ) (bytes : List ℕ) → drop at bytes ≡ take n (drop at bytes) ++ drop (at + n) bytes
drop-bytes at n bytes = sym (take-append-drop n (drop at bytes))
    ∙ ap (λ (rest : List ℕ). take n (drop at bytes) ++ rest) (drop-drop n at bytes)

-- ---- the grammar

-- the field is whole, and keeps its rule
pub record Passes (bytes : List ℕ) (field : Field) : Type 0 where
  pub whole : field.at + field.width ≤ length bytes
  pub kept : field.rule bytes ≡ true

tests_pass : (short kept : Bool) (a b : DecodeFault) (next : Option DecodeFault)
    → cond short (Some a) (cond kept next (Some b)) ≡ None → (short ≡ false) × (kept ≡ true) × (next ≡ None)
tests_pass true kept a b next e = absurd (cc)
tests_pass false true a b next e = (refl, refl, e)
tests_pass false false a b next e = absurd (cc)

-- there is no fault exactly where each field passes
pub all_pass : (fields : List Field) (bytes : List ℕ) → first_fault fields bytes ≡ None
    → AllByRecursion (Passes bytes) fields
all_pass [] bytes e = tt
all_pass (field ∷ fields) bytes e =
    let p = tests_pass _ _ (Short field.at) (BadField field.at) (first_fault fields bytes) e in
    (record { whole = ltb-false _ _ p.0; kept = p.1 }, all_pass fields bytes p.2)

-- where each field passes, there is no fault
pub no_fault : (fields : List Field) (bytes : List ℕ) → AllByRecursion (Passes bytes) fields
    → first_fault fields bytes ≡ None
no_fault [] bytes p = refl
no_fault (field ∷ fields) bytes p = rw (le-ltb _ _ p.0.whole, p.0.kept) (no_fault fields bytes p.1)

-- a number of two bytes is below 2 ^ 16
pub number_below_2 : (at : ℕ) (bytes : List ℕ) → IsBytes bytes → number_at w16 at bytes < 2 ^ 16
number_below_2 at bytes fits = let there = IsBytes-drop at bytes fits in omega (arith, there 0, there 1)

-- a number of four bytes is below 2 ^ 32
pub number_below_4 : (at : ℕ) (bytes : List ℕ) → IsBytes bytes → number_at w32 at bytes < 2 ^ 32
number_below_4 at bytes fits = let there = IsBytes-drop at bytes fits in
    omega (arith, there 0, there 1, there 2, there 3)

-- what an item of the code is
abbrev pub IsItem : Item → Type 0
IsItem Null = Unit {0}
IsItem (Text bytes) = (length bytes ≤ MAX_MESSAGE_LENGTH) × IsBytes bytes
