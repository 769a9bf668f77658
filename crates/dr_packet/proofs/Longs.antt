-- Numbers of eight bytes.
use Rattle.std.{specs.Int.{to_be_bytes, w64}, proofs.lemmas.Nat.{be_bytes_8, from_be_bytes-to_be_bytes_8}}
use Rattle.std.proofs.Common.{◌≡◌, ℕ, suc, ◌+◌, ◌*◌, ◌^◌, ◌<◌, ◌≤◌, List, [], ◌∷◌, ◌++◌, length, get_or, take, drop, refl, sym, ap, ◌∙◌, inl, inr, arith, length-drop, length-take, slice_index}
use Rattle.std.proofs.lemmas.{Bool.cases_lt, List.{drop-drop, get_or-drop, get_or-take, get_or_past, nil_from_length}}
use Rattle.dr_entry.proofs.Fields.{IsBytes}
use Rattle.dr_packet.specs.Packets.{long_at, long_bytes}

pub longs-length : (numbers : List ℕ) → length (long_bytes numbers) ≡ 8 * length numbers
longs-length [] = refl
longs-length (n ∷ ns) = omega (arith, longs-length ns)

-- eight bytes spell the number that is read there, and the others follow
front-long : (bytes : List ℕ) → IsBytes bytes → 8 ≤ length bytes
    → bytes ≡ to_be_bytes w64 (long_at 0 bytes) ++ drop 8 bytes
front-long [] fits long = absurd (omega arith)
front-long (a ∷ []) fits long = absurd (omega arith)
front-long (a ∷ b ∷ []) fits long = absurd (omega arith)
front-long (a ∷ b ∷ c ∷ []) fits long = absurd (omega arith)
front-long (a ∷ b ∷ c ∷ d ∷ []) fits long = absurd (omega arith)
front-long (a ∷ b ∷ c ∷ d ∷ e ∷ []) fits long = absurd (omega arith)
front-long (a ∷ b ∷ c ∷ d ∷ e ∷ f ∷ []) fits long = absurd (omega arith)
front-long (a ∷ b ∷ c ∷ d ∷ e ∷ f ∷ g ∷ []) fits long = absurd (omega arith)
front-long (a ∷ b ∷ c ∷ d ∷ e ∷ f ∷ g ∷ h ∷ bytes) fits long = ap (λ (front : List ℕ). front ++ bytes)
    (sym (be_bytes_8 (a ∷ b ∷ c ∷ d ∷ e ∷ f ∷ g ∷ h ∷ []) _ refl each refl))
  where
    all : List ℕ
    all = a ∷ b ∷ c ∷ d ∷ e ∷ f ∷ g ∷ h ∷ bytes

    each : (i : ℕ) → get_or (take 8 (a ∷ b ∷ c ∷ d ∷ e ∷ f ∷ g ∷ h ∷ bytes)) i 0 < 256
    each i = elim (cases_lt i 8) [
      | inl lt ↦ rw (get_or-take 8 all i 0 lt) (fits i)
      | inr past ↦ rw (get_or_past (take 8 all) i 0 (omega (arith, length-take 8 all))) (omega arith)
    ]

-- so it is from each place on
pub drop-long : (at : ℕ) (bytes : List ℕ) → IsBytes bytes → at + 8 ≤ length bytes
    → drop at bytes ≡ to_be_bytes w64 (long_at at bytes) ++ drop (at + 8) bytes
drop-long at bytes fits whole =
    front-long (drop at bytes) (λ i. rw get_or-drop (fits (at + i))) (omega (arith, length-drop at bytes))
    ∙ ap (λ (rest : List ℕ). to_be_bytes w64 (long_at at bytes) ++ rest) (drop-drop 8 at bytes)

pub long-below : (at : ℕ) (bytes : List ℕ) → IsBytes bytes → long_at at bytes < 2 ^ 64
long-below at bytes fits =
    let there : IsBytes (drop at bytes) = λ i. rw get_or-drop (fits (at + i)) in
    omega (arith, there 0, there 1, there 2, there 3, there 4, there 5, there 6, there 7)

-- bytes up to their end are those of the numbers that are read there
pub longs-are : (numbers : List ℕ) (at : ℕ) (bytes : List ℕ) → IsBytes bytes → at + 8 * length numbers ≡ length bytes
    → ((m : ℕ) → m < length numbers → slice_index numbers m ≡ long_at (at + 8 * m) bytes)
    → drop at bytes ≡ long_bytes numbers
longs-are [] at bytes fits long each = nil_from_length (drop at bytes) (omega (arith, long, length-drop at bytes))
longs-are (n ∷ ns) at bytes fits long each = drop-long at bytes fits (omega (arith, long))
    ∙ ap (λ (k : ℕ). to_be_bytes w64 k ++ drop (at + 8) bytes) (sym (each 0 (omega arith) ∙ there))
    ∙ ap (λ (rest : List ℕ). to_be_bytes w64 n ++ rest) (longs-are ns (at + 8) bytes fits (omega (arith, long)) others)
  where
    there : long_at (at + 8 * 0) bytes ≡ long_at at bytes
    there = let same : at + 8 * 0 ≡ at = omega arith in ap (λ (k : ℕ). long_at k bytes) same

    others : (m : ℕ) → m < length ns → slice_index ns m ≡ long_at (at + 8 + 8 * m) bytes
    others m l = let same : at + 8 * suc m ≡ at + 8 + 8 * m = omega arith in
        each (suc m) (omega (arith, l)) ∙ ap (λ (k : ℕ). long_at k bytes) same

-- numbers with the same bytes are the same
pub same-longs : (xs ys : List ℕ) → length xs ≡ length ys → ((m : ℕ) → slice_index xs m < 2 ^ 64)
    → ((m : ℕ) → slice_index ys m < 2 ^ 64) → long_bytes xs ≡ long_bytes ys → xs ≡ ys
same-longs [] [] long below under e = refl
same-longs [] (y ∷ ys) long below under e = absurd (omega (arith, long))
same-longs (x ∷ xs) [] long below under e = absurd (omega (arith, long))
same-longs (x ∷ xs) (y ∷ ys) long below under e = ap (λ (n : ℕ). n ∷ xs) first
    ∙ ap (λ (l : List ℕ). y ∷ l) (same-longs xs ys (omega (arith, long)) (λ m. below (suc m)) (λ m. under (suc m))
    (ap (drop 8) e))
  where
    first : x ≡ y
    first = sym (from_be_bytes-to_be_bytes_8 x (below 0)) ∙ ap (long_at 0) e ∙ from_be_bytes-to_be_bytes_8 y (under 0)
