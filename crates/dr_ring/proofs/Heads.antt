-- The heads of a ring's next items: their columns, their mask, and whether they are all of nulls.
use Rattle.std.{specs.Int.Bits.and_self, proofs.lemmas.{Bool.cases_lt, Nat.{and_le_l, and_le_r, mod_below}}}
use Rattle.std.proofs.Common.{◌≡◌, ◌↔◌, ℕ, ◌+◌, ◌-◌, ◌%◌, ◌^◌, ◌<◌, ◌≤◌, ◌⊎◌, inl, inr, bit_and, sym, ap, ap₂, ◌∙◌, below_more, arith}
use native.Mathlib.Nat.{mod-add-mod, mod-eq_of_lt, mod_self}
use Rattle.dr_words.specs.{Columns.head_column, declared.column.TheConstants.PIECES}
use Rattle.dr_ring.specs.{Pieces.null_mark, Slots.slot_column}

-- ---- columns

-- behind the last slot the first follows
pub head_first : (members window k column : ℕ) → 1 ≤ window → column ≡ slot_column members window k
    → column ≡ head_column members (window - 1) → head_column members 0 ≡ slot_column members window (k + 1)
head_first members window k column some here last =
    let full : k % window + 1 ≡ window = omega (arith, here, last, some) in
    let first : (k + 1) % window ≡ 0 = sym (mod-add-mod k window 1) ∙ ap (λ (n : ℕ). n % window) full
    ∙ mod_self window in
    ap (head_column members) (sym first)

-- behind another slot follows the next
pub head_next : (members window k column : ℕ) → 1 ≤ window → column ≡ slot_column members window k
    → (column ≡ head_column members (window - 1) → ⊥) → column + PIECES ≡ slot_column members window (k + 1)
head_next members window k column some here other =
    let below : k % window < window = mod_below k window some in
    let within : k % window + 1 < window = by (cases_lt (k % window + 1) window) in
    let next : (k + 1) % window ≡ k % window + 1 = sym (mod-add-mod k window 1) ∙ mod-eq_of_lt within in
    omega (arith, here, next)
  where
    by : (k % window + 1 < window) ⊎ (window ≤ k % window + 1) → k % window + 1 < window
    by (inl l) = l
    by (inr g) =
        let last : k % window ≡ window - 1 = omega (arith, g, mod_below k window some) in
        absurd (other (here ∙ ap (head_column members) last))

-- ---- masks

-- ---- nulls

-- the bits that two pieces share are all exactly where both are the mark of a null
both_null : (a b : ℕ) → a < 2 ^ 32 → b < 2 ^ 32 → (bit_and a b ≡ null_mark) ↔ ((a ≡ null_mark) × (b ≡ null_mark))
both_null a b a_fits b_fits = (
  λ e. (omega (arith, e, and_le_l a b, a_fits), omega (arith, e, and_le_r a b, b_fits)),
  λ both. ap₂ bit_and both.0 both.1 ∙ and_self null_mark,
)

-- the bits that all pieces share, with one piece more
pub nulls_more : (low : ℕ → ℕ) (common piece i : ℕ) → common < 2 ^ 32 → piece < 2 ^ 32 → piece ≡ low i
    → (common ≡ null_mark) ↔ ((j : ℕ) → j < i → low j ≡ null_mark)
    → (bit_and common piece ≡ null_mark) ↔ ((j : ℕ) → j < i + 1 → low j ≡ null_mark)
nulls_more low common piece i common_fits piece_fits same before =
    let both = both_null common piece common_fits piece_fits in (
      λ e. below_more _ _ (before.0 (both.0 e).0) (sym same ∙ (both.0 e).1),
      λ each. both.1 (before.1 (λ j l. each j (omega (arith, l))), same ∙ each i (omega arith)),
    )
