-- The test whether an item can be read.
use Rattle.std.{specs.List.list_all, proofs.lemmas.Bool.Decides.nat_tests}
use Rattle.std.proofs.Common.{◌≡◌, ℕ, ◌+◌, ◌≤◌, Bool, true, false, nat_le, ◌⊎◌, inl, inr, ◌↔◌, Some, IsSome, IsTrue, is_some, refl, sym, ap, subst, ◌∙◌, arith, ◌%◌, map}
use Rattle.dr_entry.{specs.declared.limits.TheConstants.MAX_MESSAGE_LENGTH, proofs.Items.some_three}
use Rattle.dr_entry.proofs.{ListFacts.{all_pass, each_passes, first_words}, OptionFacts.some_tested}
use native.Mathlib.Nat.{add-mod_left}
use Rattle.dr_rows.specs.Words.{Words, seen}
use Rattle.dr_words.specs.{Columns.head_column, Packing.{ring_tag, ring_low}}
use Rattle.dr_ring.specs.{Pieces.{null_mark, is_head, body_len, item_of}, Slots.{IsReady, is_of, item_in, slot_of}}

pub tag_of : (k word : ℕ) → is_of k word ≡ true → ring_tag word ≡ k + 1
tag_of k word e = grind (arith, nat_tests)

pub of_tag : (k word : ℕ) → ring_tag word ≡ k + 1 → is_of k word ≡ true
of_tag k word e = grind (arith, nat_tests)

head_of : (low : ℕ) → is_head low ≡ true → (low ≤ MAX_MESSAGE_LENGTH) ⊎ (low ≡ null_mark)
head_of low e = by (nat_le low MAX_MESSAGE_LENGTH) refl
  where
    by : (b : Bool) → nat_le low MAX_MESSAGE_LENGTH ≡ b → (low ≤ MAX_MESSAGE_LENGTH) ⊎ (low ≡ null_mark)
    by true p = inl (grind (arith, nat_tests))
    by false p = inr (grind (arith, nat_tests))

of_head : (low : ℕ) → (low ≤ MAX_MESSAGE_LENGTH) ⊎ (low ≡ null_mark) → is_head low ≡ true
of_head low (inl short) = grind (arith, nat_tests)
of_head low (inr null) = grind (arith, nat_tests)

-- an item that is there is what its pieces say
pub item_there : (k : ℕ) (slot : ℕ → ℕ) → IsReady k slot → let head = ring_low (slot 0) in
    item_in k slot ≡ Some (item_of head (map ring_low (first_words slot (body_len head))))
item_there k slot r =
    let a : is_of k (slot 0) ≡ true = of_tag k (slot 0) r.head in
    let b : is_head (ring_low (slot 0)) ≡ true = of_head (ring_low (slot 0)) r.length_or_null in
    let c : list_all (is_of k) (first_words slot (body_len (ring_low (slot 0)))) ≡ true = all_pass (is_of k) slot
    (body_len (ring_low (slot 0))) (λ part lt. of_tag k (slot (1 + part)) (r.body part lt)) in
    rw (a, b, c) refl

-- the item is there exactly where the words that it needs are
pub ready_test : (k : ℕ) (slot : ℕ → ℕ) → IsSome (item_in k slot) ↔ IsReady k slot
ready_test k slot = (
  λ s.
      let t = some_three _ _ _ _ s in
      record {
        head = tag_of k (slot 0) t.0;
        length_or_null = head_of (ring_low (slot 0)) t.1;
        body = λ part lt. tag_of k (slot (1 + part))
            (each_passes (is_of k) slot (body_len (ring_low (slot 0))) part t.2 lt);
      },
  λ r. ap is_some (item_there k slot r),
)

-- the same, as a test
pub ready_value : (k : ℕ) (slot : ℕ → ℕ) (ready : Bool) → ready ≡ is_some (item_in k slot)
    → IsTrue ready ↔ IsReady k slot
ready_value k slot ready same = subst (λ (b : Bool). IsTrue b ↔ IsReady k slot) (sym same)
    (some_tested (item_in k slot) (IsReady k slot) (ready_test k slot))

-- an item whose slot holds the one a window before it is not there yet
pub not_yet : (window : ℕ) (w : Words) (row k : ℕ) → 1 ≤ window → IsReady k (slot_of window w row k)
    → IsReady (k + window) (slot_of window w row (k + window)) → ⊥
not_yet window w row k some here there =
    let number : (k + window) % window ≡ k % window =
    ap (λ (n : ℕ). n % window) (omega arith) ∙ add-mod_left window k in
    let head : slot_of window w row (k + window) 0 ≡ slot_of window w row k 0 =
    ap (λ (n : ℕ). seen w row (head_column w.members n + 0)) number in
    absurd (omega (arith, here.head, there.head, ap ring_tag head, some))

-- ---- by a mask
