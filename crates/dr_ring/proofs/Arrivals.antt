-- What is read from a slot of which some words have come.
use Rattle.std.{specs.List.{list_all, range_with_len}, proofs.lemmas.Bool.Decides.nat_tests}
use Rattle.std.proofs.Common.{◌≡◌, ℕ, suc, ◌+◌, ◌^◌, ◌<◌, ◌≤◌, Bool, true, false, cond, length, get_or, map, Option, Some, None, refl, sym, ap, ◌∙◌, arith, slice_index, subst, zero}
use Rattle.dr_entry.{specs.declared.entry.Item.Item, proofs.{Fields.IsItem, ListFacts.{first_words, same_tests}}}
use Rattle.dr_entry.proofs.NumberFacts.{tests_all}
use Rattle.dr_words.{specs.Packing.{ring_word, ring_tag, ring_low}, proofs.Packed.{low_word, same_pieces}}
use Rattle.dr_ring.specs.Pieces.{head_piece, body_pieces, pieces, item_of, body_len}
use Rattle.dr_ring.specs.Slots.{is_of, item_in, IsReady}
use Rattle.dr_ring.proofs.Items.{item_of-pieces, body_len-pieces, head_is_head, head_fits, piece_fits, few_pieces}

-- the words that have come hold the pieces of item k, and the others are of earlier items
pub record HasCome (k : ℕ) (item : Item) (slot : ℕ → ℕ) (come : ℕ → Bool) : Type 0 where
  pub here : (part : ℕ) → part < length (pieces item) → come part ≡ true
      → slot part ≡ ring_word k (get_or (pieces item) part 0)
  pub earlier : (part : ℕ) → part < length (pieces item) → come part ≡ false → ring_tag (slot part) ≤ k

of_word : (k word low : ℕ) → low < 2 ^ 32 → word ≡ ring_word k low → is_of k word ≡ true
of_word k word low fits e = let tag : ring_tag word ≡ k + 1 = omega (arith, e) in grind (arith, nat_tests)

not_of : (k word : ℕ) → ring_tag word ≤ k → is_of k word ≡ false
not_of k word tag = grind (arith, nat_tests)

abbrev some : Item → Option Item
some x = Some x

-- the item is read exactly where all words that it needs have come
pub item_in-come : (k : ℕ) (item : Item) (slot : ℕ → ℕ) (come : ℕ → Bool) → IsItem item → HasCome k item slot come
    → item_in k slot ≡ cond (list_all come (range_with_len 0 (length (pieces item)))) (Some item) None
item_in-come k item slot come is words = by (come 0) refl
  where
    all : Bool
    all = list_all come (range_with_len 1 (length (body_pieces item)))

    agrees : (i : ℕ) → i < length (pieces item) → (b : Bool) → come i ≡ b → is_of k (slot i) ≡ come i
    agrees i lt true e = of_word k (slot i) (get_or (pieces item) i 0) (piece_fits item i is)
        (words.here i lt e) ∙ sym e
    agrees i lt false e = not_of k (slot i) (words.earlier i lt e) ∙ sym e

    tests : list_all (is_of k) (first_words slot (length (body_pieces item)))
        ≡ list_all come (range_with_len 1 (length (body_pieces item)))
    tests = same_tests (is_of k) come slot (length (body_pieces item)) 1
        (λ i from to. agrees i (omega arith) (come i) refl)

    read : (b : Bool) → list_all come (range_with_len 1 (length (body_pieces item))) ≡ b
        → cond (list_all come (range_with_len 1 (length (body_pieces item))))
        (Some (item_of (head_piece item) (map ring_low (first_words slot (length (body_pieces item))))))
        None ≡ cond (list_all come (range_with_len 1 (length (body_pieces item)))) (Some item) None
    read false e = rw e refl
    read true e =
        let body = same_pieces slot (body_pieces item) 1 (λ i lt.
        let come_i = tests_all come (length (body_pieces item)) 1 e (1 + i) (omega arith) (omega arith) in
        let there : 1 + i ≡ suc i = omega arith in
        low_word k (slot (1 + i)) (get_or (body_pieces item) i 0) (piece_fits item (suc i) is)
        (words.here (1 + i) (omega arith) come_i ∙ ap (λ (j : ℕ). ring_word k (get_or (pieces item) j 0)) there)) in
        rw (e, body) (ap (λ (x : Item). some x) (item_of-pieces item is))

    by : (head : Bool) → come 0 ≡ head
        → item_in k slot ≡ cond (list_all come (range_with_len 0 (length (pieces item)))) (Some item) None
    by false e = rw (not_of k (slot 0) (words.earlier 0 (omega arith) e), e) refl
    by true e =
        let head : slot 0 ≡ ring_word k (head_piece item) = words.here 0 (omega arith) e in
        let tag = of_word k (slot 0) (head_piece item) (head_fits item is) head in
        let low = low_word k (slot 0) (head_piece item) (head_fits item is) head in
        rw (tag, low, head_is_head item is, body_len-pieces item is, tests, e) (read all refl)

-- the words that item k needs are there: then it is the item that was put
pub ready_item : (k : ℕ) (item : Item) (slot : ℕ → ℕ) → IsItem item → IsReady k slot
    → ((part : ℕ) → part < 17 → ring_tag (slot part) ≡ k + 1 → slot part
    ≡ ring_word k (slice_index (pieces item) part)) → item_in k slot ≡ Some item
ready_item k item slot is ready words = item_in-come k item slot (λ part. true) is
    (record { here = λ part l e. here part l; earlier = λ part l e. absurd (cc e) })
    ∙ ap (λ (b : Bool). cond b (Some item) None) (all_true (length (pieces item)) 0)
  where
    all_true : (n a : ℕ) → list_all (λ (part : ℕ). true) (range_with_len a n) ≡ true
    all_true zero a = refl
    all_true (suc n) a = all_true n (a + 1)

    head : slot 0 ≡ ring_word k (head_piece item)
    head = words 0 (omega arith) ready.head

    low : ring_low (slot 0) ≡ head_piece item
    low = omega (arith, head, head_fits item is)

    here : (part : ℕ) → part < length (pieces item) → slot part ≡ ring_word k (slice_index (pieces item) part)
    here zero l = head
    here (suc part) l =
        let body : body_len (ring_low (slot 0)) ≡ length (body_pieces item) = ap body_len low
        ∙ body_len-pieces item is in
        let there : 1 + part ≡ suc part = omega arith in
        let tag : ring_tag (slot (suc part)) ≡ k + 1 = subst (λ i. ring_tag (slot i) ≡ k + 1) there
        (ready.body part (omega (arith, body))) in
        words (suc part) (omega (arith, few_pieces item is)) tag
