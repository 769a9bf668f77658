-- What is read from a slot of which some words have come.
use Rattle.std.{specs.{List.range_with_len, Prelude.nat_le}, proofs.lemmas.Bool.{eq-eqb, eqb-true, le-leb, leb-true}}
use Rattle.std.proofs.Common.{◌≡◌, ℕ, ◌^◌, ◌<◌, arith, suc, ◌+◌, List, [], ◌∷◌, length, get_or, map, refl, sym, ap, ◌∙◌, ◌≤◌, false, ◌&&◌, Bool, true, if◌then◌else◌, ◌-◌, ◌==◌, ◌≢◌}
use Rattle.dr_words.specs.Packing.{ring_word, ring_low, ring_tag, is_final, recv_word, recv_count}
use Rattle.dr_words.proofs.Grown.{IsGrowthTest}

pub low_word : (k word low : ℕ) → low < 2 ^ 32 → word ≡ ring_word k low → ring_low word ≡ low
low_word k word low fits e = omega (arith, e)

-- the pieces that a range of words holds
pub same_pieces : (slot : ℕ → ℕ) (list : List ℕ) (a : ℕ)
    → ((i : ℕ) → i < length list → ring_low (slot (a + i)) ≡ get_or list i 0)
    → map ring_low (map slot (range_with_len a (length list))) ≡ list
same_pieces slot [] a same = refl
same_pieces slot (x ∷ list) a same =
    let place : a + 0 ≡ a = omega arith in
    let first : ring_low (slot a) ≡ x = ap (λ (i : ℕ). ring_low (slot i)) (sym place) ∙ same 0 (omega arith) in
    let others = same_pieces slot list (a + 1) (λ i lt. let next : a + 1 + i ≡ a + suc i = omega arith in
    ap (λ (j : ℕ). ring_low (slot j)) next ∙ same (suc i) (omega arith)) in
    rw (first, others) refl

-- a ring word of item k is no smaller than any word of an earlier item
pub ring_grows : (k word low : ℕ) → ring_tag word ≤ k → word ≤ ring_word k low
ring_grows k word low tag = omega (arith, tag)

pub open_word : (k : ℕ) → is_final (recv_word k false) ≡ false
open_word k = grind arith

-- the tag of a piece is one more than its item's number
pub piece_tag : (k low : ℕ) → low < 2 ^ 32 → ring_tag (ring_word k low) ≡ k + 1
piece_tag k low l = omega arith

-- a count that stays, final where its sender is of the view
pub final_recv : (n : ℕ) (wedged member : Bool)
    → (if member then recv_word (recv_count (recv_word n (wedged && member))) true
    else recv_word n (wedged && member)) ≡ recv_word n (true && member)
final_recv n true true = omega arith
final_recv n false true = omega arith
final_recv n true false = refl
final_recv n false false = refl

pub final_growth : (n s old new : ℕ) → s < n → is_final old ≡ true → IsGrowthTest n (5 + s) old new (new == old)
final_growth n s old new l final = (
  λ t. let same : new ≡ old = eqb-true new old t in record {
    number = omega (arith, same);
    suspected = λ e. absurd (omega arith);
    final = λ i m e f. same;
  },
  λ g. eq-eqb new old (g.final s l refl final),
)

-- a column of a recv word whose old one is final
abbrev IsFinalAt : ℕ → ℕ → ℕ → Type 0
IsFinalAt n c old = (5 ≤ c) × (c < 5 + n) × (is_final old ≡ true)

pub free_growth : (n c old new : ℕ) → c ≢ 1 → ¬ IsFinalAt n c old → IsGrowthTest n c old new (nat_le old new)
free_growth n c old new apart open_ = (
  λ t. record {
    number = leb-true old new t;
    suspected = λ e. absurd (apart e);
    final = λ s l e f. absurd (open_ (omega (arith, e), omega (arith, e, l), f));
  },
  λ g. le-leb old new g.number,
)
