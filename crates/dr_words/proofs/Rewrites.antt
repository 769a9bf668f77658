-- The own words that a member makes anew, as it suspects somebody and as it accepts a value: what stands in
-- them, and that they are in form and have grown.
use Rattle.std.proofs.Common.{◌≡◌, ◌≢◌, ℕ, ◌-◌, ◌^◌, ◌<◌, ◌≤◌, ◌==◌, ◌⊎◌, inl, inr, Bool, true, false, if◌then◌else◌, refl, sym, ap, subst, ◌∙◌, arith}
use Rattle.std.proofs.lemmas.Bool.Decides.{nat_tests}
use Rattle.dr_entry.{specs.declared.record.Value.Value, proofs.Records.FitsWords}
use Rattle.dr_history.specs.Members.{has}
use Rattle.dr_rows.specs.Words.{Words, IsWords, is_frozen, own, rewritten, with_frozen, word_at}
use Rattle.dr_rows.proofs.Rewrites.{frozen_more, rewritten_either, row_rewritten}
use Rattle.dr_words.{specs.{Accepts.part_of, Masks.IsPartOf}, proofs.Forms.accept_between}
use Rattle.dr_words.specs.{Columns.{head_column, recv_column}, declared.column.TheConstants.SUSPECTED_COLUMN}
use Rattle.dr_words.{specs.Form.{AllInForm, IsInForm}, proofs.Order.{HasGrown_refl, HasGrown_same, IsPartOf-le}}
use Rattle.dr_words.specs.{Grown.{Grown, HasGrown}, Rewrites.{accepted_word, is_accept_of, is_recv_of, wedged_word}}
use Rattle.dr_words.specs.Packing.{accept_promise, accept_tag, accept_value, accept_word, is_final, recv_count, recv_word}
use Rattle.dr_words.proofs.Accepts.{accept_within, packed_promise, packed_tag, packed_value, part_leavers, part_small, part_trim, tag_small, value_small}

-- ---- a word of a member that suspects somebody

-- the recv words of members stand before the accept words
pub recv_within : (n members c : ℕ) → is_recv_of n members c ≡ true → (recv_column 0 ≤ c) × (c < recv_column n)
recv_within n members c is = (grind (arith, nat_tests, is), grind (arith, nat_tests, is))

-- the column of a sender is that of one of them where the sender is
recv_of : (n members s : ℕ) → s < n → is_recv_of n members (recv_column s) ≡ has members s
recv_of n members s within =
    let place : recv_column s - recv_column 0 ≡ s = omega arith in rw place (grind (arith, nat_tests, within))

-- what holds of each of the words that it may be, holds of it
pub wedged_by : (n members mask promise c word : ℕ) (P : ℕ → Type 0) → (c ≡ SUSPECTED_COLUMN → P mask)
    → (is_recv_of n members c ≡ true → P (recv_word (recv_count word) true))
    → (is_accept_of n members c ≡ true → P (accept_word promise (accept_tag word) (accept_value word)))
    → P word → P (wedged_word n members mask promise c word)
wedged_by n members mask promise c word P suspected recv accept same =
    by (c == SUSPECTED_COLUMN) (is_recv_of n members c) (is_accept_of n members c) refl refl refl
  where
    by : (a b d : Bool) → (c == SUSPECTED_COLUMN) ≡ a → is_recv_of n members c ≡ b
        → is_accept_of n members c ≡ d → P (if a then mask else (if b then recv_word (recv_count word) true
        else (if d then accept_word promise (accept_tag word) (accept_value word) else word)))
    by true b d e f g = suspected (grind (arith, nat_tests, e))
    by false true d e f g = recv f
    by false false true e f g = accept g
    by false false false e f g = same

-- a recv word is final if its sender is of the view
pub wedged_recv : (n members mask promise s word : ℕ) → s < n
    → wedged_word n members mask promise (recv_column s) word
    ≡ (if has members s then recv_word (recv_count word) true else word)
wedged_recv n members mask promise s word within =
    let apart : (recv_column s == SUSPECTED_COLUMN) ≡ false = grind arith in
    let none : is_accept_of n members (recv_column s) ≡ false = grind (arith, nat_tests, within) in
    rw (apart, recv_of n members s within, none) refl

-- and has the same count
pub wedged_count : (n members mask promise s word : ℕ) → s < n
    → recv_count (wedged_word n members mask promise (recv_column s) word) ≡ recv_count word
wedged_count n members mask promise s word within = wedged_by n members mask promise
    (recv_column s) word (λ (x : ℕ). recv_count x ≡ recv_count word) (λ e. absurd (omega (arith, e)))
    (λ is. omega arith) (λ is. absurd (omega (arith, accept_within n members (recv_column s) is, within))) refl

pub wedged_final : (n members mask promise s word : ℕ) → s < n → has members s ≡ true
    → is_final (wedged_word n members mask promise (recv_column s) word) ≡ true
wedged_final n members mask promise s word within member =
    rw (wedged_recv n members mask promise s word within, member) (grind arith)

-- an accept word has the new promise, and the tag and the value as before
pub wedged_accept : (n members mask promise c word : ℕ) → is_accept_of n members c ≡ true
    → wedged_word n members mask promise c word ≡ accept_word promise (accept_tag word) (accept_value word)
wedged_accept n members mask promise c word is =
    let at = accept_within n members c is in
    let apart : (c == SUSPECTED_COLUMN) ≡ false = grind (arith, at) in
    let other : is_recv_of n members c ≡ false = grind (arith, nat_tests, at) in rw (apart, other, is) refl

pub wedged_promise : (n members mask promise c word : ℕ) → is_accept_of n members c ≡ true
    → accept_promise (wedged_word n members mask promise c word) ≡ promise
wedged_promise n members mask promise c word is = ap accept_promise (wedged_accept n members mask promise c word is)
    ∙ packed_promise promise (accept_tag word) (accept_value word) (tag_small word) (value_small word)

pub wedged_tag : (n members mask promise c word : ℕ) → is_accept_of n members c ≡ true
    → accept_tag (wedged_word n members mask promise c word) ≡ accept_tag word
wedged_tag n members mask promise c word is = ap accept_tag (wedged_accept n members mask promise c word is)
    ∙ packed_tag promise (accept_tag word) (accept_value word) (tag_small word) (value_small word)

pub wedged_value : (n members mask promise c word : ℕ) → is_accept_of n members c ≡ true
    → accept_value (wedged_word n members mask promise c word) ≡ accept_value word
wedged_value n members mask promise c word is = ap accept_value (wedged_accept n members mask promise c word is)
    ∙ packed_value promise (accept_tag word) (accept_value word) (tag_small word) (value_small word)

-- all others are as before
pub wedged_rest : (n members mask promise c word : ℕ) → c ≢ SUSPECTED_COLUMN
    → (c < recv_column 0) ⊎ (head_column n 0 ≤ c) → wedged_word n members mask promise c word ≡ word
wedged_rest n members mask promise c word other outside =
    wedged_by n members mask promise c word (λ (x : ℕ). x ≡ word) (λ e. absurd (other e))
    (λ is. beside (recv_within n members c is) outside) (λ is. behind (accept_within n members c is) outside) refl
  where
    beside : (recv_column 0 ≤ c) × (c < recv_column n) → (c < recv_column 0) ⊎ (head_column n 0 ≤ c)
        → recv_word (recv_count word) true ≡ word
    beside at (inl l) = absurd (omega (arith, at, l))
    beside at (inr g) = absurd (omega (arith, at, g))

    behind : (recv_column n ≤ c) × (c < head_column n 0) → (c < recv_column 0) ⊎ (head_column n 0 ≤ c)
        → accept_word promise (accept_tag word) (accept_value word) ≡ word
    behind at (inl l) = absurd (omega (arith, at, l))
    behind at (inr g) = absurd (omega (arith, at, g))

-- it is in form, where the mask names members of the roster and the promise is to one
pub wedged_in_form : (n members mask promise c word : ℕ) → mask < 2 ^ n → promise < n
    → IsInForm n c word → IsInForm n c (wedged_word n members mask promise c word)
wedged_in_form n members mask promise c word small voter is = wedged_by n members mask promise c word (IsInForm n c)
    (λ e. record {
      suspected = λ s. small;
      done = λ d. absurd (omega (arith, e, d));
      recv = λ s l r. absurd (omega (arith, e, r));
      promise = λ a. absurd (omega (arith, e, accept_between n c a));
      tag = λ a. absurd (omega (arith, e, accept_between n c a));
      leavers = λ l. absurd (omega (arith, e, l));
      trim = λ s l t. absurd (omega (arith, e, t));
    }) (λ r. let at = recv_within n members c r in record {
      suspected = λ s. absurd (omega (arith, at, s));
      done = λ d. absurd (omega (arith, at, d));
      recv = λ s l q. omega (arith, is.recv s l q);
      promise = λ a. absurd (omega (arith, at, accept_between n c a));
      tag = λ a. absurd (omega (arith, at, accept_between n c a));
      leavers = λ l. absurd (omega (arith, at, l));
      trim = λ s l t. absurd (omega (arith, at, t));
    })
    (λ r. let at = accept_within n members c r in
    let tagged = packed_tag promise (accept_tag word) (accept_value word) (tag_small word) (value_small word) in
    let valued = packed_value promise (accept_tag word) (accept_value word) (tag_small word) (value_small word) in
    record {
      suspected = λ s. absurd (omega (arith, at, s));
      done = λ d. absurd (omega (arith, at, d));
      recv = λ s l q. absurd (omega (arith, at, l, q));
      promise = λ a. rw (packed_promise promise (accept_tag word) (accept_value word) (tag_small word)
          (value_small word)) voter;
      tag = λ a. rw tagged (is.tag a);
      leavers = λ l. rw valued (is.leavers l);
      trim = λ s l t. rw valued (is.trim s l t);
    }) is

-- and has grown, where the mask has and no promise falls
pub wedged_grown : (n members mask promise c word : ℕ) → (c ≡ SUSPECTED_COLUMN → IsPartOf word mask)
    → (is_accept_of n members c ≡ true → accept_promise word ≤ promise)
    → HasGrown n c word (wedged_word n members mask promise c word)
wedged_grown n members mask promise c word part rises = wedged_by n members mask promise c word (HasGrown n c word)
    (λ e. record {
      number = IsPartOf-le word mask (part e);
      suspected = part;
      final = λ s l r. absurd (omega (arith, e, r));
    }) (λ r. let at = recv_within n members c r in record {
      number = omega arith;
      suspected = λ s. absurd (omega (arith, at, s));
      final = λ s l q f. grind (arith, nat_tests, f);
    }) (λ r. let at = accept_within n members c r in record {
      number = omega (arith, rises r);
      suspected = λ s. absurd (omega (arith, at, s));
      final = λ s l q. absurd (omega (arith, at, l, q));
    }) (HasGrown_refl n c word)

-- ---- a word of a member that accepts a value

-- what holds of each of the words that it may be, holds of it
pub accepted_by : (n members tag : ℕ) (v : Value) (c word : ℕ) (P : ℕ → Type 0)
    → (is_accept_of n members c ≡ true → P (accept_word (accept_promise word) tag (part_of n v c)))
    → P word → P (accepted_word n members tag v c word)
accepted_by n members tag v c word P accept same = by (is_accept_of n members c) refl
  where
    by : (b : Bool) → is_accept_of n members c ≡ b → P (accepted_word n members tag v c word)
    by true e = rw e (accept e)
    by false e = rw e same

-- an accept word has the promise as before, the tag, and its part of the value
accepted_there : (n members tag : ℕ) (v : Value) (c word : ℕ) → is_accept_of n members c ≡ true
    → accepted_word n members tag v c word ≡ accept_word (accept_promise word) tag (part_of n v c)
accepted_there n members tag v c word is = rw is refl

pub accepted_promise : (n members tag : ℕ) (v : Value) (c word : ℕ) → FitsWords n tag v
    → is_accept_of n members c ≡ true → accept_promise (accepted_word n members tag v c word) ≡ accept_promise word
accepted_promise n members tag v c word fits is = ap accept_promise (accepted_there n members tag v c word is)
    ∙ packed_promise (accept_promise word) tag (part_of n v c) (omega (arith, fits.ballot, fits.few))
    (part_small n tag c v fits)

pub accepted_tag : (n members tag : ℕ) (v : Value) (c word : ℕ) → FitsWords n tag v
    → is_accept_of n members c ≡ true → accept_tag (accepted_word n members tag v c word) ≡ tag
accepted_tag n members tag v c word fits is = ap accept_tag (accepted_there n members tag v c word is)
    ∙ packed_tag (accept_promise word) tag (part_of n v c) (omega (arith, fits.ballot, fits.few))
    (part_small n tag c v fits)

pub accepted_value : (n members tag : ℕ) (v : Value) (c word : ℕ) → FitsWords n tag v
    → is_accept_of n members c ≡ true → accept_value (accepted_word n members tag v c word) ≡ part_of n v c
accepted_value n members tag v c word fits is = ap accept_value (accepted_there n members tag v c word is)
    ∙ packed_value (accept_promise word) tag (part_of n v c) (omega (arith, fits.ballot, fits.few))
    (part_small n tag c v fits)

-- all others are as before
pub accepted_rest : (n members tag : ℕ) (v : Value) (c word : ℕ)
    → (c < recv_column n) ⊎ (head_column n 0 ≤ c) → accepted_word n members tag v c word ≡ word
accepted_rest n members tag v c word outside = accepted_by n members tag v c word (λ (x : ℕ). x ≡ word)
    (λ is. beside (accept_within n members c is) outside) refl
  where
    beside : (recv_column n ≤ c) × (c < head_column n 0) → (c < recv_column n) ⊎ (head_column n 0 ≤ c)
        → accept_word (accept_promise word) tag (part_of n v c) ≡ word
    beside at (inl l) = absurd (omega (arith, at, l))
    beside at (inr g) = absurd (omega (arith, at, g))

-- it is in form
pub accepted_in_form : (n members tag : ℕ) (v : Value) (c word : ℕ) → FitsWords n tag v
    → IsInForm n c word → IsInForm n c (accepted_word n members tag v c word)
accepted_in_form n members tag v c word fits is = accepted_by n members tag v c word (IsInForm n c)
    (λ a. let at = accept_within n members c a in
    let small = part_small n tag c v fits in
    let low : tag < 2 ^ 8 = omega (arith, fits.ballot, fits.few) in
    let valued = packed_value (accept_promise word) tag (part_of n v c) low small in record {
      suspected = λ e. absurd (omega (arith, at, e));
      done = λ e. absurd (omega (arith, at, e));
      recv = λ s l e. absurd (omega (arith, at, l, e));
      promise = λ k. rw (packed_promise (accept_promise word) tag (part_of n v c) low small) (is.promise k);
      tag = λ k. rw (packed_tag (accept_promise word) tag (part_of n v c) low small) fits.ballot;
      leavers = λ k. rw (valued, part_leavers n v c k) fits.leavers;
      trim = λ s l k. rw (valued, part_trim n v s c k) (fits.trims s);
    }) is

-- and has grown, where the tag is higher
pub accepted_grown : (n members tag : ℕ) (v : Value) (c word : ℕ)
    → (is_accept_of n members c ≡ true → accept_tag word < tag)
    → HasGrown n c word (accepted_word n members tag v c word)
accepted_grown n members tag v c word higher = accepted_by n members tag v c word (HasGrown n c word)
    (λ a. let at = accept_within n members c a in record {
      number = larger (part_of n v c) (higher a);
      suspected = λ e. absurd (omega (arith, at, e));
      final = λ s l e. absurd (omega (arith, at, l, e));
    }) (HasGrown_refl n c word)
  where
    larger : (x : ℕ) → accept_tag word < tag → word ≤ accept_word (accept_promise word) tag x
    larger x l = omega arith

-- ---- the own row, made anew

-- rows are in form where each own word that is made is
pub rewritten_in_form : (n : ℕ) (w : Words) (make : ℕ → ℕ → ℕ) → IsWords w
    → ((c : ℕ) → IsInForm n c (make c (own w c))) → AllInForm n w.words → AllInForm n (rewritten w make).words
rewritten_in_form n w make f made form i c = elim (rewritten_either w make i c f) [
  | inl kept ↦ subst (IsInForm n c) (sym kept) (form i c)
  | inr (row, new) ↦ subst (IsInForm n c) (sym new) (made c)
]

-- and have grown where each has
pub rewritten_grown : (n : ℕ) (w : Words) (make : ℕ → ℕ → ℕ) → IsWords w → ((c : ℕ) → HasGrown n c
    (own w c) (make c (own w c))) → Grown n w.words (rewritten w make).words w.frozen w.frozen
rewritten_grown n w make f grown = record {
  words = λ i c. elim (rewritten_either w make i c f) [
    | inl kept ↦ HasGrown_same n c (word_at w.words i c) (word_at (rewritten w make).words i c) kept
    | inr (row, new) ↦ rw (new, row) (grown c)
  ];
  frozen = λ i there. there;
  still = λ i there. row_rewritten w make i (λ e. absurd (cc (ap (λ (x : ℕ). is_frozen w x) e, there, f.alive)));
}

-- with one row more frozen they have grown
pub frozen_grown : (n : ℕ) (w : Words) (j : ℕ) → IsWords w → j < w.members
    → Grown n w.words w.words w.frozen (with_frozen w j).frozen
frozen_grown n w j f within = record {
  words = λ i c. HasGrown_refl n c (word_at w.words i c);
  frozen = λ i there. frozen_more w j i f within ∙ grind (arith, there);
  still = λ i there. refl;
}
