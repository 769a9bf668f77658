-- Words that are in form, and words that have grown.
use Rattle.std.specs.Prelude.{◌↔◌, IsTrue, nat_le}
use Rattle.std.proofs.Common.{◌≡◌, ◌≢◌, ℕ, ◌^◌, ◌<◌, ◌≤◌, ◌⊎◌, inl, inr, false, arith, refl, le_trans, List, ◌+◌, Bool, ◌-◌, nat_lt, true}
use Rattle.std.proofs.{Math.Pow.pow_mono, lemmas.{Bool.{le-leb, leb-true, lt-ltb, ltb-true}, Nat.pow_pos}}
use Rattle.dr_history.proofs.Bits.{has_zero}
use Rattle.dr_words.specs.{Columns.{head_column, recv_column}, Form.{IsAcceptColumn, IsInForm, AllInForm}}
use Rattle.dr_words.specs.{Grown.HasGrown, Packing.is_final, Rows.word_at}
use Rattle.dr_words.specs.declared.column.TheConstants.{DONE_COLUMN, SUSPECTED_COLUMN, LOGGED_COLUMN}

-- ---- form

-- a word 0 is in form
pub form_zero : (members column : ℕ) → 1 ≤ members → IsInForm members column 0
form_zero members column some = record {
  suspected = λ e. pow_pos members;
  done = λ e. omega arith;
  recv = λ s l e. omega arith;
  promise = λ a. omega arith;
  tag = λ a. omega arith;
  leavers = λ e. pow_pos members;
  trim = λ s l e. omega arith;
}

-- columns whose words have no form: neither masks nor counts nor accept words
abbrev pub IsFreeColumn : ℕ → ℕ → Type 0
IsFreeColumn n c = ((c ≢ SUSPECTED_COLUMN) × (c < DONE_COLUMN)) ⊎ (head_column n 0 ≤ c)

-- the accept words stand between the recv words and the ring
pub accept_between : (n c : ℕ) → IsAcceptColumn n c → (recv_column n ≤ c) × (c < head_column n 0)
accept_between n c (inl e) = (omega arith, omega arith)
accept_between n c (inr t) = (omega (arith, t.2), omega (arith, t.1, t.2))

no_accept : (n c : ℕ) → IsFreeColumn n c → IsAcceptColumn n c → ⊥
no_accept n c (inl f) a = absurd (omega (arith, f.1, accept_between n c a))
no_accept n c (inr f) a = absurd (omega (arith, accept_between n c a))

no_recv : (n c s : ℕ) → IsFreeColumn n c → s < n → c ≡ recv_column s → ⊥
no_recv n c s (inl f) l e = absurd (omega (arith, f.1))
no_recv n c s (inr f) l e = absurd (omega arith)

no_mask : (n c : ℕ) → IsFreeColumn n c → c ≡ 1 → ⊥
no_mask n c (inl f) e = f.0 e
no_mask n c (inr f) e = absurd (omega arith)

no_done : (n c : ℕ) → IsFreeColumn n c → c ≡ 4 → ⊥
no_done n c (inl f) e = absurd (omega (arith, f.1))
no_done n c (inr f) e = absurd (omega arith)

-- any word of a free column is in form
pub form_free : (n c word : ℕ) → IsFreeColumn n c → IsInForm n c word
form_free n c word free = record {
  suspected = λ e. absurd (no_mask n c free e);
  done = λ e. absurd (no_done n c free e);
  recv = λ s l e. absurd (no_recv n c s free l e);
  promise = λ a. absurd (no_accept n c free a);
  tag = λ a. absurd (no_accept n c free a);
  leavers = λ e. absurd (no_accept n c free (inl e));
  trim = λ s l e. absurd (no_accept n c free (inr (s, l, e)));
}

-- 0 and 1 are in the form of the done word
pub form_done : (n word : ℕ) → word ≤ 1 → IsInForm n DONE_COLUMN word
form_done n word small = record {
  suspected = λ e. absurd (omega arith);
  done = λ e. small;
  recv = λ s l e. absurd (omega arith);
  promise = λ a. absurd (omega (arith, accept_between n DONE_COLUMN a));
  tag = λ a. absurd (omega (arith, accept_between n DONE_COLUMN a));
  leavers = λ e. absurd (omega arith);
  trim = λ s l e. absurd (omega arith);
}

-- a number below 2 ^ 33 is in the form of a recv word
pub form_recv : (n s word : ℕ) → s < n → word < 2 ^ 33 → IsInForm n (recv_column s) word
form_recv n s word l small = record {
  suspected = λ e. absurd (omega arith);
  done = λ e. absurd (omega arith);
  recv = λ i j e. small;
  promise = λ a. absurd (omega (arith, l, accept_between n (recv_column s) a));
  tag = λ a. absurd (omega (arith, l, accept_between n (recv_column s) a));
  leavers = λ e. absurd (omega arith);
  trim = λ i j e. absurd (omega arith);
}

-- ---- growth

-- every word has grown from 0
pub grown_zero : (n c word : ℕ) → HasGrown n c 0 word
grown_zero n c word = record {
  number = omega arith;
  suspected = λ e i h. absurd (cc (h, has_zero i));
  final = λ s l e f. absurd (cc f);
}

-- a word of a free column grows where it rises
pub grown_free : (n c old new : ℕ) → IsFreeColumn n c → old ≤ new → HasGrown n c old new
grown_free n c old new free rises = record {
  number = rises;
  suspected = λ e. absurd (no_mask n c free e);
  final = λ s l e f. absurd (no_recv n c s free l e);
}

-- a done word 1 has grown from any other
pub grown_done : (n old : ℕ) → old ≤ 1 → HasGrown n DONE_COLUMN old 1
grown_done n old l = record {
  number = l;
  suspected = λ e. absurd (omega arith);
  final = λ s m e f. absurd (omega arith);
}

-- a count that was not final grows where it rises
pub grown_recv : (n s old new : ℕ) → is_final old ≡ false → old ≤ new → HasGrown n (recv_column s) old new
grown_recv n s old new free rises =
    record { number = rises; suspected = λ e. absurd (omega arith); final = λ i l e f. absurd (cc (f, free)) }

-- a suspected word has 16 bits
pub suspected_small : (n : ℕ) (rows : List (List ℕ)) → AllInForm n rows → n ≤ 16 → (i : ℕ)
    → word_at rows i SUSPECTED_COLUMN < 2 ^ 16
suspected_small n rows form l i = le_trans ((form i SUSPECTED_COLUMN).suspected refl) (pow_mono l)

-- any word of a ring's column is in form
pub ring_in_form : (members column word : ℕ) → head_column members 0 ≤ column → IsInForm members column word
ring_in_form members column word ring = record {
  suspected = λ e. absurd (omega arith);
  done = λ e. absurd (omega arith);
  recv = λ s lt e. absurd (omega arith);
  promise = λ a. absurd (apart a);
  tag = λ a. absurd (apart a);
  leavers = λ e. absurd (omega arith);
  trim = λ s lt e. absurd (omega arith);
}
  where
    apart : IsAcceptColumn members column → ⊥
    apart (inl e) = absurd (omega arith)
    apart (inr t) = absurd (omega (arith, t.1, t.2))

pub logged_in_form : (n x : ℕ) → IsInForm n LOGGED_COLUMN x
logged_in_form n x = record {
  suspected = λ e. absurd (omega (arith, e));
  done = λ e. absurd (omega (arith, e));
  recv = λ s l e. absurd (omega (arith, e));
  promise = λ is. absurd (no_accept is);
  tag = λ is. absurd (no_accept is);
  leavers = λ e. absurd (omega (arith, e));
  trim = λ s l e. absurd (omega (arith, e));
}
  where
    no_accept : (LOGGED_COLUMN ≡ 5 + n) ⊎ ((s : ℕ) × (s < n) × (LOGGED_COLUMN ≡ 6 + n + s)) → ⊥
    no_accept (inl e) = absurd (omega (arith, e))
    no_accept (inr t) = absurd (omega (arith, t.2))

-- a test says whether a word is in form
abbrev pub IsFormTest : ℕ → ℕ → ℕ → Bool → Type 0
IsFormTest n c w b = IsTrue b ↔ IsInForm n c w

pub mask_test : (n w : ℕ) → IsFormTest n 1 w (nat_le w (2 ^ n - 1))
mask_test n w = (
  λ t. record {
    suspected = λ e. omega (arith, pow_pos n, leb-true w (2 ^ n - 1) t);
    done = λ e. absurd (omega arith);
    recv = λ s l e. absurd (omega arith);
    promise = λ a. absurd (omega (arith, accept_between n 1 a));
    tag = λ a. absurd (omega (arith, accept_between n 1 a));
    leavers = λ e. absurd (omega arith);
    trim = λ s l e. absurd (omega arith);
  },
  λ f. let small : w < 2 ^ n = f.suspected refl in le-leb w (2 ^ n - 1) (omega (arith, small)),
)

pub done_test : (n w : ℕ) → IsFormTest n 4 w (nat_le w 1)
done_test n w = (λ t. form_done n w (leb-true w 1 t), λ f. le-leb w 1 (f.done refl))

pub recv_test : (n s w : ℕ) → s < n → IsFormTest n (5 + s) w (nat_lt w (2 ^ 33))
recv_test n s w l = (λ t. form_recv n s w l (ltb-true w (2 ^ 33) t), λ f. lt-ltb w (2 ^ 33) (f.recv s l refl))

pub free_test : (n c w : ℕ) → ((c ≢ 1) × (c < 4)) ⊎ (6 + (n + n) ≤ c) → IsFormTest n c w true
free_test n c w (inl f) = (λ t. form_free n c w (inl f), λ f. refl)
free_test n c w (inr f) = (λ t. form_free n c w (inr (omega (arith, f))), λ f. refl)
