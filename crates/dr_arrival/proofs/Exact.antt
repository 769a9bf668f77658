-- The tests of words that arrive are exact.
use Rattle.std.{specs.Prelude.{◌↔◌, nat_le, not, IsTrue}, proofs.lemmas.Nat.pow_pos}
use Rattle.std.proofs.Common.{◌≡◌, ◌≢◌, ◌⊎◌, inl, inr, refl, sym, subst, ℕ, ◌+◌, ◌-◌, ◌^◌, ◌<◌, ◌≤◌, ◌==◌, ◌&&◌, nat_lt, Bool, true, false, bit_and, arith}
use Rattle.std.proofs.lemmas.Bool.{and_from, and_parts, cases_Bool, cases_eq, cases_lt, le-leb, le-ltb, leb-true, lt-ltb, ltb-true}
use Rattle.dr_words.{specs.{Form.IsInForm, Grown.HasGrown}, proofs.Packed.{final_growth, free_growth}}
use Rattle.dr_words.{specs.Packing.{accept_promise, accept_tag, accept_value, is_final}, proofs.Masks.mask_growth}
use Rattle.dr_words.proofs.{Forms.{IsFormTest, mask_test, done_test, recv_test, free_test}, Grown.IsGrowthTest}
use Rattle.dr_arrival.specs.Tests.{grown, in_form, is_accept}

-- ---- form, column by column

-- the three parts of an accept word
parts_of : (n most w : ℕ) → is_accept n most w ≡ true
    → (accept_promise w < n) × (accept_tag w ≤ n) × (accept_value w ≤ most)
parts_of n most w t =
    let a = and_parts (nat_lt (accept_promise w) n) (nat_le (accept_tag w) n && nat_le (accept_value w) most) t in
    let b = and_parts (nat_le (accept_tag w) n) (nat_le (accept_value w) most) a.1 in
    (ltb-true (accept_promise w) n a.0, leb-true (accept_tag w) n b.0, leb-true (accept_value w) most b.1)

of_parts : (n most w : ℕ) → accept_promise w < n → accept_tag w ≤ n → accept_value w ≤ most
    → is_accept n most w ≡ true
of_parts n most w p t v = and_from (nat_lt (accept_promise w) n)
    (nat_le (accept_tag w) n && nat_le (accept_value w) most)
    (lt-ltb (accept_promise w) n p) (and_from (nat_le (accept_tag w) n)
    (nat_le (accept_value w) most) (le-leb (accept_tag w) n t) (le-leb (accept_value w) most v))

leavers_test : (n w : ℕ) → IsFormTest n (5 + n) w (is_accept n (2 ^ n - 1) w)
leavers_test n w = (
  λ t. let p = parts_of n (2 ^ n - 1) w t in record {
    suspected = λ e. absurd (omega arith);
    done = λ e. absurd (omega arith);
    recv = λ s l e. absurd (omega (arith, l, e));
    promise = λ a. p.0;
    tag = λ a. p.1;
    leavers = λ e. omega (arith, pow_pos n, p.2);
    trim = λ s l e. absurd (omega arith);
  },
  λ f. let small : accept_value w < 2 ^ n = f.leavers refl in
      of_parts n (2 ^ n - 1) w (f.promise (inl refl)) (f.tag (inl refl)) (omega (arith, small)),
)

trim_test : (n s w : ℕ) → s < n → IsFormTest n (6 + n + s) w (is_accept n (2 ^ 32 - 1) w)
trim_test n s w l = (
  λ t. let p = parts_of n (2 ^ 32 - 1) w t in record {
    suspected = λ e. absurd (omega arith);
    done = λ e. absurd (omega arith);
    recv = λ i m e. absurd (omega (arith, m, e));
    promise = λ a. p.0;
    tag = λ a. p.1;
    leavers = λ e. absurd (omega arith);
    trim = λ i m e. omega (arith, p.2);
  },
  λ f. let small : accept_value w < 2 ^ 32 = f.trim s l refl in
      of_parts n (2 ^ 32 - 1) w (f.promise (inr (s, l, refl))) (f.tag (inr (s, l, refl))) (omega (arith, small)),
)

-- ---- and all of them

at_column : (n c d w : ℕ) (b : Bool) → c ≡ d → in_form n c w ≡ b → IsFormTest n d w b
    → IsFormTest n c w (in_form n c w)
at_column n c d w b same is test = subst (IsFormTest n c w) (sym is) (subst (λ x. IsFormTest n x w b) (sym same) test)

pub form_exact : (n c w : ℕ) → IsTrue (in_form n c w) ↔ IsInForm n c w
form_exact n c w = by (cases_eq c 1) (cases_eq c 4) (cases_lt c 5) (cases_lt c (5 + n)) (cases_eq c (5 + n))
    (cases_lt (5 + n + n) c)
  where
    by : (c ≡ 1) ⊎ (c ≢ 1) → (c ≡ 4) ⊎ (c ≢ 4) → (c < 5) ⊎ (5 ≤ c) → (c < 5 + n) ⊎ (5 + n ≤ c)
        → (c ≡ 5 + n) ⊎ (c ≢ 5 + n) → (5 + n + n < c) ⊎ (c ≤ 5 + n + n) → IsFormTest n c w (in_form n c w)
    by (inl e) y z u v t = at_column n c 1 w (nat_le w (2 ^ n - 1)) e (grind (arith, e)) (mask_test n w)
    by (inr d) (inl e) z u v t = at_column n c 4 w (nat_le w 1) e (grind (arith, e)) (done_test n w)
    by (inr d) (inr f) (inl l) u v t =
        at_column n c c w true refl (grind (arith, d, f, l)) (free_test n c w (inl (d, omega (arith, f, l))))
    by (inr d) (inr f) (inr g) u v (inl l) =
        at_column n c c w true refl (grind (arith, d, f, g, l)) (free_test n c w (inr (omega (arith, l))))
    by (inr d) (inr f) (inr g) (inl l) v (inr t) = at_column n c (5 + (c - 5)) w (nat_lt w (2 ^ 33))
        (omega (arith, g)) (grind (arith, d, f, g, l, t)) (recv_test n (c - 5) w (omega (arith, g, l)))
    by (inr d) (inr f) (inr g) (inr h) (inl e) (inr t) =
        at_column n c (5 + n) w (is_accept n (2 ^ n - 1) w) e (grind (arith, d, f, g, h, e, t)) (leavers_test n w)
    by (inr d) (inr f) (inr g) (inr h) (inr e) (inr t) =
        at_column n c (6 + n + (c - (6 + n))) w (is_accept n (2 ^ 32 - 1) w) (omega (arith, h, e))
        (grind (arith, d, f, g, h, e, t)) (trim_test n (c - (6 + n)) w (omega (arith, h, e, t)))

-- ---- growth

growth_at : (n c d old new : ℕ) (b : Bool) → c ≡ d → grown n c old new ≡ b → IsGrowthTest n d old new b
    → IsGrowthTest n c old new (grown n c old new)
growth_at n c d old new b same is test =
    subst (IsGrowthTest n c old new) (sym is) (subst (λ x. IsGrowthTest n x old new b) (sym same) test)

pub growth_exact : (n c old new : ℕ) → IsTrue (grown n c old new) ↔ HasGrown n c old new
growth_exact n c old new = by (cases_eq c 1) (cases_lt c 5) (cases_lt c (5 + n)) (cases_Bool (is_final old))
  where
    by : (c ≡ 1) ⊎ (c ≢ 1) → (c < 5) ⊎ (5 ≤ c) → (c < 5 + n) ⊎ (5 + n ≤ c)
        → (is_final old ≡ true) ⊎ (is_final old ≡ false) → IsGrowthTest n c old new (grown n c old new)
    by (inl e) y z f = growth_at n c 1 old new (nat_le old new && (bit_and old new == old)) e
        (grind (arith, e)) (mask_growth n old new)
    by (inr d) (inl l) z f = growth_at n c c old new (nat_le old new) refl (grind (arith, d, l))
        (free_growth n c old new d (λ x. absurd (omega (arith, x.0, l))))
    by (inr d) (inr g) (inr h) f = growth_at n c c old new (nat_le old new) refl (grind (arith, d, g, h))
        (free_growth n c old new d (λ x. absurd (omega (arith, x.1, h))))
    by (inr d) (inr g) (inl l) (inl f) = growth_at n c (5 + (c - 5)) old new (new == old) (omega (arith, g))
        (grind (arith, d, g, l, f)) (final_growth n (c - 5) old new (omega (arith, g, l)) f)
    by (inr d) (inr g) (inl l) (inr f) = growth_at n c c old new (nat_le old new) refl (grind (arith, d, g, l, f))
        (free_growth n c old new d (λ x. absurd (cc (x.2, f))))

-- what has grown where it is greater passes that test
pub growth_passes : (n c stands word : ℕ) → (stands < word → HasGrown n c stands word)
    → (nat_lt stands word && not (grown n c stands word)) ≡ false
growth_passes n c stands word grows = by (cases_lt stands word)
  where
    by : (stands < word) ⊎ (word ≤ stands) → (nat_lt stands word && not (grown n c stands word)) ≡ false
    by (inl l) = grind (arith, (growth_exact n c stands word).1 (grows l))
    by (inr l) = grind (arith, le-ltb stands word l)
