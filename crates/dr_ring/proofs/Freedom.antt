-- The test whether an own slot is free.
use Rattle.std.{specs.List.list_all, proofs.lemmas.Bool.Decides.nat_tests}
use Rattle.std.proofs.Common.{◌≡◌, ◌≢◌, ℕ, ◌-◌, ◌≤◌, Bool, true, false, ◌||◌, ◌==◌, nat_lt, inl, inr, refl, arith}
use Rattle.dr_history.{specs.Members.{has, members_of}, proofs.Tests.all_members}
use Rattle.dr_words.{specs.{Counts.count_of, Masks.IsInRoster}, proofs.Tests.each_member}
use Rattle.dr_rows.specs.Words.{Words, row_of}
use Rattle.dr_ring.specs.Slots.{IsFree, is_free}

-- the test answers true exactly where the slot is free
pub is_free-true : (window : ℕ) (w : Words) (members k : ℕ) → IsFree window w members k
    → is_free window w members k ≡ true
is_free-true window w members k (inl early) = grind (arith, nat_tests)
is_free-true window w members k (inr received) =
    let all : list_all (λ i. i == w.me || nat_lt (k - window) (count_of w.me (row_of w.words i)))
    (members_of members) ≡ true = all_members (λ i. i == w.me || nat_lt (k - window)
    (count_of w.me (row_of w.words i))) members (λ i member. grind (arith, nat_tests, received i)) in
    grind (arith, nat_tests)

-- a slot that passes the test is free
pub IsFree-from_test : (window : ℕ) (w : Words) (members k : ℕ) → w.members ≤ 16
    → IsInRoster w.members members → is_free window w members k ≡ true → IsFree window w members k
IsFree-from_test window w members k few roster free = by (nat_lt k window) refl
  where
    p : ℕ → Bool
    p = λ i. i == w.me || nat_lt (k - window) (count_of w.me (row_of w.words i))

    by : (early : Bool) → nat_lt k window ≡ early → IsFree window w members k
    by true e = inl (grind (arith, nat_tests))
    by false e = inr (λ i member other.
        let passes : p i ≡ true = each_member p w.members members few roster (grind arith) i member in
        grind (arith, nat_tests))

-- a member that has not received the item before is enough for the test to fail
pub is_free-false : (window : ℕ) (w : Words) (members k i : ℕ) → window ≤ k → w.members ≤ 16
    → IsInRoster w.members members → has members i ≡ true → i ≢ w.me → count_of w.me (row_of w.words i) ≤ k - window
    → is_free window w members k ≡ false
is_free-false window w members k i late few roster member other behind = by (is_free window w members k) refl
  where
    refused : IsFree window w members k → ⊥
    refused (inl early) = absurd (omega arith)
    refused (inr received) = absurd (omega (arith, received i member other))

    by : (free : Bool) → is_free window w members k ≡ free → is_free window w members k ≡ false
    by true e = absurd (refused (IsFree-from_test window w members k few roster e))
    by false e = e
