-- The least number that passes a test is what a search from 0 on finds.
use Rattle.std.specs.Option.{option_and_then}
use Rattle.std.proofs.Common.{◌≡◌, ℕ, ◌<◌, Bool, true, false, Option, None, Some, is_some, refl, sym, ap, arith}
use Rattle.dr_entry.proofs.OptionFacts.{found_from, missing_from}
use Rattle.dr_suspect.specs.Answers.{least_where}

pub least_found : (test : ℕ → Bool) (i : ℕ) → i < 16 → test i ≡ true
    → ((k : ℕ) → k < i → test k ≡ false) → Some i ≡ least_where test
least_found test i within passes least = sym (found_from test 0 16 i (omega arith) (omega arith) passes least)

pub least_missing : (test : ℕ → Bool) → ((k : ℕ) → k < 16 → test k ≡ false) → None ≡ least_where test
least_missing test none = sym (missing_from test 0 16 (λ k l. none k (omega arith)))

-- of the pairs that pass a test, the one with the least first number, and of those the least second one
abbrev pub least_second : (ℕ → ℕ → Bool) → Option ℕ
least_second test = option_and_then (λ i. least_where (test i)) (least_where (λ i. is_some (least_where (test i))))

pub second_found : (test : ℕ → ℕ → Bool) (i j : ℕ) → i < 16 → j < 16 → test i j ≡ true
    → ((k l : ℕ) → k < i → test k l ≡ false) → ((l : ℕ) → l < j → test i l ≡ false) → Some j ≡ least_second test
second_found test i j within second passes rows least =
    rw (← least_found (λ k. is_some (least_where (test k))) i within (ap is_some (sym here))
    (λ k l. ap is_some (sym (least_missing (test k) (λ m b. rows k m l))))) here
  where
    here : Some j ≡ least_where (test i)
    here = least_found (test i) j second passes least

pub second_missing : (test : ℕ → ℕ → Bool) → ((k l : ℕ) → k < 16 → test k l ≡ false) → None ≡ least_second test
second_missing test none = rw (← least_missing
    (λ k. is_some (least_where (test k))) (λ k l. ap is_some (sym (least_missing (test k) (λ m b. none k m l))))) refl
