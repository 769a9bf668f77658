use Rattle.std.proofs.Common.{◌≡◌, ℕ, ◌<◌, take, slice_get, Some}
use Rattle.dr_entry.specs.declared.entry.Entry.TheVariants.{View}
use Rattle.dr_oracle.proofs.agreement.same_past.Given as goal

abbrev pub invariant-loop-i : goal.invariant-loop-i
invariant-loop-i l = (i : ℕ) → i < l.i → (j age number m n : ℕ) → slice_get l.one i ≡ Some (View age number m)
    → slice_get l.other j ≡ Some (View age number n) → (m ≡ n) × (take i l.one ≡ take j l.other)

abbrev pub invariant-loop-j : goal.invariant-loop-j
invariant-loop-j l = (j : ℕ) → j < l.j → (age number m n : ℕ) → slice_get l.one l.i ≡ Some (View age number m)
    → slice_get l.other j ≡ Some (View age number n) → (m ≡ n) × (take l.i l.one ≡ take j l.other)
