-- What loops over lists have found.
use Rattle.std.proofs.{Common.{◌≡◌, ℕ, ◌≤◌, arith, List, length, Some, slice_get}, lemmas.Option.slice_get_within}
use Rattle.dr_entry.proofs.ListFacts.{KeepBelow}
use Rattle.dr_check.specs.Firsts.{AllKeep, FirstBreaks}

-- all of them do
pub below_all : {A : Type 0} (Keeps : ℕ → A → Type 0) (xs : List A) (n : ℕ) → length xs ≤ n
    → KeepBelow Keeps xs n → AllKeep Keeps xs
below_all Keeps xs n past before i x at = before i x (omega (arith, past, slice_get_within xs i x at)) at

-- the first that breaks it
pub first_breaks : {A : Type 0} (Keeps : ℕ → A → Type 0) (Breaks : ℕ → A → ℕ → Type 0) (xs : List A) (n line : ℕ)
    (y : A) → slice_get xs n ≡ Some y → Breaks n y line → KeepBelow Keeps xs n → FirstBreaks Keeps Breaks xs line
first_breaks Keeps Breaks xs n line y here breaks before = record {
  place = n;
  one = y;
  here = here;
  breaks = breaks;
  before = before;
}
