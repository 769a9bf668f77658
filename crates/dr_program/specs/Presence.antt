-- Lists with a place for each member of the roster, by number, which is empty where the member is absent.
use Rattle.std.specs.Prelude.{ℕ, List, Option, None, Some, slice_index_or, slice_set}

-- what stands at the place of member m: nothing where it is empty, or where there is no such place
abbrev pub present_at : {A : Type 0} → List (Option A) → ℕ → Option A
present_at xs m = slice_index_or xs m None

-- the list with this at the place of member m
abbrev pub with_present : {A : Type 0} → List (Option A) → ℕ → A → List (Option A)
with_present xs m x = slice_set xs m (Some x)
