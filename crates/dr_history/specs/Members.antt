-- Members of a group as a mask: member n belongs to it exactly where bit n is set. A number of a
-- member is below `MAX_MEMBERS`.
use Rattle.std.specs.Prelude.{ℕ, zero, suc, ◌/◌, ◌%◌, ◌^◌, ◌==◌, Bool, List, [], ◌∷◌, ◌++◌, if◌then◌else◌}
use Rattle.dr_entry.specs.declared.limits.TheConstants.{MAX_MEMBERS}

-- whether member n is in the mask
abbrev pub has : ℕ → ℕ → Bool
has mask n = mask / 2 ^ n % 2 == 1

-- the members of the mask with a number below n, ascending
unfoldable pub members_below : ℕ → ℕ → List ℕ
members_below mask zero = []
members_below mask (suc n) = members_below mask n ++ (if has mask n then n ∷ [] else [])

-- the members of the mask, ascending
unfoldable pub members_of : ℕ → List ℕ
members_of mask = members_below mask MAX_MEMBERS
