-- Masks by what they have, and parts, least members and majorities of masks.
use Rattle.std.specs.Prelude.{◌≡◌, ℕ, zero, suc, ◌+◌, ◌*◌, ◌^◌, ◌<◌, ◌≤◌, ◌==◌, ◌&&◌, ◌||◌, not, Bool, true, if◌then◌else◌, length, slice_index}
use Rattle.dr_entry.specs.declared.limits.TheConstants.{MAX_MEMBERS}
use Rattle.dr_history.specs.Members.{has, members_of}

-- the mask of the members with a number below n that pass a test
unfoldable pub mask_below : (ℕ → Bool) → ℕ → ℕ
mask_below test zero = 0
mask_below test (suc n) = mask_below test n + (if test n then 2 ^ n else 0)

-- the mask of the members that pass a test
unfoldable pub mask_of : (ℕ → Bool) → ℕ
mask_of test = mask_below test MAX_MEMBERS

-- the mask with one member more, and without the members of another
abbrev pub with_member : ℕ → ℕ → ℕ
with_member mask n = mask_of (λ i. i == n || has mask i)

abbrev pub without : ℕ → ℕ → ℕ
without mask other = mask_of (λ i. has mask i && not (has other i))

-- the members that come of a view by a mask of names: those of the view that it doesn't name, and those that
-- it names and the view lacks
abbrev pub next_members : ℕ → ℕ → ℕ
next_members members names = mask_of (λ i. if has names i then not (has members i) else has members i)

-- the member of a mask with the lowest number, and 0 of nobody
unfoldable pub least_of : ℕ → ℕ
least_of mask = slice_index (members_of mask) 0

-- each member of the first mask is in the second
abbrev pub IsPartOf : ℕ → ℕ → Type 0
IsPartOf part whole = (n : ℕ) → has part n ≡ true → has whole n ≡ true

-- the mask names members of a roster of so many alone
abbrev pub IsInRoster : ℕ → ℕ → Type 0
IsInRoster members mask = (n : ℕ) → has mask n ≡ true → n < members

-- the first mask has more than half as many members as the second
abbrev pub IsMajorityOf : ℕ → ℕ → Type 0
IsMajorityOf mask all = length (members_of all) < 2 * length (members_of mask)

-- the member with the lowest number in the mask
pub record IsLeastOf (mask n : ℕ) : Type 0 where
  pub number : n < MAX_MEMBERS
  pub member : has mask n ≡ true
  pub least : (i : ℕ) → has mask i ≡ true → n ≤ i
