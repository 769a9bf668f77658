-- A test of all members of a mask, and what it tells of each.
use Rattle.std.{specs.List.list_all, proofs.Common.{◌≡◌, ℕ, ◌≤◌, Bool, true, arith}}
use Rattle.dr_history.{specs.Members.{has, members_of}, proofs.Tests.each_below}
use Rattle.dr_words.specs.Masks.{IsInRoster}

-- a test that all members of a mask pass is passed by each
pub each_member : (p : ℕ → Bool) (n mask : ℕ) → n ≤ 16 → IsInRoster n mask
    → list_all p (members_of mask) ≡ true → (i : ℕ) → has mask i ≡ true → p i ≡ true
unfolding members_of
each_member p n mask few roster all i member = each_below p mask 16 i all (omega (arith, few, roster i member)) member
