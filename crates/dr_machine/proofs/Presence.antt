-- Who is there.
use Rattle.std.proofs.Common.{◌≡◌, refl, ap, sym, ◌∙◌, length, ℕ, ◌<◌, ◌≤◌, ◌&&◌, not, Bool, true, false, arith, ◌↔◌, nat_lt}
use Rattle.std.proofs.lemmas.Bool.{and_from}
use Rattle.dr_entry.specs.declared.limits.TheConstants.{MAX_MEMBERS}
use Rattle.dr_history.specs.{Members.{has, members_of}, Order.IsLateIn, Soundness.whole_roster}
use Rattle.dr_history.proofs.{Bits.has_ones, MemberLemmas.few_members}
use Rattle.dr_machine.specs.Group.{AllPresent, Group, IsGroup, IsPresent, late_members, roster}
use Rattle.dr_words.{specs.Masks.IsPartOf, proofs.Masks.{has_without_mask, in_roster_small}}

-- who is there is of the roster
pub in_roster : (g : Group) (m : ℕ) → IsGroup g → IsPresent g m → m < roster g
in_roster g m is there = is.sound.present m there

-- each member of the first view is there
pub is_there : (g : Group) (m : ℕ) → IsGroup g → has g.opening.members m ≡ true → IsPresent g m
is_there g m is first = is.sound.part m first

-- and each of the roster, where all are
pub is_present : (g : Group) (m : ℕ) → AllPresent g → m < roster g → IsPresent g m
is_present g m all within = ap (λ mask. has mask m) all ∙ grind (arith, has_ones (roster g) m, within)

-- who is late is there, and not in the first view
pub late_in : (g : Group) (m : ℕ) → IsGroup g → has (late_members g) m ≡ true → IsLateIn g.opening m
late_in g m is late = both (has g.opening.present m) (has g.opening.members m)
    (sym (has_without_mask g.opening.present g.opening.members m
    (in_roster_small 16 g.opening.present (λ i h. omega (arith, is.sound.present i h, is.most_members)))) ∙ late)
  where
    both : (a b : Bool) → (a && not b) ≡ true → (a ≡ true) × (b ≡ false)
    both true true e = absurd (cc e)
    both true false e = (refl, refl)
    both false b e = absurd (cc e)

-- no more are late than a roster can have members
pub late_few : (g : Group) → length (members_of (late_members g)) ≤ MAX_MEMBERS
late_few g = few_members (late_members g)

-- the late members are those of the mask
pub late_test : (g : Group) (j : ℕ) → IsGroup g → (has (late_members g) j ≡ true) ↔ IsLateIn g.opening j
late_test g j is = (
  late_in g j is,
  λ late. has_without_mask g.opening.present g.opening.members j (in_roster_small 16 g.opening.present
      (λ i h. omega (arith, is.sound.present i h, is.most_members))) ∙ and_from _ _ late.0 (ap not late.1),
)

-- who is there is of the roster
pub present-part : (g : Group) → IsGroup g → IsPartOf g.opening.present (whole_roster g.opening)
present-part g is i there = has_ones (roster g) i ∙ by (in_roster g i is there)
  where
    by : i < roster g → nat_lt i (roster g) ≡ true
    by l = grind (arith, l)
