-- Letters: whose they are, how many there are, and that a list is left for each that may be given.
use Rattle.std.{specs.Prelude.{None, Option, Some, is_some, slice_set}, proofs.lemmas.Bool.cases_lt}
use Rattle.std.proofs.Common.{◌≡◌, ◌⊎◌, ap, sym, subst, ◌∙◌, ℕ, zero, suc, ◌+◌, ◌-◌, ◌<◌, ◌≤◌, ◌&&◌, inl, inr, refl, Bool, true, false, not, List, [], ◌∷◌, length, take, if◌then◌else◌, cond, arith}
use Rattle.std.proofs.lemmas.List.{length-set, take_all, Sums.{count_by_more_no, count_by_more_yes, sum_by-cons}}
use Rattle.dr_entry.specs.declared.entry.Entry.{Entry}
use Rattle.dr_history.specs.{History.up_to_view, Members.{has, members_below, members_of}}
use Rattle.dr_history.proofs.Ranks.{length-members_below_suc}
use Rattle.dr_machine.specs.{Group.{Group, IsGroup, late_members, roster}, Run.IsReached, World.World}
use Rattle.dr_machine.specs.declared.step.Step.{Step}
use Rattle.dr_words.proofs.Masks.{has_without_mask, in_roster_small}
use Rattle.dr_faithful.proofs.ChosenViews.{views-first, views-there, IsLetter}
use Rattle.dr_program.specs.{Presence.present_at, Reading.letters_of, Replica.Replica}
use Rattle.dr_program.{specs.Steps.{given_to, stored_letters}, proofs.{Present.MayGet, Replicas.letters_then}}
use Rattle.dr_world_laws.proofs.Worlds.{Known, known}
use Rattle.dr_world.specs.{Posts.count_filled, Steps.lists_left}

-- ---- whose they are

-- a letter is there for a late member alone
pub letter_late : (g : Group) (w : World) (j : ℕ) (letter : List Entry) → IsGroup g → IsReached g w
    → w.letter j ≡ Some letter → has (late_members g) j ≡ true
letter_late g w j letter is reached there = has_without_mask g.opening.present g.opening.members j
    (in_roster_small 16 g.opening.present (λ i h. omega (arith, is.sound.present i h, is.most_members)))
    ∙ both (has g.opening.present j) (has g.opening.members j) present outside
  where
    y : Known g w
    y = known g w is reached

    t : IsLetter g y.values w.past j letter
    t = (y.chosen.letters.letters j letter there).0

    present : has g.opening.present j ≡ true
    present = views-there g y.values t.view j is t.member

    outside : has g.opening.members j ≡ false
    outside = ap (λ k. has k j) (sym (views-first g y.values)) ∙ t.new 0 (omega (arith, t.next))

    both : (a b : Bool) → a ≡ true → b ≡ false → (a && not b) ≡ true
    both a b here none = rw (here, none) refl

-- ---- how many there are

-- what is there at one place more
filled_next : {A : Type 0} (places : List (Option A)) (n : ℕ) (o : Option A) → n < length places
    → present_at places n ≡ o
    → count_filled (take (n + 1) places) ≡ count_filled (take n places) + (if is_some o then 1 else 0)
filled_next places n None within e = count_by_more_no is_some places n None within (ap is_some e) ∙ omega arith
filled_next places n (Some x) within e = count_by_more_yes is_some places n None within (ap is_some e)

-- and one member of a mask more
filled_more : {A : Type 0} (places : List (Option A)) (mask n : ℕ) (o : Option A)
    → n < length places → present_at places n ≡ o → ((x : A) → o ≡ Some x → has mask n ≡ true)
    → count_filled (take n places) ≤ length (members_below mask n)
    → count_filled (take (n + 1) places) ≤ length (members_below mask (suc n))
filled_more places mask n None within e named before = omega (
  arith,
  before,
  filled_next places n None within e,
  length-members_below_suc mask n,
)
filled_more places mask n (Some x) within e named before = omega (
  arith,
  before,
  filled_next places n (Some x) within e,
  length-members_below_suc mask n ∙ ap (λ b. length (members_below mask n) + (if b then 1 else 0)) (named x refl),
)

filled_past : {A : Type 0} (places : List (Option A)) (mask n : ℕ) → length places ≤ n
    → count_filled (take n places) ≤ length (members_below mask n)
    → count_filled (take (n + 1) places) ≤ length (members_below mask (suc n))
filled_past places mask n past before = omega (
  arith,
  before,
  ap count_filled (take_all (n + 1) places (omega (arith, past))),
  ap count_filled (take_all n places past),
  length-members_below_suc mask n,
)

-- they are no more than the members of a mask that has the number of each
filled_below : {A : Type 0} (places : List (Option A)) (mask n : ℕ)
    → ((k : ℕ) (x : A) → present_at places k ≡ Some x → has mask k ≡ true)
    → count_filled (take n places) ≤ length (members_below mask n)
filled_below places mask zero named = omega arith
filled_below {A} places mask (suc n) named = by (cases_lt n (length places)) (filled_below places mask n named)
  where
    next : n + 1 ≡ suc n
    next = omega arith

    by : (n < length places) ⊎ (length places ≤ n) → count_filled (take n places) ≤ length (members_below mask n)
        → count_filled (take (suc n) places) ≤ length (members_below mask (suc n))
    by (inl within) before = subst (λ k. count_filled (take k places) ≤ length (members_below mask (suc n))) next
        (filled_more places mask n (present_at places n) within refl (named n) before)
    by (inr past) before = subst (λ k. count_filled (take k places) ≤ length (members_below mask (suc n))) next
        (filled_past places mask n past before)

filled_few : {A : Type 0} (places : List (Option A)) (mask : ℕ) → length places ≤ 16 → ((k : ℕ)
    (x : A) → present_at places k ≡ Some x → has mask k ≡ true) → count_filled places ≤ length (members_of mask)
unfolding members_of
filled_few places mask few named =
    omega (arith, filled_below places mask 16 named, ap count_filled (take_all 16 places few))

filled_cons : {A : Type 0} (o : Option A) (places : List (Option A))
    → count_filled (o ∷ places) ≡ (if is_some o then 1 else 0) + count_filled places
filled_cons None places = sum_by-cons (λ o. cond (is_some o) 1 0) None places
filled_cons (Some x) places = sum_by-cons (λ o. cond (is_some o) 1 0) (Some x) places

-- one more where there was nothing
filled_set : {A : Type 0} (places : List (Option A)) (j : ℕ) (x : A) → j < length places
    → present_at places j ≡ None → count_filled (slice_set places j (Some x)) ≡ count_filled places + 1
filled_set [] j x within none = absurd (omega (arith, within))
filled_set (None ∷ places) zero x within none = omega (arith, filled_cons None places, filled_cons (Some x) places)
filled_set (Some y ∷ places) zero x within none = absurd (cc none)
filled_set (o ∷ places) (suc j) x within none = omega (
  arith,
  filled_cons o places,
  filled_cons o (slice_set places j (Some x)),
  filled_set places j x (omega (arith, within)) none,
)

-- the letters of a group are no more than its late members
letters_few : (g : Group) (w : World) (letters : List (Option (List Entry))) → IsGroup g → IsReached g w
    → length letters ≡ roster g → w.letter ≡ letters_of letters
    → count_filled letters ≤ length (members_of (late_members g))
letters_few g w letters is reached long are = filled_few letters (late_members g)
    (omega (arith, long, is.most_members)) (λ k x e. letter_late g w k x is reached (ap (λ f. f k) are ∙ e))

-- ---- the lists that are left

-- so a list is left for it, where after the welcome the letters are those of a reached world
pub list_left : (g : Group) (after : World) (letters : List (Option (List Entry))) (j left : ℕ) (x : List Entry)
    → IsGroup g → IsReached g after → length letters ≡ roster g → after.letter ≡ letters_of (slice_set letters j
    (Some x)) → MayGet g letters j → length (members_of (late_members g)) ≤ left + count_filled letters → 0 < left
list_left g after letters j left x is reached long are may enough = omega (
  arith,
  enough,
  letters_few g after (slice_set letters j (Some x)) is reached (length-set letters j (Some x) ∙ long) are,
  filled_set letters j x may.within may.none,
)

-- and enough are left then
pub enough_after : (letters : List (Option (List Entry))) (left late : ℕ) (r : Replica) (s : Step)
    → late ≤ left + count_filled letters → ((j : ℕ) → given_to s ≡ Some j → (0 < left) × (present_at letters j ≡ None)
    × (j < length letters)) → late ≤ lists_left left s + count_filled (stored_letters letters r s)
enough_after letters left late r s enough free = elim (letters_then letters r s) [
  | inl (j, welcome) ↦
      let may = free j (ap given_to welcome) in
      subst (λ s. late ≤ lists_left left s + count_filled (stored_letters letters r s)) (sym welcome)
      (omega (arith, enough, may.0, filled_set letters j (up_to_view r.history) may.2 may.1))
  | inr (none, same) ↦
      subst (λ o. late ≤ (if is_some o then left - 1 else left) + count_filled (stored_letters letters r s))
      (sym none) (subst (λ ls. late ≤ left + count_filled ls) (sym same) enough)
]
