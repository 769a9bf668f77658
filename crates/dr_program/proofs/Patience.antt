-- How long a member waits for news of others, over its deeds.
use Rattle.std.proofs.Common.{Bool, true, false, ◌≡◌, arith, refl, ℕ, ◌+◌, ◌-◌, ◌<◌, ◌||◌, not, length, ◌⊎◌, ap, inl, inr, ◌≤◌}
use Rattle.std.proofs.lemmas.{Bool.{not-true, cases_lt}, List.get_or_past}
use Rattle.dr_entry.proofs.NumberFacts.{all_below, each_below}
use Rattle.dr_machine.{specs.declared.step.Step.Step, proofs.Events.is_look}
use Rattle.dr_program.specs.{Running.{Running, crashes_now, step_at, waits_after}, Steps.IsNoJoin}
use Rattle.dr_program.specs.{Turn.{is_beat, turn_begins}, declared.place.{Part.Part, TheConstants.TURN}}
use Rattle.dr_program.proofs.Parts.{numbered, ends_view, is_publish, is_take}
use Rattle.dr_program.proofs.StepsAt.{append_either, push_either, vote_either}
use Rattle.dr_program.specs.declared.place.Part.TheVariants as parts

-- the part is that of the looks, or of the take before them
abbrev pub is_looks : Part → Bool
is_looks parts.Take = true
is_looks parts.Look = true
is_looks part = false

pub no_take : (part : Part) → is_looks part ≡ false → is_take part ≡ false
no_take part other = grind (arith, other)

-- the looks come behind the take, with which a turn begins, and the last part begins the next
take_test : (part : Part) → is_take part ≡ true → part ≡ parts.Take
take_test part e = grind (arith, e)

pub looks_first : (a : ℕ) → a + 1 < length TURN → is_looks (numbered (a + 1)) ≡ true → numbered a ≡ parts.Take
unfolding all_below
looks_first a l looks = take_test (numbered a) (implied _ _
    (each_below (length TURN - 1) a (λ b. not (is_looks (numbered (b + 1))) || is_take (numbered b)) refl
    (omega (arith, l))) looks)
  where
    implied : (x y : Bool) → (not x || y) ≡ true → x ≡ true → y ≡ true
    implied true y t e = t
    implied false y t e = absurd (cc e)

pub looks_before : (a : ℕ) → a < length TURN → is_publish (numbered a) ≡ true → is_looks (numbered (a - 1)) ≡ false
unfolding all_below
looks_before a l back = implied _ _
    (each_below (length TURN) a (λ b. not (is_publish (numbered b)) || not (is_looks (numbered (b - 1)))) refl l) back
  where
    implied : (x y : Bool) → (not x || not y) ≡ true → x ≡ true → y ≡ false
    implied true y t e = not-true y t
    implied false y t e = absurd (cc e)

pub last_begins : (a : ℕ) → length TURN ≤ a + 1 → is_beat (numbered a) ≡ true
last_begins a l = by (cases_lt a (length TURN))
  where
    by : (a < length TURN) ⊎ (length TURN ≤ a) → is_beat (numbered a) ≡ true
    by (inl within) =
        let last : a ≡ length TURN - 1 = omega (arith, l, within) in ap (λ b. is_beat (numbered b)) last
    by (inr beyond) = ap is_beat (get_or_past TURN a turn_begins beyond)

-- only the looks of a turn are
pub plain_looks : (r : Running) (part : Part) (i c : ℕ) → is_looks part ≡ false → is_look (step_at r part i c) ≡ false
plain_looks r parts.Look i c other = absurd (cc other)
plain_looks r parts.Append i c other = append_either (λ s. is_look s ≡ false) r.failed refl (λ why. refl)
plain_looks r parts.Vote i c other = vote_either (λ s. is_look s ≡ false) r.failed _ refl (λ why. refl)
plain_looks r parts.Push i c other = push_either (λ s. is_look s ≡ false) (crashes_now r) i c refl refl
plain_looks r part i c other = refl

-- no step but a look and a join changes how long the member has waited, unless it ends its view
pub waits_stay : (word : ℕ) (r : Running) (s : Step) → is_look s ≡ false → IsNoJoin s → ends_view s ≡ false
    → waits_after word r s ≡ r.waits
waits_stay word r s other no_join stays = grind (arith, other, no_join, stays)
