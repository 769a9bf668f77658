-- Masks of members of the roster, and of those whose logs were handed in.
use Rattle.std.proofs.Common.{◌≡◌, ◌≢◌, refl, ap, sym, subst, ◌∙◌, ◌⊎◌, inl, inr, ℕ, ◌+◌, ◌^◌, ◌<◌, ◌≤◌, ◌==◌, ◌&&◌, ◌||◌, nat_lt, arith, Bool, true, false, List, length, Option, None, is_some, get_or}
use Rattle.std.proofs.lemmas.{Bool.{cases_eq, cases_lt}, List.{get_or_past, get_or_read_under}}
use Rattle.dr_history.{specs.Members.has, proofs.Masks.same_masks}
use Rattle.dr_restart.specs.{Choosing.handed_of, declared.lists.LogLists.LogLists}
use Rattle.dr_words.{specs.Masks.with_member, proofs.Masks.{has_mask_of, has_with_member, with_member_small}}
use Rattle.dr_quorum.specs.Handing.{handed_by}

-- whether the log of a member of the mask was handed in
abbrev pub is_handed : List (Option LogLists) → ℕ → ℕ → Bool
is_handed logs members i = has members i && is_some (handed_by logs i)

pub handed_at : (logs : List (Option LogLists)) (members m : ℕ) (r : Option LogLists) (b : Bool)
    → m < length logs → r ≡ get_or logs m r → is_some r ≡ b → has members m ≡ true → is_handed logs members m ≡ b
handed_at logs members m r b within is some there = grind (
  arith,
  there,
  some,
  ap is_some (get_or_read_under logs m (length logs) r None is within refl),
)

-- the mask has those of them with a number below m
pub record HasThoseBelow (logs : List (Option LogLists)) (members m mask : ℕ) : Type 0 where
  pub small : mask < 2 ^ 16
  pub those : (i : ℕ) → has mask i ≡ (nat_lt i m && is_handed logs members i)

pub one_below : (logs : List (Option LogLists)) (members m mask : ℕ) → m < 16 → is_handed logs members m ≡ true
    → HasThoseBelow logs members m mask → HasThoseBelow logs members (m + 1) (with_member mask m)
one_below logs members m mask few handed old = record {
  small = with_member_small mask m;
  those = λ i. has_with_member mask m i old.small few ∙ by i (cases_eq i m);
}
  where
    by : (i : ℕ) → (i ≡ m) ⊎ (i ≢ m) → (i == m || has mask i) ≡ (nat_lt i (m + 1) && is_handed logs members i)
    by i (inl e) = grind (arith, e, subst (λ j. is_handed logs members j ≡ true) (sym e) handed)
    by i (inr d) = grind (arith, d, old.those i)

pub other_below : (logs : List (Option LogLists)) (members m mask : ℕ)
    → is_handed logs members m ≡ false → HasThoseBelow logs members m mask → HasThoseBelow logs members (m + 1) mask
other_below logs members m mask handed old = record {
  small = old.small;
  those = λ i. old.those i ∙ by i (cases_eq i m);
}
  where
    by : (i : ℕ) → (i ≡ m) ⊎ (i ≢ m)
        → (nat_lt i m && is_handed logs members i) ≡ (nat_lt i (m + 1) && is_handed logs members i)
    by i (inl e) = grind (arith, e, subst (λ j. is_handed logs members j ≡ false) (sym e) handed)
    by i (inr d) = grind (arith, d)

pub all_below : (logs : List (Option LogLists)) (members m mask : ℕ) → (m ≡ 16)
    ⊎ (length logs ≤ m) → m ≤ 16 → HasThoseBelow logs members m mask → mask ≡ handed_of (handed_by logs) members
all_below logs members m mask end most old = same_masks mask (handed_of (handed_by logs) members)
    (λ i. old.those i ∙ by i end (cases_lt i m) (cases_lt i 16) ∙ sym (has_mask_of
    (λ j. has members j && is_some (handed_by logs j)) i))
  where
    past : (i : ℕ) → length logs ≤ i → is_handed logs members i ≡ false
    past i l = grind (arith, ap is_some (get_or_past logs i None l))

    by : (i : ℕ) → (m ≡ 16) ⊎ (length logs ≤ m) → (i < m) ⊎ (m ≤ i) → (i < 16) ⊎ (16 ≤ i)
        → (nat_lt i m && is_handed logs members i) ≡ (nat_lt i 16 && is_handed logs members i)
    by i e (inl l) (inl f) = grind (arith, l, f)
    by i e (inl l) (inr f) = absurd (omega (arith, l, f, most))
    by i (inl e) (inr l) (inl f) = absurd (omega (arith, e, l, f))
    by i (inr e) (inr l) (inl f) = grind (arith, l, f, past i (omega (arith, e, l)))
    by i e (inr l) (inr f) = grind (arith, l, f)
