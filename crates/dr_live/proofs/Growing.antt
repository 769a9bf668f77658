-- Messages that have grown: what stood stands, and what was accepted is.
use Rattle.std.{specs.Prelude.All, proofs.lemmas.{List.Elements.All-nil, Option.{same_Some, slice_get_within}}}
use Rattle.std.proofs.Common.{◌≡◌, sym, ap, ◌∙◌, subst, ℕ, zero, suc, ◌+◌, ◌-◌, ◌<◌, ◌≤◌, ◌⊎◌, inl, inr, arith, List, [], ◌∷◌, ◌++◌, length, length-append, take, Some, slice_get}
use Rattle.dr_ages.proofs.{Fresh.IsRoomyAt, Good.IsGood}
use Rattle.dr_entry.specs.{Messages.IsMessage, declared.limits.TheConstants.MAX_MESSAGES}
use Rattle.dr_entry.proofs.ListPlaces.{slice_get-left, slice_get-push_cases, slice_get-seam, slice_get-some}
use Rattle.dr_opening.specs.Accepted.{judged_by}
use Rattle.dr_script.specs.{Ranges.{HasFaultRanges, HasRanges}, declared.script.Script.Script}
use Rattle.dr_senders.specs.Senders.{HaveGrown, Lists}
use Rattle.dr_senders.proofs.Growth.{grown_length, grown_same, grown_then, stands_grown}
use Rattle.dr_yard.specs.Yards.{YardState}
use Rattle.dr_live.specs.Live.{AreGrowing, IsLastOf, IsLivePlan, plan_with}
use Rattle.dr_live.proofs.Choosing.{chosen_before, used_before}

-- ---- what stands

good_grown : (plan : Script) (old new : Lists) (yard : YardState) → HaveGrown old new
    → IsGood (plan_with plan old) yard → IsGood (plan_with plan new) yard
good_grown plan old new yard grown good = record {
  accepted = λ contents found.
      let are = good.accepted contents found in
      record {
        sound = λ m es at i e here. stands_grown (judged_by (plan_with plan old))
            (judged_by (plan_with plan new)) (take i es) e grown (are.sound m es at i e here);
        along = are.along;
      };
  whole = good.whole;
}

pub roomy_grown : (plan : Script) (old new : Lists) (k : ℕ) (yard : YardState) → HaveGrown old new
    → IsRoomyAt (plan_with plan old) 9 0 k yard → IsRoomyAt (plan_with plan new) 9 0 k yard
roomy_grown plan old new k yard grown roomy = record {
  tell = roomy.tell;
  good = good_grown plan old new yard grown roomy.good;
  few = roomy.few;
  next = λ contents start found chosen.
      roomy.next contents start found (chosen_before plan old new yard contents start long roomy.good found chosen);
  last = λ contents found used.
      roomy.last contents found (used_before plan old new yard contents long roomy.good found used);
}
  where
    long : length new ≡ length old
    long = grown_length old new grown

-- ---- what grows from age to age

pub growing_tail : (x : Lists) (xs : List Lists) → AreGrowing (x ∷ xs) → AreGrowing xs
growing_tail x xs growing i old new at_old at_new =
    let e : suc i + 1 ≡ suc (i + 1) = omega arith in
    growing (suc i) old new at_old (ap (slice_get (x ∷ xs)) e ∙ at_new)

-- one is nothing to grow
pub growing_one : (x : Lists) → AreGrowing (x ∷ [])
growing_one x zero old new at_old at_new = absurd (cc)
growing_one x (suc i) old new at_old at_new = absurd (cc)

-- the last one grows
pub growing_last : (xs : List Lists) (x y : Lists) → AreGrowing (xs ++ x ∷ []) → HaveGrown x y
    → AreGrowing (xs ++ y ∷ [])
growing_last xs x y growing grown i old new at_old at_new = by (slice_get-push_cases xs y new (i + 1) at_new)
  where
    here : i < length xs → slice_get (xs ++ x ∷ []) i ≡ Some old
    here l = slice_get-left xs (x ∷ []) i l ∙ (sym (slice_get-left xs (y ∷ []) i l) ∙ at_old)

    by : ((i + 1 < length xs) × (slice_get xs (i + 1) ≡ Some new)) ⊎ ((i + 1 ≡ length xs) × (y ≡ new))
        → HaveGrown old new
    by (inl (l, e)) = growing i old new (here (omega (arith, l))) (slice_get-left xs (x ∷ []) (i + 1) l ∙ e)
    by (inr (at, e)) = subst (HaveGrown old) e (grown_then old x y (growing i old x (here (omega (arith, at)))
        (ap (slice_get (xs ++ x ∷ [])) at ∙ slice_get-seam xs x [])) grown)

-- or there is one more
pub growing_more : (xs : List Lists) (x y : Lists) → AreGrowing (xs ++ x ∷ []) → HaveGrown x y
    → AreGrowing ((xs ++ x ∷ []) ++ y ∷ [])
growing_more xs x y growing grown i old new at_old at_new =
    by (slice_get-push_cases (xs ++ x ∷ []) y new (i + 1) at_new)
  where
    all : List Lists
    all = xs ++ x ∷ []

    long : length all ≡ length xs + 1
    long = length-append xs (x ∷ [])

    here : i < length all → slice_get all i ≡ Some old
    here l = sym (slice_get-left all (y ∷ []) i l) ∙ at_old

    by : ((i + 1 < length all) × (slice_get all (i + 1) ≡ Some new)) ⊎ ((i + 1 ≡ length all) × (y ≡ new))
        → HaveGrown old new
    by (inl (l, e)) = growing i old new (here (omega (arith, l))) e
    by (inr (at, e)) =
        let seam : i ≡ length xs = omega (arith, at, long) in
        let same : x ≡ old =
        same_Some x old (sym (slice_get-seam xs x []) ∙ (ap (slice_get all) (sym seam) ∙ here (omega (arith, at)))) in
        subst (λ (o : Lists). HaveGrown o new) same (subst (HaveGrown x) e grown)

-- all of them have grown to the last one
pub grown_to_last : (taken : List Lists) (i : ℕ) (lists last : Lists) → AreGrowing taken
    → slice_get taken i ≡ Some lists → IsLastOf last taken → HaveGrown lists last
grown_to_last taken i lists last growing at ends =
    let l = slice_get_within taken i lists at in up (length taken - (i + 1)) i lists (omega (arith, l)) at
  where
    up : (d j : ℕ) (here : Lists) → length taken ≡ j + d + 1 → slice_get taken j ≡ Some here → HaveGrown here last
    up zero j here far there =
        subst (HaveGrown here) (same_Some here last (sym there ∙ ends j (omega (arith, far)))) (grown_same here)
    up (suc d) j here far there =
        let next = slice_get-some taken (j + 1) (omega (arith, far)) in
        grown_then here next.0 last (growing j here next.0 there next.1)
        (up d (j + 1) next.0 (omega (arith, far)) next.1)

-- ---- ranges

pub lists_fit : (plan : Script) (lists : Lists) → IsLivePlan plan → length lists ≡ plan.members
    → All (λ (list : List (List ℕ)). length list ≤ MAX_MESSAGES) lists
    → All (λ (list : List (List ℕ)). All IsMessage list) lists → HasRanges (plan_with plan lists)
lists_fit plan lists is all few fit = record {
  group = record {
    some_member = is.ranges.group.some_member;
    most_members = is.ranges.group.most_members;
    some_slot = is.ranges.group.some_slot;
    most_slots = is.ranges.group.most_slots;
    lists = all;
    few = few;
    short = λ k d l j e within. (fit k d l j e within).few;
    bytes = λ k d l j e within. (fit k d l j e within).small;
  };
  some_turn = is.ranges.some_turn;
  most_turns = is.ranges.most_turns;
  patience = is.ranges.patience;
  some_age = is.ranges.some_age;
  most_ages = is.ranges.most_ages;
  few_faults = is.ranges.few_faults;
  faults = subst (All (HasFaultRanges (plan_with plan lists))) (sym is.no_faults)
      (All-nil (HasFaultRanges (plan_with plan lists)));
}
