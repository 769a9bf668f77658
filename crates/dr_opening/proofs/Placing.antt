-- Logs by member, some of which have come to something and others are as they were.
use Rattle.std.specs.Prelude.{Err, IfErr, Ok, Result, slice_set}
use Rattle.std.proofs.Common.{◌≡◌, refl, sym, ◌∙◌, subst, inl, inr, ℕ, ◌+◌, ◌<◌, le_refl, arith, List, length, length-set, get_or, Option, None, Some}
use Rattle.std.proofs.lemmas.{Bool.cases_eq, List.{get_or-set_other, get_or-set_same}}
use Rattle.dr_entry.proofs.ListFacts.{same_under}
use Rattle.dr_log.specs.State.{LogState}
use Rattle.dr_opening.specs.{Lists.log_of, Logs.{BothThere, ComeBelow, StopAt, Together}}

-- before the first
pub none_come : {D : Type 0} (P : LogState D → LogState D → Type 0) (logs : List (Option (LogState D)))
    → ComeBelow P logs logs 0
none_come P logs = record { all = refl; below = λ m below. absurd (omega (arith, below)); others = λ m above. refl }

-- the next one is as it was
pub still_there : {D : Type 0} (P : LogState D → LogState D → Type 0) (olds news : List (Option (LogState D)))
    (k : ℕ) (x : Option (LogState D)) → ComeBelow P olds news k → k < length news → get_or news k x ≡ log_of olds k
still_there P olds news k x so_far within = same_under news k x None within ∙ so_far.others k (le_refl k)

-- and comes so
pub one_more : {D : Type 0} (P : LogState D → LogState D → Type 0) (olds news : List (Option (LogState D)))
    (k : ℕ) (x new : Option (LogState D)) → ComeBelow P olds news k → k < length news
    → Together P (get_or news k x) new → ComeBelow P olds (slice_set news k new) (k + 1)
one_more P olds news k x new so_far within come = record {
  all = length-set news k new ∙ so_far.all;
  below = λ m below. elim (cases_eq m k) [
    | inr other ↦ subst (Together P (log_of olds m)) (sym (get_or-set_other news k m new None other))
        (so_far.below m (omega (arith, below, other)))
    | inl at ↦ subst (λ i. Together P (log_of olds i) (log_of (slice_set news k new) i)) (sym at)
        (subst (Together P (log_of olds k)) (sym (get_or-set_same news k new None within))
        (subst (λ o. Together P o new) (still_there P olds news k x so_far within) come))
  ];
  others = λ m above. get_or-set_other news k m new None (λ at. absurd (omega (arith, above, at)))
      ∙ so_far.others m (omega (arith, above));
}

-- or is stopped
pub stops_here : {D : Type 0} (P Q : LogState D → LogState D → Type 0) (olds news : List (Option (LogState D)))
    (k : ℕ) (x new : Option (LogState D)) → ComeBelow P olds news k → k < length news
    → BothThere Q (get_or news k x) new → StopAt P Q olds (slice_set news k new) k
stops_here P Q olds news k x new so_far within stop = record {
  all = length-set news k new ∙ so_far.all;
  below = λ m below. subst (Together P (log_of olds m))
      (sym (get_or-set_other news k m new None (λ at. absurd (omega (arith, below, at))))) (so_far.below m below);
  stop = subst (BothThere Q (log_of olds k)) (sym (get_or-set_same news k new None within))
      (subst (λ o. BothThere Q o new) (still_there P olds news k x so_far within) stop);
  others = λ m above. get_or-set_other news k m new None (λ at. absurd (omega (arith, above, at)))
      ∙ so_far.others m (omega (arith, above));
}

-- ---- by two logs

-- a log that is there comes from one, and comes to one
pub came_from : {D : Type 0} (P : LogState D → LogState D → Type 0) (o : Option (LogState D)) (new : LogState D)
    → Together P o (Some new) → (old : LogState D) × (o ≡ Some old) × P old new
came_from P None new come = absurd come
came_from P (Some old) new come = (old, refl, come)

pub came_to : {D : Type 0} (P : LogState D → LogState D → Type 0) (old : LogState D) (o : Option (LogState D))
    → Together P (Some old) o → (new : LogState D) × (o ≡ Some new) × P old new
came_to P old None come = absurd come
came_to P old (Some new) come = (new, refl, come)

-- where none was, none is
pub none_to : {D : Type 0} (P : LogState D → LogState D → Type 0) (o p : Option (LogState D)) → o ≡ None
    → Together P o p → p ≡ None
none_to P o None same come = refl
none_to P o (Some new) same come = absurd (subst (λ x. Together P x (Some new)) same come)

-- a log that is there, by the answer of what was done to it
pub both_by : {D : Type 0} (T E : Type 0) (Q : E → LogState D → LogState D → Type 0) (before : Option (LogState D))
    (old new : LogState D) (answer : Result T E) → before ≡ Some old → IfErr answer (λ why. Q why old new)
    → IfErr answer (λ why. BothThere (Q why) before (Some new))
both_by T E Q before old new (Ok x) at stuck = tt
both_by T E Q before old new (Err why) at stuck = (old, new, at, refl, stuck)
