-- Whether somebody has passed a view: has left it, or committed a value in it.
use Rattle.std.{specs.Prelude.unwrap_or, proofs.lemmas.Bool.{cases_eq, cases_lt}}
use Rattle.std.proofs.Common.{◌≡◌, ℕ, ◌≤◌, None, [], ◌+◌, Some, arith, ◌⊎◌, ◌<◌, inl, inr, refl, ◌≢◌, Option, subst, suc, zero, ◌∙◌, sym, ap}
use Rattle.dr_entry.{specs.declared.record.Value.Value, proofs.Records.IsBefore}
use Rattle.dr_history.specs.History.{last_view}
use Rattle.dr_machine.specs.{Acts.{CanTake, effect_of}, Effects.{joins, commits as after_commit, finishes}}
use Rattle.dr_machine.specs.{Group.{Group, roster, IsGroup, IsPresent}, Guards.CanCommit, World.World, Writes.at}
use Rattle.dr_machine.{specs.declared.step.Step.Step, proofs.{Events.standing_after, Presence.in_roster, Voting.none}}
use Rattle.dr_machine.proofs.Writes.{at_case, at_both, at_other, at_same}

-- nobody else ever leaves the first view, or commits a value
abbrev pub AreIdle : Group → World → Type 0
AreIdle g w = (k : ℕ) → roster g ≤ k → (w.past.view k ≡ 0) × (w.committed k ≡ None)

pub others_idle : (g : Group) (w : World) (m : ℕ) (s : Step) → IsGroup g → CanTake g w m s → AreIdle g w
    → AreIdle g (effect_of g w m s)
others_idle g w m s is can old = standing_after g w m s
    (λ x. (k : ℕ) → roster g ≤ k → (x.view k ≡ 0) × (x.committed k ≡ None)) can (record {
      goes_on = λ can. at_both (λ k v c. roster g ≤ k → (v ≡ 0) × (c ≡ None)) w.past.view w.committed m
          (w.past.view m + 1) None old (λ l. absurd (within can.may.alive.present l));
      joins = λ can. at_both (λ k v c. roster g ≤ k → (v ≡ 0) × (c ≡ None)) w.past.view w.committed m
          (last_view (0, 0) (unwrap_or (w.letter m) [])).0 None old (λ l. absurd (within can.may.alive.present l));
      chooses = λ can. at_case (λ k c. roster g ≤ k → (w.past.view k ≡ 0) × (c ≡ None)) w.committed m
          (Some (w.value m)) (λ k d. old k) (λ l. absurd (within can.may.alive.present l));
      wedges = λ j can. old;
      stops = λ end alive why. old;
      stays = old;
    })
  where
    within : IsPresent g m → roster g ≤ m → ⊥
    within there l = omega (arith, l, in_roster g m is there)

-- so are all members
abbrev pub AreBefore : World → ℕ → Type 0
AreBefore w v = (k : ℕ) → IsBefore v (w.past.view k) (w.committed k)

-- this one has left it, or has committed a value in it
abbrev pub HasPassed : World → ℕ → ℕ → Type 0
HasPassed w v k = (v < w.past.view k) ⊎ ((w.past.view k ≡ v) × (x : Value) × (w.committed k ≡ Some x))

one_of : (w : World) (v k : ℕ) → HasPassed w v k ⊎ IsBefore v (w.past.view k) (w.committed k)
one_of w v k = by (cases_lt v (w.past.view k)) (cases_eq (w.past.view k) v) (w.committed k) refl
  where
    by : (v < w.past.view k) ⊎ (w.past.view k ≤ v) → (w.past.view k ≡ v) ⊎ (w.past.view k ≢ v)
        → (c : Option Value) → w.committed k ≡ c → HasPassed w v k ⊎ IsBefore v (w.past.view k) (w.committed k)
    by (inl l) same c e = inl (inl l)
    by (inr l) (inl same) (Some x) e = inl (inr (same, x, e))
    by (inr l) (inl same) None e = inr record { within = l; none = λ d. e }
    by (inr l) (inr other) c e = inr record { within = l; none = λ d. absurd (other d) }

search : (w : World) (v n : ℕ) → ((k : ℕ) × HasPassed w v k)
    ⊎ ((k : ℕ) → k < n → IsBefore v (w.past.view k) (w.committed k))
search w v zero = inr (λ k l. absurd (omega (arith, l)))
search w v (suc n) = by (search w v n) (one_of w v n)
  where
    last : IsBefore v (w.past.view n) (w.committed n) → ((k : ℕ) → k < n → IsBefore v (w.past.view k) (w.committed k))
        → (k : ℕ) → k < suc n → (k < n) ⊎ (n ≤ k) → IsBefore v (w.past.view k) (w.committed k)
    last b all k l (inl less) = all k less
    last b all k l (inr more) =
        let same : n ≡ k = omega (arith, l, more) in subst (λ i. IsBefore v (w.past.view i) (w.committed i)) same b

    by : ((k : ℕ) × HasPassed w v k) ⊎ ((k : ℕ) → k < n → IsBefore v (w.past.view k) (w.committed k))
        → HasPassed w v n ⊎ IsBefore v (w.past.view n) (w.committed n)
        → ((k : ℕ) × HasPassed w v k) ⊎ ((k : ℕ) → k < suc n → IsBefore v (w.past.view k) (w.committed k))
    by (inl t) one = inl t
    by (inr all) (inl p) = inl (n, p)
    by (inr all) (inr b) = inr (λ k l. last b all k l (cases_lt k n))

-- somebody has passed it, or nobody has
pub passed_or_before : (g : Group) (w : World) (v : ℕ) → AreIdle g w → ((k : ℕ) × HasPassed w v k) ⊎ AreBefore w v
passed_or_before g w v idle = by (search w v (roster g))
  where
    outside : (k : ℕ) → roster g ≤ k → IsBefore v (w.past.view k) (w.committed k)
    outside k l = record { within = omega (arith, (idle k l).0); none = λ e. (idle k l).1 }

    each : ((k : ℕ) → k < roster g → IsBefore v (w.past.view k) (w.committed k)) → (k : ℕ)
        → (k < roster g) ⊎ (roster g ≤ k) → IsBefore v (w.past.view k) (w.committed k)
    each all k (inl l) = all k l
    each all k (inr l) = outside k l

    by : ((k : ℕ) × HasPassed w v k) ⊎ ((k : ℕ) → k < roster g → IsBefore v (w.past.view k) (w.committed k))
        → ((k : ℕ) × HasPassed w v k) ⊎ AreBefore w v
    by (inl t) = inl t
    by (inr all) = inr (λ k. each all k (cases_lt k (roster g)))

pub commit_back : (g : Group) (w : World) (m v : ℕ) → CanCommit g w m → AreBefore (after_commit w m) v → AreBefore w v
commit_back g w m v can after k = by (cases_eq k m)
  where
    by : (k ≡ m) ⊎ (k ≢ m) → IsBefore v (w.past.view k) (w.committed k)
    by (inl e) = record { within = (after k).within; none = λ d. ap w.committed e ∙ can.uncommitted }
    by (inr d) = record {
      within = (after k).within;
      none = λ e. sym (at_other w.committed m (Some (w.value m)) k d) ∙ (after k).none e;
    }

pub finish_back : (g : Group) (w : World) (m v : ℕ) → AreBefore (finishes g w m) v → AreBefore w v
finish_back g w m v after k = by (cases_eq k m)
  where
    by : (k ≡ m) ⊎ (k ≢ m) → IsBefore v (w.past.view k) (w.committed k)
    by (inl e) =
        let left : w.past.view k + 1 ≤ v = subst (λ n. n ≤ v) (ap (at w.past.view m (w.past.view m + 1)) e
        ∙ at_same w.past.view m (w.past.view m + 1) ∙ ap (λ i. w.past.view i + 1) (sym e)) (after k).within in
        record { within = omega (arith, left); none = λ same. absurd (omega (arith, left, same)) }
    by (inr d) = subst (λ x. IsBefore v x (w.committed k)) (at_other w.past.view m (w.past.view m + 1) k d)
        (subst (λ c. IsBefore v (at w.past.view m (w.past.view m + 1) k) c) (at_other w.committed m None k d)
        (after k))
