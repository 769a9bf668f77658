-- A member that has ended stands as it did, and ended only where that was due, or by a fault.
use Rattle.std.{specs.Prelude.{None, Option, slice_set, ⊤}, proofs.lemmas.List.{get_or-set_same, get_or-set_other}}
use Rattle.std.proofs.Common.{◌≡◌, ◌≢◌, ◌∙◌, ◌⊎◌, ap, arith, inl, inr, refl, subst, sym, ℕ, Some, ◌<◌, List, length, slice_index, true, [], Contains, zero, suc, ◌≤◌, Bool, false, append-nil}
use Rattle.std.proofs.{Math.Path.fun_ext, lemmas.{Bool.{cases_eq, cases_lt}, Option.same_Some}}
use Rattle.dr_entry.specs.declared.{end.End.{End, TheVariants.Done}, entry.Entry.{Entry, TheVariants.View}}
use Rattle.dr_entry.proofs.{ListParts.in-split, NumberFacts.{same_number, other_number}}
use Rattle.dr_entry.specs.declared.end.End.TheVariants as ends
use Rattle.dr_history.specs.{History.IsPrefixOf, Members.has, Order.first_entries}
use Rattle.dr_history.proofs.Lists.{prefix-in, prefix-trans}
use Rattle.dr_machine.specs.{Acts.{CanTake, effect_of}, Group.{Group, IsPresent}, Guards.{IsDue, IsFault, IsInView}}
use Rattle.dr_machine.specs.{Run.WorldAgreed, World.World, Writes.at, declared.{event.Act.Act, step.Step.Step}}
use Rattle.dr_machine.{specs.declared.step.Step.TheVariants.Do, proofs.Events.{Standing, standing, standing_after}}
use Rattle.dr_machine.proofs.Worlds.{Complete}
use Rattle.dr_machine.specs.declared.event.Act.TheVariants as acts

-- member k stands as it did
pub record IsStill (w : World) (x : Standing) (k : ℕ) : Type 0 where
  pub view : x.view k ≡ w.past.view k
  pub members : x.members k ≡ w.members k
  pub suspects : x.suspected k ≡ w.suspects k
  pub committed : x.committed k ≡ w.committed k

-- it had ended so before, or ends so now, where that is due to it in its view or by a fault
abbrev pub EndsSo : World → ℕ → End → Type 0
EndsSo w k end = (w.end k ≡ Some end) ⊎ ((IsInView w k × IsDue w k end) ⊎ IsFault end)

-- who has ended so after a step stood before it as it does then, and had ended so or ends so now
pub ended_so : (g : Group) (w : World) (m : ℕ) (s : Step) (k : ℕ) (end : End) → CanTake g w m s
    → (effect_of g w m s).end k ≡ Some end → IsStill w (standing (effect_of g w m s)) k × EndsSo w k end
ended_so g w m s k end can = standing_after g w m s
    (λ x. x.end k ≡ Some end → IsStill w x k × EndsSo w k end) can (record {
      goes_on = λ can e. let d = apart can.may.alive.running e in (
        record {
          view = grind (arith, d);
          members = grind (arith, d);
          suspects = grind (arith, d);
          committed = grind (arith, d);
        },
        inl e,
      );
      joins = λ can e. let d = apart can.may.alive.running e in (
        record {
          view = grind (arith, d);
          members = grind (arith, d);
          suspects = grind (arith, d);
          committed = grind (arith, d);
        },
        inl e,
      );
      chooses = λ can e. let d = apart can.may.alive.running e in (
        record { view = refl; members = refl; suspects = refl; committed = grind (arith, d) },
        inl e,
      );
      wedges = λ j can e. let d = apart can.may.alive.running e in (
        record { view = refl; members = refl; suspects = grind (arith, d); committed = refl },
        inl e,
      );
      stops = λ now alive why e. (
        record { view = refl; members = refl; suspects = refl; committed = refl },
        by now why (cases_eq k m) e,
      );
      stays = λ e. (record { view = refl; members = refl; suspects = refl; committed = refl }, inl e);
    })
  where
    apart : w.end m ≡ None → w.end k ≡ Some end → k ≢ m
    apart running ended e = absurd (cc (ap w.end e, ended, running))

    written : (f : ℕ → Option End) (now : End) → k ≡ m → at f m (Some now) k ≡ Some now
    written f now same = grind (arith, same)

    by : (now : End) → (IsInView w m × IsDue w m now) ⊎ IsFault now → (k ≡ m) ⊎ (k ≢ m)
        → at w.end m (Some now) k ≡ Some end → EndsSo w k end
    by now why (inl same) e =
        let is : now ≡ end = same_Some now end (sym (written w.end now same) ∙ e) in
        inr (subst (λ x. (IsInView w k × IsDue w k x) ⊎ IsFault x) is
        (subst (λ i. (IsInView w i × IsDue w i now) ⊎ IsFault now) (sym same) why))
    by now why (inr d) e = inl (grind (arith, d, e))

-- a list with one element set, as a function
pub set_at : (xs : List ℕ) (s x : ℕ) → s < length xs
    → ◌≡◌ {A = ℕ → ℕ} (slice_index (slice_set xs s x)) (at (slice_index xs) s x)
set_at xs s x within = fun_ext λ k. elim (cases_eq k s) [
  | inl same ↦ rw (same, same_number s) (get_or-set_same xs s x 0 within)
  | inr other ↦ rw (other_number k s other) (get_or-set_other xs s k x 0 other)
]

-- and who has ended so is in its view
pub step_inside : (g : Group) (w : World) (m : ℕ) (s : Step) → CanTake g w m s → Complete g w
    → (k : ℕ) → (effect_of g w m s).end k ≡ Some Done → IsInView (effect_of g w m s) k
step_inside g w m s can c k e =
    let t = ended_so g w m s k Done can e in ap (λ mask. has mask k) t.0.members ∙ by t.1
  where
    by : EndsSo w k Done → has (w.members k) k ≡ true
    by (inl before) = c.inside k before
    by (inr (inl due)) = due.0
    by (inr (inr fault)) = absurd fault

-- View 0 is one of them
pub first-in : (g : Group) (es : List Entry) → IsPrefixOf (first_entries g.opening) es
    → Contains es (View g.opening.age 0 g.opening.members)
first-in g es p = prefix-in (first_entries g.opening) es (View g.opening.age 0 g.opening.members) p
    (in-split g.opening.start [] (View g.opening.age 0 g.opening.members))

-- of the members below a number that are there
pub longest-below : (g : Group) (w : World) → WorldAgreed g w → (n : ℕ) → ((m : ℕ) → m < n → IsPresent g m → ⊥)
    ⊎ ((k : ℕ) × IsPresent g k × ((m : ℕ) → m < n → IsPresent g m → IsPrefixOf (w.past.history m) (w.past.history k)))
longest-below g w agrees zero = inl (λ m l there. absurd (omega (arith, l)))
longest-below g w agrees (suc n) = by (has g.opening.present n) refl (longest-below g w agrees n)
  where
    below : (P : ℕ → Type 0) → ((m : ℕ) → m < n → P m) → P n → (m : ℕ) → m < suc n → P m
    below P old new m l = case (cases_lt m n)
      where
        case : (m < n) ⊎ (n ≤ m) → P m
        case (inl less) = old m less
        case (inr more) = let same : n ≡ m = omega (arith, l, more) in subst P same new

    two : (k : ℕ) → IsPresent g k → IsPresent g n → ((m : ℕ) → m < n → IsPresent g m → IsPrefixOf (w.past.history m)
        (w.past.history k)) → IsPrefixOf (w.past.history k) (w.past.history n)
        ⊎ IsPrefixOf (w.past.history n) (w.past.history k) → ((m : ℕ) → m < suc n → IsPresent g m → ⊥) ⊎ ((k : ℕ)
        × IsPresent g k × ((m : ℕ) → m < suc n → IsPresent g m → IsPrefixOf (w.past.history m) (w.past.history k)))
    two k there here old (inl p) = inr (
      n,
      here,
      below (λ m. IsPresent g m → IsPrefixOf (w.past.history m) (w.past.history n))
          (λ m l h. prefix-trans (w.past.history m) (w.past.history k) (w.past.history n) (old m l h) p)
          (λ h. ([], append-nil (w.past.history n))),
    )
    two k there here old (inr p) = inr (
      k,
      there,
      below (λ m. IsPresent g m → IsPrefixOf (w.past.history m) (w.past.history k)) old (λ h. p),
    )

    by : (b : Bool) → has g.opening.present n ≡ b → ((m : ℕ) → m < n → IsPresent g m → ⊥) ⊎ ((k : ℕ)
        × IsPresent g k × ((m : ℕ) → m < n → IsPresent g m → IsPrefixOf (w.past.history m) (w.past.history k)))
        → ((m : ℕ) → m < suc n → IsPresent g m → ⊥) ⊎ ((k : ℕ)
        × IsPresent g k × ((m : ℕ) → m < suc n → IsPresent g m → IsPrefixOf (w.past.history m) (w.past.history k)))
    by false e (inl none) = inl (below (λ m. IsPresent g m → ⊥) none (λ h. absurd (cc (e, h))))
    by false e (inr t) = inr (
      t.0,
      t.1,
      below (λ m. IsPresent g m → IsPrefixOf (w.past.history m) (w.past.history t.0)) t.2 (λ h. absurd (cc (e, h))),
    )
    by true e (inl none) = inr (
      n,
      e,
      below (λ m. IsPresent g m → IsPrefixOf (w.past.history m) (w.past.history n))
          (λ m l h. absurd (none m l h)) (λ h. ([], append-nil (w.past.history n))),
    )
    by true e (inr t) = two t.0 t.1 e t.2 (agrees.prefix t.0 n t.1 e)

-- the end, if there is one, is a fault
abbrev pub IsFaulty : Option End → Type 0
IsFaulty None = ⊤
IsFaulty (Some end) = IsFault end

-- the acts that a member may judge: to suspect another, and to end by suspicion
abbrev pub is_verdict : Act → Bool
is_verdict (acts.Suspect j) = true
is_verdict (acts.Halt (ends.Suspected by)) = true
is_verdict (acts.Halt (ends.NoMajority mask)) = true
is_verdict a = false

-- the step is an act that members judge
abbrev pub judges : Step → Bool
judges (Do a) = is_verdict a
judges s = false
