-- Votes that logs were left with.
use Rattle.std.specs.Option.{option_map_or}
use Rattle.std.proofs.Common.{◌≡◌, refl, subst, ℕ, ◌==◌, arith, true, List, [], Contains, Option, None, Some, slice_get, sym, ◌∙◌, ◌⊎◌, inl, inr, ap, ◌+◌, ◌<◌, false, ◌++◌, filter}
use Rattle.std.proofs.lemmas.{List.Elements.{Contains-push_cases, filter-append}, Option.none-some}
use Rattle.dr_entry.{specs.declared.record.{Value.Value, Vote.Vote}, proofs.ListPlaces.{Contains-slice_get, read-in}}
use Rattle.dr_entry.proofs.ListParts.{filter-in, in-nothing, in-filter, passes_none, passes_all}
use Rattle.dr_machine.specs.{Group.{Group, IsPresent}, Guards.CanLogVote, Votes.HasLogged, World.World}
use Rattle.dr_machine.proofs.Worlds.{unended_in}
use Rattle.dr_restart.specs.Left.{votes_of_age, votes_on_logs, AreLeft, AreLeftOf, MayLogVote, without_ends}
use Rattle.dr_restart.specs.declared.lists.LogLists.{LogLists}

-- a vote that was left is one of the age on the log
pub vote-left : (g : Group) (logs : List LogLists) (i : ℕ) (x : Vote) → HasLogged (votes_on_logs g logs) i x
    → (log : LogLists) × (slice_get logs i ≡ Some log) × Contains log.votes x × (x.age ≡ g.opening.age)
vote-left g logs i x h = by (slice_get logs i) refl (Contains-slice_get (votes_on_logs g logs i) h.0 x h.1)
  where
    equal : (a b : ℕ) → (a == b) ≡ true → a ≡ b
    equal a b e = grind (arith, e)

    by : (o : Option LogLists) → slice_get logs i ≡ o
        → Contains (option_map_or (λ log. votes_of_age g.opening.age log.votes) (slice_get logs i) []) x
        → (log : LogLists) × (slice_get logs i ≡ Some log) × Contains log.votes x × (x.age ≡ g.opening.age)
    by None e c = absurd (in-nothing x (subst
        (λ o. Contains (option_map_or (λ log. votes_of_age g.opening.age log.votes) o []) x) e c))
    by (Some log) e c =
        let t = filter-in (λ z. z.age == g.opening.age) log.votes x (subst
        (λ o. Contains (option_map_or (λ log. votes_of_age g.opening.age log.votes) o []) x) e c) in
        (log, e, t.0, equal x.age g.opening.age t.1)

-- and the other way round
pub left-on : (g : Group) (logs : List LogLists) (i : ℕ) (log : LogLists) (x : Vote) → slice_get logs i ≡ Some log
    → Contains log.votes x → x.age ≡ g.opening.age → HasLogged (votes_on_logs g logs) i x
left-on g logs i log x at c e = read-in (votes_on_logs g logs i) x (subst
    (λ o. Contains (option_map_or (λ l. votes_of_age g.opening.age l.votes) o []) x) (sym at)
    (in-filter (λ z. z.age == g.opening.age) log.votes x (same x.age g.opening.age e) c))
  where
    same : (a b : ℕ) → a ≡ b → (a == b) ≡ true
    same a b e = grind (arith, e)

-- a member that is not there has left none
pub absent-none : (g : Group) (w : World) (logs : List LogLists) (i : ℕ) (x : Vote) → AreLeft g w logs
    → ¬ IsPresent g i → HasLogged (votes_on_logs g logs) i x → ⊥
absent-none g w logs i x left absent h =
    let t = vote-left g logs i x h in omega (arith, (left.others i t.0 absent t.1).earlier.votes x t.2, t.3)

-- of a member, all such are one vote: the last one
pub one-left : (g : Group) (w : World) (logs : List LogLists) (i : ℕ) → AreLeft g w logs
    → IsPresent g i → ((x : Vote) → HasLogged (votes_on_logs g logs) i x → HasLogged w.past.votes i x) ⊎ ((z : Vote)
    × MayLogVote g w i z × ((x : Vote) → HasLogged (votes_on_logs g logs) i x → HasLogged w.past.votes i x ⊎ (z ≡ x)))
one-left g w logs i left there = by (was-left-log (slice_get logs i) refl)
  where
    none : slice_get logs i ≡ None → (x : Vote) → HasLogged (votes_on_logs g logs) i x → HasLogged w.past.votes i x
    none e x h = let t = vote-left g logs i x h in absurd (none-some t.0 (sym e ∙ t.1))

    was-left-log : (o : Option LogLists) → slice_get logs i ≡ o
        → (slice_get logs i ≡ None) ⊎ ((log : LogLists) × (slice_get logs i ≡ Some log))
    was-left-log None e = inl e
    was-left-log (Some log) e = inr (log, e)

    kinds : (log : LogLists) → slice_get logs i ≡ Some log
        → AreLeftOf g w i log.entries (votes_of_age g.opening.age log.votes)
        → ((x : Vote) → HasLogged (votes_on_logs g logs) i x → HasLogged w.past.votes i x)
        ⊎ ((z : Vote) × MayLogVote g w i z
        × ((x : Vote) → HasLogged (votes_on_logs g logs) i x → HasLogged w.past.votes i x ⊎ (z ≡ x)))
    kinds log e left = of left
      where
        on : (x : Vote) → HasLogged (votes_on_logs g logs) i x → Contains (votes_of_age g.opening.age log.votes) x
        on x h = subst (λ o. Contains (option_map_or (λ l. votes_of_age g.opening.age l.votes) o []) x) e
            (Contains-slice_get (votes_on_logs g logs i) h.0 x h.1)

        of : AreLeftOf g w i log.entries (votes_of_age g.opening.age log.votes)
            → ((x : Vote) → HasLogged (votes_on_logs g logs) i x → HasLogged w.past.votes i x)
            ⊎ ((z : Vote) × MayLogVote g w i z
            × ((x : Vote) → HasLogged (votes_on_logs g logs) i x → HasLogged w.past.votes i x ⊎ (z ≡ x)))
        of (inl (entries, same)) = inl (λ x h. read-in (w.past.votes i) x (subst (λ l. Contains l x) same (on x h)))
        of (inr (inl (entry, entries, p, same))) = inl (λ x h. read-in (w.past.votes i) x
            (subst (λ l. Contains l x) same (on x h)))
        of (inr (inr (inl (entries, same)))) = inl (λ x h. read-in (w.past.votes i) x
            (subst (λ l. Contains l x) same (on x h)))
        of (inr (inr (inr (z, entries, more, may)))) = inr (
          z,
          may,
          λ x h. last x z (Contains-push_cases (w.past.votes i) z x (subst (λ l. Contains l x) more (on x h))),
        )
          where
            last : (x z : Vote) → Contains (w.past.votes i) x ⊎ (z ≡ x) → HasLogged w.past.votes i x ⊎ (z ≡ x)
            last x z (inl c) = inl (read-in (w.past.votes i) x c)
            last x z (inr e) = inr e

    by : (slice_get logs i ≡ None) ⊎ ((log : LogLists) × (slice_get logs i ≡ Some log))
        → ((x : Vote) → HasLogged (votes_on_logs g logs) i x → HasLogged w.past.votes i x)
        ⊎ ((z : Vote) × MayLogVote g w i z
        × ((x : Vote) → HasLogged (votes_on_logs g logs) i x → HasLogged w.past.votes i x ⊎ (z ≡ x)))
    by (inl e) = inl (none e)
    by (inr (log, e)) = kinds log e (left.members i log there e).left

-- votes of earlier ages, and behind them those of the age
pub of_age : (age : ℕ) (olds own : List Vote) → ((x : Vote) → Contains olds x → x.age < age)
    → ((x : Vote) → Contains own x → x.age ≡ age) → votes_of_age age (olds ++ own) ≡ own
of_age age olds own before now = filter-append (λ (x : Vote). x.age == age) olds own
    ∙ ap (λ l. l ++ filter (λ (x : Vote). x.age == age) own) (passes_none (λ (x : Vote). x.age == age) olds
    (λ x c. other x (before x c))) ∙ passes_all (λ (x : Vote). x.age == age) own (λ x c. same x (now x c))
  where
    other : (x : Vote) → x.age < age → (x.age == age) ≡ false
    other x l = grind (arith, l)

    same : (x : Vote) → x.age ≡ age → (x.age == age) ≡ true
    same x e = grind (arith, e)

-- what goes by the end of one member goes by none
pub ends_aside : (g : Group) (w : World) (m : ℕ) (v : Value) → CanLogVote g (unended_in w m) m v
    → CanLogVote g (without_ends w) m v
ends_aside g w m v can = record {
  may = record {
    alive = record { present = can.may.alive.present; running = refl };
    idle = can.may.idle;
    inside = can.may.inside;
  };
  wedged = can.wedged;
  uncommitted = can.uncommitted;
  logged = can.logged;
  whole = can.whole;
  allowed = can.allowed;
}
