-- Where the logs of more than half of the roster come back, those of all members of the last age among them, or
-- none is missing, all may stand, and of any two one is a front of the other, they are refused only where one
-- knows the last age.
use Rattle.std.proofs.Common.{◌≡◌, refl, ap, sym, ◌∙◌, ◌⊎◌, inl, inr, subst, ℕ, ◌-◌, ◌<◌, ◌≤◌, ◌&&◌, nat_lt, arith, Bool, true, false, List, [], length, Contains, None, Some, is_some, slice_get, append-nil}
use Rattle.std.proofs.lemmas.{Bool.cases_lt, Nat.Bits.bit_at_above, Option.same_Some}
use Rattle.dr_entry.specs.declared.entry.Entry.{Entry, TheVariants.View}
use Rattle.dr_entry.proofs.{ListPlaces.{slice_get-some, read-in}, NumberFacts.{above_whole, before_or_behind}}
use Rattle.dr_history.specs.{Members.{has, members_of}, Order.AreOfRoster}
use Rattle.dr_history.specs.{Restarting.{AllStand, AreAllAlong, AreAlong}, Soundness.whole_roster}
use Rattle.dr_history.{specs.declared.opening.Opening.Opening, proofs.{Bits.has_ones, Masks.same_masks}}
use Rattle.dr_history.proofs.{MemberLemmas.{some-members, AreSomeOf}, Restarts.differ_not_along}
use Rattle.dr_restart.specs.Choosing.{AreFirst, Handed, HasQuorum, IsLastAge, handed_of, of_set}
use Rattle.dr_restart.specs.{Left.entries_on_logs, Refusing.Refusal.{AgesUsedUp, Disagree, Foreign, NoQuorum}}
use Rattle.dr_restart.specs.Refusing.{AreHoldersAlong, HaveNothingForeign, IsRefusedFor, Refusal}
use Rattle.dr_restart.{specs.declared.lists.LogLists.LogLists, proofs.Refusals.{foreign-no, lacks-no}}
use Rattle.dr_restart.proofs.{Choosing.{path-of, some_is}, Handing.{log-of_set, set-log}, Listed.listed}
use Rattle.dr_words.proofs.Masks.{has_mask_of, some-own, some-of}
use Rattle.dr_quorum_laws.specs.Returning.{HasHandedIn, HaveReturned}

-- ---- masks of some members of the roster

-- where all such have handed in their logs, so have more than half of them
all-handed : (h : Handed) (IsSuch : ℕ → Type 0) (mask : ℕ) → ((m : ℕ) → IsSuch m → HasHandedIn h m)
    → AreSomeOf IsSuch mask → HasQuorum h mask
all-handed h IsSuch mask all of =
    let some = some-members mask of.small of.some in omega (arith, some, ap (λ k. length (members_of k)) same)
  where
    below : (i : ℕ) → has mask i ≡ true → (i < 16) ⊎ (16 ≤ i) → i < 16
    below i e (inl l) = l
    below i e (inr l) = absurd (grind (arith, e, bit_at_above mask 16 i of.small l))

    by : (i : ℕ) (b : Bool) → has mask i ≡ b → (nat_lt i 16 && (has mask i && is_some (h i))) ≡ has mask i
    by i true e =
        let l : i < 16 = below i e (cases_lt i 16) in
        let there = all i (of.within i e) in grind (arith, e, l, there)
    by i false e = grind (arith, e)

    same : handed_of h mask ≡ mask
    same = same_masks (handed_of h mask) mask
        (λ i. has_mask_of (λ j. has mask j && is_some (h j)) i ∙ by i (has mask i) refl)

-- ---- logs that come back

pub returned-pass : (o : Opening) (h : Handed) (why : Refusal) → length o.messages ≤ 16 → HaveReturned o h
    → IsRefusedFor o h why → why ≡ AgesUsedUp
returned-pass o h why most back = by why
  where
    n : ℕ
    n = length o.messages

    -- View 0 stands on a log, so it has some members of the roster
    first-own : (age first : ℕ) → AreFirst h age first → AreSomeOf (λ m. has first m ≡ true) first
    first-own age first (es, (m, log, at, ends, same), c) =
        some-own n first most (back.enough.0 m log at k.0 (View age 0 first) k.1).0
      where
        k : (i : ℕ) × (slice_get log.entries i ≡ Some (View age 0 first))
        k = read-in log.entries (View age 0 first) (subst (λ l. Contains l (View age 0 first)) same c)

    -- all of them have handed in their logs
    first-handed : (age first : ℕ) → IsLastAge h age → AreFirst h age first → AreSomeOf (HasHandedIn h) first
    first-handed age first last of = let own = first-own age first of in record {
      small = own.small;
      some = own.some;
      within = λ m there. back.first age first m last of (own.within m there);
    }

    by : (r : Refusal) → IsRefusedFor o h r → r ≡ AgesUsedUp
    by (Foreign m place) x = absurd (foreign-no o h m place x back.enough.0)
    by (NoQuorum None have need) x = absurd (lacks-no h (whole_roster o) have need x.1 back.enough.1)
    by (Disagree a b place) x = absurd (differ_not_along x.3.one x.3.other place x.3.differ
        (back.along x.1 x.2 x.3.one x.3.other (a, x.3.in_a.0, x.3.in_a.1, x.3.in_a.2, x.3.in_a.3) (b, x.3.in_b.0, x.3.in_b.1, x.3.in_b.2, x.3.in_b.3)))
    by (NoQuorum (Some v) have need) x = absurd (lacks-no h x.6.members have need x.6.lacks
        (all-handed h (HasHandedIn h) x.6.members (λ m there. there)
        (path-of h (HasHandedIn h) n x.1 x.4 v x.6.members
        (λ k log y at c same m l e. back.named x.1 k m log y x.2 at c same l e)
        (first-handed x.1 x.4 x.2 x.5) x.6.here)))
    by AgesUsedUp x = refl

-- ---- all logs

-- where of any two holders one is a front of the other
pub holders-pass : (o : Opening) (logs : List LogLists) (set : ℕ) (why : Refusal) → 1 ≤ length o.messages
    → length o.messages ≤ 16 → length logs ≡ length o.messages → ((m : ℕ) → m < length logs → has set m ≡ true)
    → ((m : ℕ) (log : LogLists) → slice_get logs m ≡ Some log → AllStand o log.entries)
    → ((age : ℕ) → IsLastAge (of_set logs set) age → AreHoldersAlong (of_set logs set) age)
    → IsRefusedFor o (of_set logs set) why → why ≡ AgesUsedUp
holders-pass o logs set why least most long all stand along = returned-pass o h why most (record {
  enough = (sound, all-handed h (λ m. m < n) (whole_roster o) given (some-of n (whole_roster o) most roster));
  along = along;
  first = λ age first m last of there. given m (first-within age first of m there);
  named = λ age k m log x last at c same l e. given m l;
})
  where
    n : ℕ
    n = length o.messages

    h : Handed
    h = of_set logs set

    sound : HaveNothingForeign o h
    sound m log at = stand m log (set-log logs set m log at).1

    given : (m : ℕ) → m < n → HasHandedIn h m
    given m l =
        let t = slice_get-some logs m (omega (arith, l, long)) in
        some_is (h m) t.0 (log-of_set logs set m t.0 (all m (omega (arith, l, long))) t.1)

    roster : AreOfRoster n (whole_roster o)
    roster = record { some = above_whole n least; within = λ m e. below m e (has_ones n m) }
      where
        below : (m : ℕ) → has (whole_roster o) m ≡ true → has (whole_roster o) m ≡ nat_lt m n → m < n
        below m e is = grind (arith, e, is)

    first-within : (age first : ℕ) → AreFirst h age first → (m : ℕ) → has first m ≡ true → m < n
    first-within age first (es, (m, log, at, ends, same), c) = (sound m log at k.0 (View age 0 first) k.1).0.within
      where
        k : (i : ℕ) × (slice_get log.entries i ≡ Some (View age 0 first))
        k = read-in log.entries (View age 0 first) (subst (λ l. Contains l (View age 0 first)) same c)

-- or of any two logs
pub all-pass : (o : Opening) (logs : List LogLists) (set : ℕ) (why : Refusal) → 1 ≤ length o.messages
    → length o.messages ≤ 16 → length logs ≡ length o.messages → ((m : ℕ) → m < length logs → has set m ≡ true)
    → ((m : ℕ) (log : LogLists) → slice_get logs m ≡ Some log → AllStand o log.entries)
    → AreAllAlong (entries_on_logs logs) → IsRefusedFor o (of_set logs set) why → why ≡ AgesUsedUp
all-pass o logs set why least most long all stand along = holders-pass o logs set why least most long all stand
    (λ age last f g x y. two f g x.0 y.0 (here x.0 f x.1 x.2 x.4) (here y.0 g y.1 y.2 y.4) (before_or_behind x.0 y.0))
  where
    h : Handed
    h = of_set logs set

    here : (m : ℕ) (es : List Entry) (log : LogLists) → h m ≡ Some log → es ≡ log.entries
        → slice_get (entries_on_logs logs) m ≡ Some es
    here m es log at e = listed logs m log (set-log logs set m log at).1 ∙ ap Some (sym e)

    turned : (f g : List Entry) → AreAlong f g → AreAlong g f
    turned f g (inl p) = inr p
    turned f g (inr p) = inl p

    two : (f g : List Entry) (i j : ℕ) → slice_get (entries_on_logs logs) i ≡ Some f
        → slice_get (entries_on_logs logs) j ≡ Some g → (i < j) ⊎ ((i ≡ j) ⊎ (j < i)) → AreAlong f g
    two f g i j at_f at_g (inl less) = along i j f g less at_f at_g
    two f g i j at_f at_g (inr (inl same)) =
        let e : f ≡ g = same_Some f g (sym at_f ∙ (ap (slice_get (entries_on_logs logs)) same ∙ at_g)) in
        inl ([], append-nil f ∙ e)
    two f g i j at_f at_g (inr (inr more)) = turned g f (along j i g f more at_g at_f)
