-- Histories that have come to places of the views of an age: they are in order, of two of them one is a
-- prefix of the other, and they stay when more is sent.
use Rattle.std.proofs.Common.{◌≡◌, refl, ap, sym, ◌∙◌, ◌⊎◌, inl, inr, subst, ℕ, zero, suc, ◌+◌, ◌-◌, ◌<◌, ◌≤◌, arith, List, [], ◌∷◌, ◌++◌, length, Contains, Some, false, append-nil, length-append}
use Rattle.std.proofs.lemmas.List.Elements.{All-contains, Contains-append_cases}
use Rattle.dr_entry.{specs.declared.entry.Entry.{Entry, TheVariants.View}, proofs.Entries.IsMessage}
use Rattle.dr_history.specs.{Agreement.SamePast, History.{IsPrefixOf, Sent, merge, view_of}, Members.has}
use Rattle.dr_history.specs.{Order.{IsSucceededBy, InOrder, IsNewIn, MayJoin, first_entries}, Places.front_of}
use Rattle.dr_history.{specs.{Soundness.Sound, declared.opening.Opening.Opening}, proofs.Heads.merged_messages}
use Rattle.dr_history.proofs.{Lists.prefix-trans, LooseOrder.InLooseOrder-from, Openings.InOrder-first}
use Rattle.dr_history.proofs.Standing.{SamePast-either}
use Rattle.dr_history_laws.specs.Courses.{ViewEnds, ViewHasEnded, IsUncut, MayCome, MayReach, counts_taken, course, head_of, members_in, view_in}
use Rattle.dr_history_laws.{specs.Laid.{EndsWithView, HeldBelow, SentMore, laid}, proofs.Heads.head_views}
use Rattle.dr_history_laws.proofs.{Cutting.{InOrder-next_view, merge-prefix, merge-steady}, Steady.laid-steady}
use Rattle.dr_history_laws.proofs.{LaidLemmas.{laid-none, laid-prefix}, Ordered.{InOrder-laid, reached, first-ends}}

-- ---- heads

-- the head of the first view is what every history begins with
pub head-first : (o : Opening) (sent : Sent) (endings : ViewEnds) → head_of o sent endings 0 ≡ first_entries o
unfolding head_of
head-first o sent endings = refl

-- and that of a later one goes on behind the view before
pub head-next : (o : Opening) (sent : Sent) (endings : ViewEnds) (v : ℕ) → head_of o sent endings (v + 1)
    ≡ (head_of o sent endings v ++ merge o sent (view_in o endings v) (counts_taken o endings v))
    ++ View o.age (v + 1) (endings v).next ∷ []
unfolding head_of
head-next o sent endings v =
    let next : v + 1 ≡ suc v = omega arith in
    ap (head_of o sent endings) next
    ∙ ap (λ n. (head_of o sent endings v ++ merge o sent (view_in o endings v) (counts_taken o endings v))
    ++ View o.age n (endings v).next ∷ []) (sym next)

-- the members of a view
pub members-first : (o : Opening) (endings : ViewEnds) → members_in o endings 0 ≡ o.members
unfolding members_in
members-first o endings = refl

pub members-next : (o : Opening) (endings : ViewEnds) (v : ℕ) → members_in o endings (v + 1) ≡ (endings v).next
unfolding members_in
members-next o endings v = let next : v + 1 ≡ suc v = omega arith in ap (members_in o endings) next

-- a head ends with its View
pub head-ends : (o : Opening) (sent : Sent) (endings : ViewEnds) (v : ℕ)
    → EndsWithView (head_of o sent endings v) (view_in o endings v)
unfolding head_of members_in
head-ends o sent endings zero = first-ends o
head-ends o sent endings (suc v) = record {
  before = head_of o sent endings v ++ merge o sent (view_in o endings v) (counts_taken o endings v);
  mask = (endings v).next;
  ends = refl;
  members = refl;
}

-- where no place is laid, a history is the head
pub course-head : (o : Opening) (sent : Sent) (endings : ViewEnds) (v : ℕ) → course o sent endings v 0
    ≡ head_of o sent endings v
course-head o sent endings v = ap (λ es. head_of o sent endings v ++ es)
    (laid-none o sent (view_in o endings v)) ∙ append-nil (head_of o sent endings v)

-- ---- order

-- who may come to a view may come to each before it
pub may_come-less : (o : Opening) (sent : Sent) (endings : ViewEnds) (v : ℕ) → MayCome o sent endings (suc v)
    → MayCome o sent endings v
may_come-less o sent endings v may = record {
  ended = λ u l. may.ended u (omega (arith, l));
  goes = λ u l. may.goes u (omega (arith, l));
}

-- where a view has ended, the group goes on behind its merge with the next View
goes-on : (o : Opening) (sent : Sent) (endings : ViewEnds) (v : ℕ) → Sound o → ViewHasEnded o sent endings v
    → IsSucceededBy o (head_of o sent endings v ++ merge o sent (view_in o endings v) (counts_taken o endings v))
    (view_in o endings v) o.age (v + 1) (endings v).next
goes-on o sent endings v sound ended = record {
  follows = ended.follows;
  roster = ended.roster;
  majority = ended.majority;
  newcomers = λ s there. by s (ended.newcomers s there);
}
  where
    merged : List Entry
    merged = merge o sent (view_in o endings v) (counts_taken o endings v)

    in_none : (s number members : ℕ) → IsNewIn o (members_in o endings) v s
        → Contains (head_of o sent endings v) (View o.age number members)
        ⊎ Contains merged (View o.age number members) → has members s ≡ false
    in_none s number members new (inl c) =
        let r = head_views o sent endings v number members sound c in
        subst (λ mask. has mask s ≡ false) r.1 (new.absent number r.0)
    in_none s number members new (inr c) = absurd (All-contains IsMessage merged (View o.age number members)
        (merged_messages o sent (view_in o endings v) (counts_taken o endings v)) c)

    by : (s : ℕ) → Contains (view_in o endings v).members s ⊎ IsNewIn o (members_in o endings) v s
        → Contains (view_in o endings v).members s
        ⊎ MayJoin o (head_of o sent endings v ++ merge o sent (view_in o endings v) (counts_taken o endings v)) s
    by s (inl there) = inl there
    by s (inr new) = inr (
      new.late,
      λ number members c. in_none s number members new (Contains-append_cases (head_of o sent endings v)
          merged (View o.age number members) c),
    )

-- heads are in order
pub InOrder-head : (o : Opening) (sent : Sent) (endings : ViewEnds) (v : ℕ) → Sound o
    → MayCome o sent endings v → InOrder o sent (head_of o sent endings v)
unfolding head_of
InOrder-head o sent endings zero sound may = InOrder-first o sent sound
InOrder-head o sent endings (suc v) sound may =
    let next : v + 1 ≡ suc v = omega arith in
    InOrder-next_view o sent (head_of o sent endings v) (view_in o endings v) (endings v).taken o.age
    (suc v) (endings v).next (InOrder-head o sent endings v sound (may_come-less o sent endings v may))
    (head-ends o sent endings v) (may.goes v (omega arith)) (subst (λ n. IsSucceededBy o
    (head_of o sent endings v ++ merge o sent (view_in o endings v) (counts_taken o endings v))
    (view_in o endings v) o.age n (endings v).next) next (goes-on o sent endings v sound (may.ended v (omega arith))))

-- and so is what has come to a place
pub InOrder-course : (o : Opening) (sent : Sent) (endings : ViewEnds) (v p : ℕ) → Sound o
    → MayReach o sent endings v p → InOrder o sent (course o sent endings v p)
InOrder-course o sent endings v p sound may = InOrder-laid o sent (head_of o sent endings v) (view_in o endings v) p
    (InOrder-head o sent endings v sound may.view) (head-ends o sent endings v)
    (may.view.goes v (omega arith)) may.held

-- it is in the view
pub view-course : (o : Opening) (sent : Sent) (endings : ViewEnds) (v p : ℕ) → Sound o
    → MayCome o sent endings v → view_of (course o sent endings v p) ≡ Some (view_in o endings v)
view-course o sent endings v p sound may = (reached o sent (head_of o sent endings v) (view_in o endings v) p
    (InLooseOrder-from o sent (head_of o sent endings v) (InOrder-head o sent endings v sound may))
    (head-ends o sent endings v) (may.goes v (omega arith))).view

-- ---- prefixes

-- a place that is not cut off is part of the next head
prefix-next : (o : Opening) (sent : Sent) (endings : ViewEnds) (v p : ℕ) → p ≤ front_of (counts_taken o endings v)
    → IsPrefixOf (course o sent endings v p) (head_of o sent endings (suc v))
unfolding head_of
prefix-next o sent endings v p kept = prefix-trans (course o sent endings v p)
    (head_of o sent endings v ++ merge o sent (view_in o endings v) (counts_taken o endings v)) _
    (merge-prefix o sent (head_of o sent endings v) (view_in o endings v) (endings v).taken p kept)
    (View o.age (suc v) (endings v).next ∷ [], refl)

-- and so of every later one
prefix-head : (o : Opening) (sent : Sent) (endings : ViewEnds) (v p d : ℕ) → p ≤ front_of (counts_taken o endings v)
    → IsPrefixOf (course o sent endings v p) (head_of o sent endings (suc (v + d)))
prefix-head o sent endings v p zero kept =
    let same : v + 0 ≡ v = omega arith in
    subst (λ n. IsPrefixOf (course o sent endings v p) (head_of o sent endings (suc n))) (sym same)
    (prefix-next o sent endings v p kept)
prefix-head o sent endings v p (suc d) kept =
    let next : suc (v + d) ≡ v + suc d = omega arith in
    subst (λ n. IsPrefixOf (course o sent endings v p) (head_of o sent endings (suc n))) next
    (prefix-trans (course o sent endings v p) (head_of o sent endings (suc (v + d)))
    (head_of o sent endings (suc (suc (v + d)))) (prefix-head o sent endings v p d kept)
    (subst (λ es. IsPrefixOf es (head_of o sent endings (suc (suc (v + d)))))
    (course-head o sent endings (suc (v + d))) (prefix-next o sent endings (suc (v + d)) 0 (omega arith))))

-- so it is a prefix of a history that has come to a later view
pub prefix-later : (o : Opening) (sent : Sent) (endings : ViewEnds) (v p u q : ℕ) → v < u
    → p ≤ front_of (counts_taken o endings v) → IsPrefixOf (course o sent endings v p) (course o sent endings u q)
prefix-later o sent endings v p u q less kept =
    let place : suc (v + (u - (v + 1))) ≡ u = omega arith in
    prefix-trans (course o sent endings v p) (head_of o sent endings u) (course o sent endings u q)
    (subst (λ n. IsPrefixOf (course o sent endings v p) (head_of o sent endings n)) place
    (prefix-head o sent endings v p (u - (v + 1)) kept)) (laid o sent (view_in o endings u) q, refl)

-- of two histories that were not cut off one is a prefix of the other
pub either-course : (o : Opening) (sent : Sent) (endings : ViewEnds) (v p u q : ℕ) → IsUncut o endings v p u
    → IsUncut o endings u q v → IsPrefixOf (course o sent endings v p) (course o sent endings u q)
    ⊎ IsPrefixOf (course o sent endings u q) (course o sent endings v p)
either-course o sent endings v p u q kept_v kept_u = by (apart v u)
  where
    apart : (v u : ℕ) → (v < u) ⊎ ((u < v) ⊎ (v ≡ u))
    apart v u = grind arith

    either : (p q : ℕ) → (p ≤ q) ⊎ (q ≤ p)
    either p q = grind arith

    here : (u : ℕ) → v ≡ u → (p ≤ q) ⊎ (q ≤ p) → IsPrefixOf (course o sent endings v p) (course o sent endings u q)
        ⊎ IsPrefixOf (course o sent endings u q) (course o sent endings v p)
    here u same (inl l) = inl (subst (λ n. IsPrefixOf (course o sent endings v p) (course o sent endings n q))
        same (laid-prefix o sent (head_of o sent endings v) (view_in o endings v) p q l))
    here u same (inr l) = inr (subst (λ n. IsPrefixOf (course o sent endings n q) (course o sent endings v p))
        same (laid-prefix o sent (head_of o sent endings v) (view_in o endings v) q p l))

    by : (v < u) ⊎ ((u < v) ⊎ (v ≡ u)) → IsPrefixOf (course o sent endings v p) (course o sent endings u q)
        ⊎ IsPrefixOf (course o sent endings u q) (course o sent endings v p)
    by (inl less) = inl (prefix-later o sent endings v p u q less (kept_v less))
    by (inr (inl less)) = inr (prefix-later o sent endings u q v p less (kept_u less))
    by (inr (inr same)) = here u same (either p q)

-- and both have the same past at each View
pub past-course : (o : Opening) (sent : Sent) (endings : ViewEnds) (v p u q : ℕ) → Sound o
    → MayReach o sent endings v p → MayReach o sent endings u q → IsUncut o endings v p u → IsUncut o endings u q v
    → SamePast (course o sent endings v p) (course o sent endings u q)
past-course o sent endings v p u q sound may_v may_u kept_v kept_u = SamePast-either o sent
    (course o sent endings v p) (course o sent endings u q) sound (InOrder-course o sent endings v p sound may_v)
    (InOrder-course o sent endings u q sound may_u) (either-course o sent endings v p u q kept_v kept_u)

-- ---- more is sent

-- heads stay
pub head-steady : (o : Opening) (sent now : Sent) (endings : ViewEnds) (v : ℕ) → SentMore sent now
    → ((u : ℕ) → u < v → ViewHasEnded o sent endings u) → head_of o now endings v ≡ head_of o sent endings v
unfolding head_of
head-steady o sent now endings zero more ended = refl
head-steady o sent now endings (suc v) more ended = rw (
  head-steady o sent now endings v more (λ u l. ended u (omega (arith, l))),
  merge-steady o sent now (view_in o endings v) (endings v).taken (λ s _. more s v) (ended v (omega arith)).given,
) refl

-- and so does what has come to a place
pub course-steady : (o : Opening) (sent now : Sent) (endings : ViewEnds) (v p : ℕ) → SentMore sent now
    → ((u : ℕ) → u < v → ViewHasEnded o sent endings u) → HeldBelow sent (view_in o endings v) p
    → course o now endings v p ≡ course o sent endings v p
course-steady o sent now endings v p more ended held = ap (λ es. es ++ laid o now (view_in o endings v) p)
    (head-steady o sent now endings v more ended) ∙ ap (λ es. head_of o sent endings v ++ es)
    (laid-steady o sent now (view_in o endings v) p (λ s _. more s v) held)

-- a view that has ended stays so
pub ended-steady : (o : Opening) (sent now : Sent) (endings : ViewEnds) (v : ℕ) → SentMore sent now
    → ViewHasEnded o sent endings v → ViewHasEnded o now endings v
ended-steady o sent now endings v more ended = record {
  follows = ended.follows;
  roster = ended.roster;
  majority = ended.majority;
  newcomers = ended.newcomers;
  given = λ s member. longer (sent s v) (now s v) (ended.given s member) (more s v);
}
  where
    longer : {A : Type 0} {n : ℕ} (xs ys : List A) → n ≤ length xs → IsPrefixOf xs ys → n ≤ length ys
    longer xs ys l pre = omega (arith, l, ap length pre.1, length-append xs pre.0)
