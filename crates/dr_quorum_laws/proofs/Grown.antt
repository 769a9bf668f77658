-- What a try makes of one log, and which Views stand on logs that hold.
use Rattle.std.proofs.Common.{◌≡◌, refl, sym, ◌⊎◌, inl, inr, subst, ℕ, ◌<◌, arith, true, List, [], ◌∷◌, ◌++◌, length, take, drop, Contains, Some, slice_get, length-append, length-take, take-append-drop}
use Rattle.std.proofs.lemmas.{List.Elements.Contains-append_cases, Option.slice_get_within}
use Rattle.dr_entry.specs.declared.entry.Entry.{Entry, TheVariants.View}
use Rattle.dr_entry.proofs.ListPlaces.{slice_get-push_cases, slice_get-seam, read-in}
use Rattle.dr_history.specs.{History.IsPrefixOf, Order.first_entries, Restarting.AllStand}
use Rattle.dr_history.proofs.{Keeping.prefix_beside, Lists.{slice_get-prefix, prefix-in, prefix_more, prefix-trans}}
use Rattle.dr_history.proofs.ViewLemmas.{View-once, ViewsRise-standing}
use Rattle.dr_machine.{specs.{Group.{Group, IsPresent}, World.World}, proofs.Groups.somebody-there}
use Rattle.dr_restart.specs.declared.{lists.{Attempt.Attempt, LogLists.LogLists}, start.Start.Start}
use Rattle.dr_world_laws.proofs.Ended.{durable-delivered, first-begins, first-durable, stands}
use Rattle.dr_quorum_laws.specs.Holding.{AreTheirViews, GoesOnFrom, IsKeptBy, IsOfAgeOrEarlier, IsOpenedTry}
use Rattle.dr_quorum_laws.proofs.{Chosen.history-none, Handing.Since}

-- ---- the views of the tries

pub more-opened : (tries : List Attempt) (try one : Attempt) → IsOpenedTry tries one → IsOpenedTry (tries ++ try ∷ []) one
more-opened tries try one (k, e, o) = (k, slice_get-prefix tries (tries ++ try ∷ []) k one (try ∷ [], refl) e, o)

pub last-opened : (tries : List Attempt) (try : Attempt) → try.opened ≡ true → IsOpenedTry (tries ++ try ∷ []) try
last-opened tries try o = (length tries, slice_get-seam tries try [], o)

pub opened-cases : (tries : List Attempt) (try one : Attempt) → IsOpenedTry (tries ++ try ∷ []) one
    → IsOpenedTry tries one ⊎ ((try ≡ one) × (one.opened ≡ true))
opened-cases tries try one (k, e, o) = by (slice_get-push_cases tries try one k e)
  where
    by : ((k < length tries) × (slice_get tries k ≡ Some one)) ⊎ ((k ≡ length tries) × (try ≡ one))
        → IsOpenedTry tries one ⊎ ((try ≡ one) × (one.opened ≡ true))
    by (inl t) = inl (k, t.1, o)
    by (inr t) = inr (t.1, o)

pub goes-more : (history : List Entry) (tries : List Attempt) (try : Attempt) (front entries : List Entry)
    → GoesOnFrom history tries front entries → GoesOnFrom history (tries ++ try ∷ []) front entries
goes-more history tries try front entries goes = record {
  views = goes.views;
  is = goes.is;
  delivered = goes.delivered;
  opened = λ k e at. let t = goes.opened k e at in (t.0, more-opened tries try t.0 t.1, t.2);
}

-- ---- View 0 of the age

-- a front of the history that has it has all first entries
pub first-of : (g : Group) (w : World) (choice logs : List LogLists) (tries : List Attempt)
    (s : Since g w choice tries logs) (front : List Entry) (k : ℕ) → IsPrefixOf front s.held.history
    → Contains front (View g.opening.age 0 k) → IsPrefixOf (first_entries g.opening) front
first-of g w choice logs tries s front k p c = prefix_beside (first_entries g.opening) front s.held.history begins p
    (omega (arith, length-append g.opening.start (View g.opening.age 0 g.opening.members ∷ []), place, within))
  where
    one : (m : ℕ) × IsPresent g m × (w.past.history m ≡ s.held.history)
    one = s.held.longest.one

    begins : IsPrefixOf (first_entries g.opening) s.held.history
    begins = subst (IsPrefixOf (first_entries g.opening)) one.2 (first-begins g w one.0 s.group s.known one.1)

    stand : AllStand g.opening s.held.history
    stand = subst (AllStand g.opening) one.2 (stands g w one.0 s.group s.known one.1)

    at : (i : ℕ) × (slice_get front i ≡ Some (View g.opening.age 0 k))
    at = read-in front (View g.opening.age 0 k) c

    within : at.0 < length front
    within = slice_get_within front at.0 (View g.opening.age 0 k) at.1

    place : at.0 ≡ length g.opening.start
    place = View-once s.held.history at.0 (length g.opening.start) g.opening.age 0 k g.opening.members
        (ViewsRise-standing g.opening s.held.history stand) (slice_get-prefix front s.held.history at.0
        (View g.opening.age 0 k) p at.1) (slice_get-prefix (first_entries g.opening) s.held.history
        (length g.opening.start) (View g.opening.age 0 g.opening.members) begins
        (slice_get-seam g.opening.start (View g.opening.age 0 g.opening.members) []))

-- the View of an opened try isn't it
no-first : (g : Group) (w : World) (choice logs : List LogLists) (tries : List Attempt)
    (s : Since g w choice tries logs) (views : List Entry) (k : ℕ) → AreTheirViews tries views
    → Contains views (View g.opening.age 0 k) → ⊥
no-first g w choice logs tries s views k theirs c =
    let at = read-in views (View g.opening.age 0 k) c in
    let t = theirs at.0 (View g.opening.age 0 k) at.1 in
    let same : g.opening.age ≡ t.0.start.age = cc (t.2) in absurd (omega (arith, s.held.above t.0 t.1, same))

-- a log that holds it has all first entries
pub first-held : (g : Group) (w : World) (choice logs : List LogLists) (tries : List Attempt)
    (s : Since g w choice tries logs) (es front : List Entry) (k : ℕ) → GoesOnFrom s.held.history tries front es
    → Contains es (View g.opening.age 0 k) → IsPrefixOf (first_entries g.opening) es
first-held g w choice logs tries s es front k goes c = subst (IsPrefixOf (first_entries g.opening)) (sym goes.is)
    (prefix_more (first_entries g.opening) front goes.views
    (by (Contains-append_cases front goes.views (View g.opening.age 0 k)
    (subst (λ l. Contains l (View g.opening.age 0 k)) goes.is c))))
  where
    by : Contains front (View g.opening.age 0 k) ⊎ Contains goes.views (View g.opening.age 0 k)
        → IsPrefixOf (first_entries g.opening) front
    by (inl h) = first-of g w choice logs tries s front k goes.delivered h
    by (inr h) = absurd (no-first g w choice logs tries s goes.views k goes.opened h)

-- what keeps all that was durable has them too
pub first-kept : (g : Group) (w : World) (choice logs : List LogLists) (tries : List Attempt)
    → Since g w choice tries logs → (front : List Entry)
    → ((m : ℕ) → IsPresent g m → IsPrefixOf (take (w.past.durable m) (w.past.history m)) front)
    → IsPrefixOf (first_entries g.opening) front
first-kept g w choice logs tries s front durable =
    let i = somebody-there g s.part s.majority in
    prefix-trans (first_entries g.opening) (take (w.past.durable i.0) (w.past.history i.0)) front
    (prefix_beside (first_entries g.opening) (take (w.past.durable i.0) (w.past.history i.0)) (w.past.history i.0)
    (first-begins g w i.0 s.group s.known i.1)
    (drop (w.past.durable i.0) (w.past.history i.0), take-append-drop (w.past.durable i.0) (w.past.history i.0))
    (omega (
      arith,
      length-take (w.past.durable i.0) (w.past.history i.0),
      first-durable g w i.0 s.group s.known,
      durable-delivered g w i.0 s.group s.known i.1,
    ))) (durable i.0 i.1)

-- ---- ages

-- every View on a log is of an age below that of the try
pub ages-below : (g : Group) (w : World) (choice logs : List LogLists) (tries : List Attempt)
    (s : Since g w choice tries logs) (start : Start) → IsKeptBy g w s.held.history tries start → (m : ℕ)
    (log : LogLists) (a n k : ℕ) → slice_get logs m ≡ Some log → Contains log.entries (View a n k) → a < start.age
ages-below g w choice logs tries s start kept m log a n k at c = by (s.held.grown m log at)
  where
    views : (vs : List Entry) → AreTheirViews tries vs → Contains vs (View a n k) → a < start.age
    views vs theirs h =
        let r = read-in vs (View a n k) h in
        let t = theirs r.0 (View a n k) r.1 in
        let same : a ≡ t.0.start.age = cc (t.2) in omega (arith, kept.after t.0 t.1, same)

    parts : (front : List Entry) → (x : GoesOnFrom s.held.history tries front log.entries)
        → Contains front (View a n k) ⊎ Contains x.views (View a n k) → a < start.age
    parts front x (inl h) = omega (
      arith,
      history-none g w choice logs tries s a n k (prefix-in front s.held.history (View a n k) x.delivered h),
      kept.later,
    )
    parts front x (inr h) = views x.views x.opened h

    by : IsOfAgeOrEarlier g s.held.history tries log → a < start.age
    by (inl t) = parts t.1 t.2 (Contains-append_cases t.1 t.2.views (View a n k)
        (subst (λ es. Contains es (View a n k)) t.2.is c))
    by (inr t) = omega (arith, t.1.views a n k c, kept.later)
