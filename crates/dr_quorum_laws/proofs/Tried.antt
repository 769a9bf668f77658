-- After a try the logs hold again, with the try at the end of the list.
use Rattle.std.proofs.Common.{◌≡◌, ap, sym, ◌∙◌, ◌⊎◌, inl, inr, subst, ℕ, ◌<◌, ◌≤◌, arith, true, List, [], ◌∷◌, ◌++◌, length, take, Contains, Some, slice_get, append-nil, append_assoc, length-append, take_at}
use Rattle.std.proofs.lemmas.{Bool.cases_lt, List.take-append-le, Option.none-some}
use Rattle.dr_entry.{specs.declared.entry.Entry.{Entry, TheVariants.View}, proofs.ListFacts.split-last}
use Rattle.dr_entry.proofs.{ListParts.in-split, ListPlaces.slice_get-push_cases}
use Rattle.dr_history.specs.{History.IsPrefixOf, Order.first_entries, Restarting.AllStand, Soundness.whole_roster}
use Rattle.dr_history.proofs.{Keeping.{prefix_beside, prefix_shorter, take-less}, LastViews.start-earlier}
use Rattle.dr_history.proofs.Lists.{slice_get-prefix, prefix-in, prefix-split, prefix-trans, prefix_refl}
use Rattle.dr_history.proofs.Standing.{part-stands}
use Rattle.dr_machine.{specs.{Group.{Group, IsPresent}, World.World}, proofs.Ends.first-in}
use Rattle.dr_restart.specs.{Choosing.{AreOfHolders, handed_of, of_set}, declared.lists.LogLists.LogLists}
use Rattle.dr_restart.specs.{Trying.{HaveAgeVote, IsTry, age_vote_of, first_view_of}, declared.lists.Attempt.Attempt}
use Rattle.dr_restart.{specs.declared.start.Start.Start, proofs.Handing.{handed-part, set-log}}
use Rattle.dr_restart.proofs.Trying.{IsBroughtUp, entries-case, old-log, front_case, each-try}
use Rattle.dr_words.specs.Masks.{IsMajorityOf, IsPartOf}
use Rattle.dr_world_laws.proofs.Ended.{durable-delivered}
use Rattle.dr_quorum_laws.specs.Holding.{GoesOnFrom, HoldSince, IsKeptBy, IsOfAgeOrEarlier, IsOpenedTry, KeepsDurable}
use Rattle.dr_quorum_laws.proofs.{Chosen.{chosen-keeps, start-holder}, Ended.durable-front, Handing.Since}
use Rattle.dr_quorum_laws.proofs.Grown.{ages-below, first-held, first-kept, goes-more, last-opened, more-opened, opened-cases}

-- ---- what a log begins with

-- what somebody knows to be durable stands in what keeps it
durable-in : (g : Group) (w : World) (choice logs : List LogLists) (tries : List Attempt)
    (s : Since g w choice tries logs) (es : List Entry) → KeepsDurable g w s.held.history tries es
    → (k d : ℕ) → IsPresent g k → d ≤ w.past.durable k → IsPrefixOf (take d s.held.history) es
durable-in g w choice logs tries s es keeps k d there l = prefix-trans (take d s.held.history) keeps.front es
    (prefix-trans (take d s.held.history) (take (w.past.durable k) s.held.history) keeps.front
    (take-less d (w.past.durable k) s.held.history l) (subst (λ l. IsPrefixOf l keeps.front)
    (sym (durable-front g w s.held.history k s.group s.known s.held.longest there
    (durable-delivered g w k s.group s.known there))) (keeps.durable k there))) (keeps.goes.views, sym keeps.goes.is)

-- ---- how the entries of a log have grown

-- brought up, it still is of the age or of earlier ones
brought-grown : (g : Group) (w : World) (choice before after : List LogLists)
    (tries : List Attempt) (try : Attempt) (s : Since g w choice tries before) → IsTry g.opening before after try
    → IsKeptBy g w s.held.history tries try.start → (m : ℕ) (old new : LogLists) → slice_get before m ≡ Some old
    → new.votes ≡ old.votes → IsBroughtUp try m old new → IsOfAgeOrEarlier g s.held.history (tries ++ try ∷ []) new
brought-grown g w choice before after tries try s t kept m old new was votes up =
    by (front_case try.start new.entries up.2)
  where
    h : List Entry
    h = s.held.history

    front : List Entry
    front = kept.keeps.front

    goes : GoesOnFrom s.held.history tries kept.keeps.front try.start.entries
    goes = kept.keeps.goes

    first : IsPrefixOf (first_entries g.opening) kept.keeps.front
    first = first-kept g w choice before tries s kept.keeps.front kept.keeps.durable

    holds : (es : List Entry) → IsPrefixOf (first_entries g.opening) es → (members : ℕ)
        × Contains es (View g.opening.age 0 members)
    holds es p = (g.opening.members, first-in g es p)

    -- all of the start and its View
    whole : new.entries ≡ try.start.entries ++ first_view_of try.start ∷ []
        → IsOfAgeOrEarlier g s.held.history (tries ++ try ∷ []) new
    whole e = inl (
      holds new.entries (prefix-trans (first_entries g.opening) kept.keeps.front new.entries first
          (goes.views ++ first_view_of try.start ∷ [], sym behind)),
      kept.keeps.front,
      record {
        views = goes.views ++ first_view_of try.start ∷ [];
        is = behind;
        delivered = goes.delivered;
        opened = λ k x at. views k x (slice_get-push_cases goes.views (first_view_of try.start) x k at);
      },
    )
      where
        behind : new.entries ≡ kept.keeps.front ++ (goes.views ++ first_view_of try.start ∷ [])
        behind = e ∙ ap (λ es. es ++ first_view_of try.start ∷ []) goes.is
            ∙ append_assoc kept.keeps.front goes.views (first_view_of try.start ∷ [])

        views : (k : ℕ) (x : Entry) → ((k < length goes.views) × (slice_get goes.views k ≡ Some x))
            ⊎ ((k ≡ length goes.views) × (first_view_of try.start ≡ x))
            → (one : Attempt) × IsOpenedTry (tries ++ try ∷ []) one × (x ≡ first_view_of one.start)
        views k x (inl r) =
            let o = goes.opened k x r.1 in (o.0, more-opened tries try o.0 o.1, o.2)
        views k x (inr r) = (try, last-opened tries try up.0, sym r.1)

    -- a front of the history with all first entries
    far : IsPrefixOf new.entries s.held.history → length (first_entries g.opening) ≤ length new.entries
        → IsOfAgeOrEarlier g s.held.history (tries ++ try ∷ []) new
    far p l = inl (
      holds new.entries (prefix_beside (first_entries g.opening) new.entries s.held.history
          (prefix-trans (first_entries g.opening) kept.keeps.front s.held.history first goes.delivered) p l),
      new.entries,
      record {
        views = [];
        is = sym (append-nil new.entries);
        delivered = p;
        opened = λ k x at. absurd (none-some x at);
      },
    )

    -- or with fewer: then the old ones didn't have View 0 either
    early : length new.entries < length (first_entries g.opening) → IsPrefixOf new.entries s.held.history
        → IsOfAgeOrEarlier g s.held.history tries old → IsOfAgeOrEarlier g s.held.history (tries ++ try ∷ []) new
    early l p (inl o) = absurd (omega (
      arith,
      l,
      prefix_shorter (first_entries g.opening) new.entries (up.3 (first_entries g.opening)
          (first-held g w choice before tries s old.entries o.1 o.0.0 o.2 o.0.1)
          (prefix-trans (first_entries g.opening) kept.keeps.front try.start.entries first (goes.views, sym goes.is))),
    ))
    early l p (inr o) = inr (
      part-stands g.opening new.entries g.opening.start part s.group.sound.entries,
      record {
        views = λ a n k c. start-earlier g.opening a n k s.group.sound
            (prefix-in new.entries g.opening.start (View a n k) part c);
        votes = λ x c. o.1.votes x (subst (λ l. Contains l x) votes c);
      },
    )
      where
        part : IsPrefixOf new.entries g.opening.start
        part = short (prefix-split new.entries g.opening.start (View g.opening.age 0 g.opening.members ∷ [])
            (prefix_beside new.entries (first_entries g.opening) s.held.history p
            (prefix-trans (first_entries g.opening) kept.keeps.front s.held.history first goes.delivered)
            (omega (arith, l))))
          where
            short : IsPrefixOf new.entries g.opening.start ⊎ ((f : List Entry) × (new.entries ≡ g.opening.start ++ f)
                × IsPrefixOf f (View g.opening.age 0 g.opening.members ∷ [])) → IsPrefixOf new.entries g.opening.start
            short (inl q) = q
            short (inr ([], e, q)) = subst (λ es. IsPrefixOf es g.opening.start)
                (sym (e ∙ append-nil g.opening.start)) (prefix_refl g.opening.start)
            short (inr (x ∷ f, e, q)) = absurd (omega (
              arith,
              l,
              ap length e,
              length-append g.opening.start (x ∷ f),
              length-append g.opening.start (View g.opening.age 0 g.opening.members ∷ []),
            ))

    -- a part of the start
    part : IsPrefixOf new.entries kept.keeps.front ⊎ ((f : List Entry) × (new.entries ≡ kept.keeps.front ++ f)
        × IsPrefixOf f goes.views) → IsOfAgeOrEarlier g s.held.history (tries ++ try ∷ []) new
    part (inl p) = case (cases_lt (length new.entries) (length (first_entries g.opening)))
      where
        q : IsPrefixOf new.entries s.held.history
        q = prefix-trans new.entries kept.keeps.front s.held.history p goes.delivered

        case : (length new.entries < length (first_entries g.opening))
            ⊎ (length (first_entries g.opening) ≤ length new.entries)
            → IsOfAgeOrEarlier g s.held.history (tries ++ try ∷ []) new
        case (inl l) = early l q (s.held.grown m old was)
        case (inr l) = far q l
    part (inr (f, e, p)) = inl (
      holds new.entries (prefix-trans (first_entries g.opening) kept.keeps.front new.entries first (f, sym e)),
      kept.keeps.front,
      record {
        views = f;
        is = e;
        delivered = goes.delivered;
        opened = λ k x at.
            let o = goes.opened k x (slice_get-prefix f goes.views k x p at) in
            (o.0, more-opened tries try o.0 o.1, o.2);
      },
    )

    by : IsPrefixOf new.entries try.start.entries ⊎ (new.entries ≡ try.start.entries ++ first_view_of try.start ∷ [])
        → IsOfAgeOrEarlier g s.held.history (tries ++ try ∷ []) new
    by (inl p) = part (prefix-split new.entries kept.keeps.front goes.views
        (subst (IsPrefixOf new.entries) goes.is p))
    by (inr e) = whole e

-- as before, it is so still
same-grown : (g : Group) (history : List Entry) (tries : List Attempt) (try : Attempt) (old new : LogLists)
    → new.entries ≡ old.entries → new.votes ≡ old.votes → IsOfAgeOrEarlier g history tries old
    → IsOfAgeOrEarlier g history (tries ++ try ∷ []) new
same-grown g history tries try old new e votes (inl t) = inl (
  (t.0.0, subst (λ es. Contains es (View g.opening.age 0 t.0.0)) (sym e) t.0.1),
  t.1,
  subst (GoesOnFrom history (tries ++ try ∷ []) t.1) (sym e) (goes-more history tries try t.1 old.entries t.2),
)
same-grown g history tries try old new e votes (inr t) = inr (
  subst (AllStand g.opening) (sym e) t.0,
  record {
    views = λ a n k c. t.1.views a n k (subst (λ es. Contains es (View a n k)) e c);
    votes = λ x c. t.1.votes x (subst (λ l. Contains l x) votes c);
  },
)

-- ---- what stands before the View of a try

-- the View of the try stands on no log before it
no-view : (g : Group) (w : World) (choice logs : List LogLists) (tries : List Attempt)
    (s : Since g w choice tries logs) (start : Start) → IsKeptBy g w s.held.history tries start
    → (m : ℕ) (log : LogLists) → slice_get logs m ≡ Some log → Contains log.entries (first_view_of start) → ⊥
no-view g w choice logs tries s start kept m log at c =
    omega (arith, ages-below g w choice logs tries s start kept m log start.age 0 start.members at c)

-- on a log that held, or in the start of the try, the View of an opened try has its start before it
old-started : (g : Group) (w : World) (choice logs : List LogLists) (tries : List Attempt) (try one : Attempt)
    (s : Since g w choice tries logs) → IsKeptBy g w s.held.history tries try.start → (m : ℕ) (log : LogLists)
    (es before behind : List Entry) → slice_get logs m ≡ Some log → es ≡ log.entries
    → es ≡ before ++ first_view_of one.start ∷ behind
    → IsOpenedTry tries one ⊎ ((try ≡ one) × (one.opened ≡ true)) → before ≡ one.start.entries
old-started g w choice logs tries try one s kept m log es before behind at same e (inl opened) =
    s.held.started one m log before behind opened at (sym same ∙ e)
old-started g w choice logs tries try one s kept m log es before behind at same e (inr (is, opened)) =
    absurd (no-view g w choice logs tries s try.start kept m log at
    (subst (λ (t : Attempt). Contains log.entries (first_view_of t.start)) (sym is)
    (subst (λ l. Contains l (first_view_of one.start)) (sym e ∙ same)
    (in-split before behind (first_view_of one.start)))))

brought-started : (g : Group) (w : World) (choice before after : List LogLists)
    (tries : List Attempt) (try one : Attempt) (s : Since g w choice tries before)
    → IsTry g.opening before after try → IsKeptBy g w s.held.history tries try.start → (es front behind : List Entry)
    → IsPrefixOf es (try.start.entries ++ first_view_of try.start ∷ []) → es ≡ front ++ first_view_of one.start
    ∷ behind → IsOpenedTry tries one ⊎ ((try ≡ one) × (one.opened ≡ true)) → front ≡ one.start.entries
brought-started g w choice before after tries try one s t kept es front behind p e opened =
    by (front_case try.start es p)
  where
    holder : AreOfHolders g.opening (of_set before try.set) try.start.entries
    holder = start-holder g w choice before tries try.set try.start s t.choice

    here : slice_get before holder.held.0 ≡ Some holder.held.1
    here = (set-log before try.set holder.held.0 holder.held.1 holder.held.2).1

    -- within the start
    within : (rest : List Entry) → try.start.entries ≡ front ++ first_view_of one.start ∷ rest
        → front ≡ one.start.entries
    within rest is = old-started g w choice before tries try one s kept holder.held.0 holder.held.1
        try.start.entries front rest here holder.held.4 is opened

    -- or the View of the try itself
    last : ((front ≡ try.start.entries) × (first_view_of one.start ≡ first_view_of try.start))
        ⊎ ((rest : List Entry) × (try.start.entries ≡ front ++ first_view_of one.start ∷ rest))
        → IsOpenedTry tries one ⊎ ((try ≡ one) × (one.opened ≡ true)) → front ≡ one.start.entries
    last (inr r) o = within r.0 r.1
    last (inl r) (inr o) = r.0 ∙ ap (λ (a : Attempt). a.start.entries) o.0
    last (inl r) (inl o) =
        let same : one.start.age ≡ try.start.age = cc (r.1) in absurd (omega (arith, kept.after one o, same))

    by : IsPrefixOf es try.start.entries ⊎ (es ≡ try.start.entries ++ first_view_of try.start ∷ [])
        → front ≡ one.start.entries
    by (inl q) = within (behind ++ q.0) (sym q.1 ∙ ap (λ l. l ++ q.0) e
        ∙ append_assoc front (first_view_of one.start ∷ behind) q.0)
    by (inr q) = last (split-last front behind try.start.entries (first_view_of one.start)
        (first_view_of try.start) (sym e ∙ q)) opened

-- ---- all together

-- of the tries before a new one those before each are the same
kept-before : (g : Group) (w : World) (history : List Entry) (tries : List Attempt) (try one : Attempt) (k : ℕ)
    → ((k : ℕ) (one : Attempt) → slice_get tries k ≡ Some one
    → KeepsDurable g w history (take k tries) one.start.entries) → KeepsDurable g w history tries try.start.entries
    → ((k < length tries) × (slice_get tries k ≡ Some one)) ⊎ ((k ≡ length tries) × (try ≡ one))
    → KeepsDurable g w history (take k (tries ++ try ∷ [])) one.start.entries
kept-before g w history tries try one k old new (inl (l, at)) =
    subst (λ ts. KeepsDurable g w history ts one.start.entries)
    (sym (take-append-le k tries (try ∷ []) (omega (arith, l)))) (old k one at)
kept-before g w history tries try one k old new (inr (l, same)) =
    subst (λ ts. KeepsDurable g w history ts one.start.entries) (sym (take_at tries (try ∷ []) k (sym l)))
    (subst (λ (a : Attempt). KeepsDurable g w history tries a.start.entries) same new)

pub tried-held : (g : Group) (w : World) (choice before after : List LogLists) (tries : List Attempt)
    (try : Attempt) → Since g w choice tries before → IsTry g.opening before after try
    → HoldSince g w choice (tries ++ try ∷ []) after
tried-held g w choice before after tries try s t = record {
  history = s.held.history;
  longest = s.held.longest;
  all = t.places ∙ s.held.all;
  votes = λ m was log present at here.
      let old = old-log g before after try t m log here in
      (t.votes m old.0 log old.1 here).0 ∙ s.held.votes m was old.0 present at old.1;
  begins = λ m d k was log there at here l knows durable.
      let old = old-log g before after try t m log here in
      begins m d k old.0 log here old.1 knows durable (s.held.begins m d k was old.0 there at old.1 l knows durable)
      (entries-case g before after try t m old.0 log old.1 here);
  grown = λ m log here.
      let old = old-log g before after try t m log here in
      grown m old.0 log here old.1 (entries-case g before after try t m old.0 log old.1 here);
  voted = λ one opened. voted one opened (opened-cases tries try one opened);
  rising = λ i j one other l at o here p. rising i j one other l o p
      (slice_get-push_cases tries try one i at) (slice_get-push_cases tries try other j here);
  above = λ one opened. above one (opened-cases tries try one opened);
  started = λ one m log front behind opened here e.
      let old = old-log g before after try t m log here in
      started one m old.0 log front behind old.1 e (opened-cases tries try one opened)
      (entries-case g before after try t m old.0 log old.1 here);
  part = λ k one at. each-try (λ a. IsPartOf a.set (whole_roster g.opening)) tries try one k s.held.part
      (subst (λ mask. IsPartOf mask (whole_roster g.opening)) (sym set)
      (handed-part (of_set before try.set) (whole_roster g.opening))) (slice_get-push_cases tries try one k at);
  majority = λ k one at. each-try (λ a. IsMajorityOf a.set (whole_roster g.opening)) tries try one k s.held.majority
      (subst (λ mask. IsMajorityOf mask (whole_roster g.opening)) (sym set) t.choice.quorum)
      (slice_get-push_cases tries try one k at);
  kept = λ k one at. kept-before g w s.held.history tries try one k s.held.kept kept.keeps
      (slice_get-push_cases tries try one k at);
}
  where
    kept : IsKeptBy g w s.held.history tries try.start
    kept = chosen-keeps g w choice before tries try.set try.start s t.choice

    set : try.set ≡ handed_of (of_set before try.set) (whole_roster g.opening)
    set = t.set ∙ t.choice.present

    begins : (m d k : ℕ) (old log : LogLists) → slice_get after m ≡ Some log → slice_get before m ≡ Some old
        → IsPresent g k → d ≤ w.past.durable k → IsPrefixOf (take d s.held.history) old.entries
        → (log.entries ≡ old.entries) ⊎ IsBroughtUp try m old log → IsPrefixOf (take d s.held.history) log.entries
    begins m d k old log here was knows durable p (inl e) = subst (IsPrefixOf (take d s.held.history)) (sym e) p
    begins m d k old log here was knows durable p (inr up) = up.3 (take d s.held.history) p
        (durable-in g w choice before tries s try.start.entries kept.keeps k d knows durable)

    grown : (m : ℕ) (old log : LogLists) → slice_get after m ≡ Some log → slice_get before m ≡ Some old
        → (log.entries ≡ old.entries) ⊎ IsBroughtUp try m old log
        → IsOfAgeOrEarlier g s.held.history (tries ++ try ∷ []) log
    grown m old log here was (inl e) = same-grown g s.held.history tries try old log e
        (t.votes m old log was here).0 (s.held.grown m old was)
    grown m old log here was (inr up) = brought-grown g w choice before after tries try s t kept m old log was
        (t.votes m old log was here).0 up

    voted : (one : Attempt) → IsOpenedTry (tries ++ try ∷ []) one
        → IsOpenedTry tries one ⊎ ((try ≡ one) × (one.opened ≡ true)) → HaveAgeVote after one.set one.start
    voted one opened (inl o) = λ m log here.
        let old = old-log g before after try t m log here.1 in
        (t.votes m old.0 log old.1 here.1).1 (age_vote_of one.start) (s.held.voted one o m old.0 (here.0, old.1))
    voted one opened (inr (same, o)) = subst (λ (a : Attempt). HaveAgeVote after a.set a.start) same
        (t.opened (ap (λ (a : Attempt). a.opened) same ∙ o))

    rising : (i j : ℕ) (one other : Attempt) → i < j → one.opened ≡ true → other.opened ≡ true → ((i < length tries)
        × (slice_get tries i ≡ Some one)) ⊎ ((i ≡ length tries) × (try ≡ one)) → ((j < length tries)
        × (slice_get tries j ≡ Some other)) ⊎ ((j ≡ length tries) × (try ≡ other)) → one.start.age < other.start.age
    rising i j one other l o p (inl (within, at)) (inl (less, here)) = s.held.rising i j one other l at o here p
    rising i j one other l o p (inl (within, at)) (inr (last, same)) =
        subst (λ (a : Attempt). one.start.age < a.start.age) same (kept.after one (i, at, o))
    rising i j one other l o p (inr (last, same)) (inl (less, here)) = absurd (omega (arith, l, last, less))
    rising i j one other l o p (inr (last, same)) (inr (also, too)) = absurd (omega (arith, l, last, also))

    above : (one : Attempt) → IsOpenedTry tries one ⊎ ((try ≡ one) × (one.opened ≡ true))
        → g.opening.age < one.start.age
    above one (inl o) = s.held.above one o
    above one (inr (same, o)) = subst (λ (a : Attempt). g.opening.age < a.start.age) same kept.later

    started : (one : Attempt) (m : ℕ) (old log : LogLists) (front behind : List Entry) → slice_get before m ≡ Some old
        → log.entries ≡ front ++ first_view_of one.start ∷ behind → IsOpenedTry tries one ⊎ ((try ≡ one)
        × (one.opened ≡ true)) → (log.entries ≡ old.entries) ⊎ IsBroughtUp try m old log → front ≡ one.start.entries
    started one m old log front behind was e opened (inl same) =
        old-started g w choice before tries try one s kept m old log.entries front behind was same e opened
    started one m old log front behind was e opened (inr up) =
        brought-started g w choice before after tries try one s t kept log.entries front behind up.2 e opened
