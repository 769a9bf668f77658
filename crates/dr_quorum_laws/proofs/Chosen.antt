-- What a choice keeps: the start that held logs make, whichever are handed in, keeps all that was durable.
use Rattle.std.proofs.Common.{◌≡◌, refl, ap, sym, ◌∙◌, ◌⊎◌, inl, inr, subst, ℕ, ◌<◌, ◌≤◌, arith, true, List, [], ◌∷◌, ◌++◌, length, take, drop, Contains, Some, slice_get, append-nil, append_assoc, take-append-drop}
use Rattle.std.proofs.lemmas.Option.{none-some}
use Rattle.dr_entry.{specs.declared.entry.Entry.{Entry, TheVariants.View}, proofs.ListFacts.last-of}
use Rattle.dr_entry.proofs.ListPlaces.{slice_get-push_cases, slice_get-seam}
use Rattle.dr_history.specs.{History.IsPrefixOf, Members.has, Soundness.whole_roster}
use Rattle.dr_history.proofs.{Keeping.{prefix_beside, prefix_shorter}, LastViews.{last-view, view-come, view-late}}
use Rattle.dr_history.proofs.Lists.{slice_get-prefix, prefix-in}
use Rattle.dr_machine.{specs.{Group.{Group, IsPresent, roster}, World.World}, proofs.Ends.first-in}
use Rattle.dr_restart.specs.Choosing.{AreFirst, AreOfHolders, AreOfNobody, EndsInAge, HasQuorum, IsChosenStart, of_set, on_path}
use Rattle.dr_restart.specs.{Trying.{age_vote_of, first_view_of}, declared.lists.{Attempt.Attempt, LogLists.LogLists}}
use Rattle.dr_restart.{specs.declared.start.Start.Start, proofs.Handing.{quorum-meets, quorum-some, set-log}}
use Rattle.dr_world_laws.specs.Views.{HasView}
use Rattle.dr_world_laws.proofs.Ended.{durable-delivered, durable-since, no-later, view-present}
use Rattle.dr_quorum_laws.specs.Holding.{GoesOnFrom, IsKeptBy, IsOfAgeOrEarlier, IsOpenedTry, KeepsDurable}
use Rattle.dr_quorum_laws.proofs.{Ended.durable-front, Handing.{Since, durable-there, first-there}, Paths.path-has}

-- ---- which logs there are

-- a log handed in of a member that was there
met : (g : Group) (w : World) (choice logs : List LogLists) (tries : List Attempt) (set : ℕ) (start : Start)
    → Since g w choice tries logs → IsChosenStart g.opening (of_set logs set) start
    → (i : ℕ) × IsPresent g i × (log : LogLists) × (of_set logs set i ≡ Some log)
met g w choice logs tries set start s c =
    let t = quorum-meets (of_set logs set) (whole_roster g.opening) g.opening.present c.quorum s.part s.majority in
    (t.0, t.2, t.3, t.4)

-- the log of a member that was there ends in an age no earlier than that one
ends_late : (g : Group) (w : World) (choice logs : List LogLists) (tries : List Attempt) (set : ℕ) (start : Start)
    → Since g w choice tries logs → IsChosenStart g.opening (of_set logs set) start → (i : ℕ) (log : LogLists)
    → IsPresent g i → of_set logs set i ≡ Some log → (a : ℕ) × EndsInAge log a × (g.opening.age ≤ a)
ends_late g w choice logs tries set start s c i log there handed =
    let first = first-in g log.entries
    (first-there g w choice logs tries s i log there (set-log logs set i log handed).1) in
    let stand = c.sound i log handed in
    let t = view-come g.opening log.entries g.opening.age 0 g.opening.members stand first in (
      t.0.age,
      (t.0, t.1, refl),
      view-late g.opening log.entries g.opening.age 0 g.opening.members t.0 stand first t.1,
    )

-- no View of the longest history is of a later age
pub history-none : (g : Group) (w : World) (choice logs : List LogLists) (tries : List Attempt)
    (s : Since g w choice tries logs) (a n k : ℕ) → Contains s.held.history (View a n k) → a ≤ g.opening.age
history-none g w choice logs tries s a n k c =
    let t = s.held.longest.one in
    no-later g w t.0 a n k s.group s.known t.1 (subst (λ es. Contains es (View a n k)) (sym t.2) c)

-- ---- the longest of the first parts of the history

-- where the holders' age is that of the ended one, a holder without a View of a try is so long as all that is
-- durable
whole_front : (g : Group) (w : World) (choice logs : List LogLists) (tries : List Attempt) (set : ℕ) (start : Start)
    (s : Since g w choice tries logs) → IsChosenStart g.opening (of_set logs set) start → (h : AreOfHolders g.opening
    (of_set logs set) start.entries) → h.age ≡ g.opening.age → IsPrefixOf start.entries s.held.history
    → (m : ℕ) → IsPresent g m → IsPrefixOf (take (w.past.durable m) (w.past.history m)) start.entries
whole_front g w choice logs tries set start s c h same front m there = subst (λ es. IsPrefixOf es start.entries)
    (durable-front g w s.held.history m s.group s.known s.held.longest there
    (durable-delivered g w m s.group s.known there))
    (prefix_beside (take d s.held.history) start.entries s.held.history
    (drop d s.held.history, take-append-drop d s.held.history) front long)
  where
    d : ℕ
    d = w.past.durable m

    since : (v : ℕ) × (members : ℕ) × HasView g w v members
        × ((i : ℕ) → has members i ≡ true → w.past.durable m ≤ length (w.past.log i))
    since = durable-since g w m s.group s.known there

    first : AreFirst (of_set logs set) g.opening.age g.opening.members
    first =
        let t = met g w choice logs tries set start s c in
        let e = ends_late g w choice logs tries set start s c t.0 t.2 t.1 t.3 in
        let most = h.last.greatest t.0 e.0 t.2 t.3 e.1 in
        let is : e.0 ≡ g.opening.age = omega (arith, e.2, most, same) in (
          t.2.entries,
          (t.0, t.2, t.3, subst (EndsInAge t.2) is e.1, refl),
          first-in g t.2.entries (first-there g w choice logs tries s t.0 t.2 t.1 (set-log logs set t.0 t.2 t.3).1),
        )

    quorums : (u mask : ℕ) → on_path (of_set logs set) (roster g) g.opening.age g.opening.members u ≡ Some mask
        → HasQuorum (of_set logs set) mask
    quorums u mask e = h.path g.opening.members u mask
        (subst (λ a. AreFirst (of_set logs set) a g.opening.members) (sym same) first)
        (subst (λ a. on_path (of_set logs set) (roster g) a g.opening.members u ≡ Some mask) (sym same) e)

    one : (i : ℕ) × (has since.1 i ≡ true) × (log : LogLists) × (of_set logs set i ≡ Some log)
    one = quorum-some (of_set logs set) since.1 (quorums since.0 since.1
        (path-has g w choice logs tries set since.0 since.1 s quorums since.2))

    here : IsPresent g one.0
    here = view-present g w since.0 since.1 one.0 s.group s.known since.2 one.1

    has_it : IsPrefixOf (take (w.past.durable m) s.held.history) one.2.entries
    has_it = durable-there g w choice logs tries s one.0 m d one.2 here (set-log logs set one.0 one.2 one.3).1 there
        (since.3 one.0 one.1) (omega arith)

    long : length (take (w.past.durable m) s.held.history) ≤ length start.entries
    long =
        let e = ends_late g w choice logs tries set start s c one.0 one.2 here one.3 in
        let most = h.last.greatest one.0 e.0 one.2 one.3 e.1 in
        let is : e.0 ≡ h.age = omega (arith, e.2, most, same) in
        omega (
          arith,
          prefix_shorter (take d s.held.history) one.2.entries has_it,
          h.longest one.2.entries (one.0, one.2, one.3, subst (EndsInAge one.2) is e.1, refl),
        )

-- ---- the ages

-- the new age is above the one that has ended
pub age-later : (g : Group) (w : World) (choice logs : List LogLists) (tries : List Attempt) (set : ℕ) (start : Start)
    → Since g w choice tries logs → IsChosenStart g.opening (of_set logs set) start → g.opening.age < start.age
age-later g w choice logs tries set start s c =
    let t = met g w choice logs tries set start s c in
    c.age.above t.0 g.opening.age t.2 t.3 (inl (
      0,
      g.opening.members,
      first-in g t.2.entries (first-there g w choice logs tries s t.0 t.2 t.1 (set-log logs set t.0 t.2 t.3).1),
    ))

-- and above those of all opened tries
pub age-after : (g : Group) (w : World) (choice logs : List LogLists) (tries : List Attempt) (set : ℕ)
    (start : Start) → Since g w choice tries logs → IsChosenStart g.opening (of_set logs set) start
    → (try : Attempt) → IsOpenedTry tries try → try.start.age < start.age
age-after g w choice logs tries set start s c try opened =
    let t = quorum-meets (of_set logs set) (whole_roster g.opening) try.set c.quorum
    (s.held.part opened.0 try opened.1) (s.held.majority opened.0 try opened.1) in
    let voted = s.held.voted try opened t.0 t.3 (t.2, (set-log logs set t.0 t.3 t.4).1) in
    c.age.above t.0 try.start.age t.3 t.4 (inr (inr (age_vote_of try.start, voted, refl)))

-- ---- a holder

-- of the tries before one each opened one is one of all
pub opened-before : (tries : List Attempt) (k : ℕ) (try : Attempt) → IsOpenedTry (take k tries) try
    → IsOpenedTry tries try
opened-before tries k try (i, e, o) = (
  i,
  slice_get-prefix (take k tries) tries i try (drop k tries, take-append-drop k tries) e,
  o,
)

-- a holder that ends in the View of an opened try has the try's start before it
by_try : (g : Group) (w : World) (choice logs : List LogLists) (tries : List Attempt)
    (s : Since g w choice tries logs) (m : ℕ) (log : LogLists) (before : List Entry) (x : Entry)
    → slice_get logs m ≡ Some log → log.entries ≡ before ++ x ∷ [] → (try : Attempt)
    × IsOpenedTry tries try × (x ≡ first_view_of try.start) → KeepsDurable g w s.held.history tries log.entries
by_try g w choice logs tries s m log before x at is (try, opened, same) = record {
  front = old.front;
  goes = record {
    views = old.goes.views ++ first_view_of try.start ∷ [];
    is = whole ∙ ap (λ es. es ++ first_view_of try.start ∷ []) (started ∙ old.goes.is)
        ∙ append_assoc old.front old.goes.views (first_view_of try.start ∷ []);
    delivered = old.goes.delivered;
    opened = λ k e h. views k e (slice_get-push_cases old.goes.views (first_view_of try.start) e k h);
  };
  durable = old.durable;
}
  where
    whole : log.entries ≡ before ++ first_view_of try.start ∷ []
    whole = is ∙ ap (λ e. before ++ e ∷ []) same

    started : before ≡ try.start.entries
    started = s.held.started try m log before [] opened at whole

    old : KeepsDurable g w s.held.history (take opened.0 tries) try.start.entries
    old = s.held.kept opened.0 try opened.1

    views : (k : ℕ) (e : Entry) → ((k < length old.goes.views) × (slice_get old.goes.views k ≡ Some e))
        ⊎ ((k ≡ length old.goes.views) × (first_view_of try.start ≡ e))
        → (t : Attempt) × IsOpenedTry tries t × (e ≡ first_view_of t.start)
    views k e (inl (l, h)) =
        let t = old.goes.opened k e h in (t.0, opened-before tries opened.0 t.0 t.1, t.2)
    views k e (inr (l, h)) = (try, opened, sym h)

-- a holder is a log that goes on from a front of the history
holder_goes : (g : Group) (w : World) (choice logs : List LogLists) (tries : List Attempt) (set : ℕ) (start : Start)
    (s : Since g w choice tries logs) → IsChosenStart g.opening (of_set logs set) start → (h : AreOfHolders g.opening
    (of_set logs set) start.entries) → (m : ℕ) (log : LogLists) → of_set logs set m ≡ Some log → EndsInAge log h.age
    → (g.opening.age ≤ h.age) × (front : List Entry) × GoesOnFrom s.held.history tries front log.entries
holder_goes g w choice logs tries set start s c h m log handed ends =
    by (s.held.grown m log (set-log logs set m log handed).1)
  where
    late : g.opening.age ≤ h.age
    late =
        let t = met g w choice logs tries set start s c in
        let e = ends_late g w choice logs tries set start s c t.0 t.2 t.1 t.3 in
        omega (arith, e.2, h.last.greatest t.0 e.0 t.2 t.3 e.1)

    by : IsOfAgeOrEarlier g s.held.history tries log
        → (g.opening.age ≤ h.age) × (front : List Entry) × GoesOnFrom s.held.history tries front log.entries
    by (inl t) = (late, t.1, t.2)
    by (inr t) =
        let last = last-view log.entries ends.0 ends.1 in
        let early = t.1.views ends.0.age ends.0.number last.0 last.1 in absurd (omega (arith, early, ends.2, late))

-- so its entries keep all that was durable
holder_keeps : (g : Group) (w : World) (choice logs : List LogLists) (tries : List Attempt) (set : ℕ) (start : Start)
    (s : Since g w choice tries logs) → IsChosenStart g.opening (of_set logs set) start → (h : AreOfHolders g.opening
    (of_set logs set) start.entries) → KeepsDurable g w s.held.history tries start.entries
holder_keeps g w choice logs tries set start s c h =
    subst (KeepsDurable g w s.held.history tries) (sym h.held.4) (by (last-of t.2.views))
  where
    m : ℕ
    m = h.held.0

    log : LogLists
    log = h.held.1

    t : (g.opening.age ≤ h.age) × (front : List Entry) × GoesOnFrom s.held.history tries front h.held.1.entries
    t = holder_goes g w choice logs tries set start s c h h.held.0 h.held.1 h.held.2 h.held.3

    here : slice_get logs h.held.0 ≡ Some h.held.1
    here = (set-log logs set h.held.0 h.held.1 h.held.2).1

    by : (t.2.views ≡ []) ⊎ ((front : List Entry) × (x : Entry) × (t.2.views ≡ front ++ x ∷ []))
        → KeepsDurable g w s.held.history tries h.held.1.entries
    by (inl none) =
        let whole : h.held.1.entries ≡ t.1 = t.2.is ∙ ap (λ vs. t.1 ++ vs) none ∙ append-nil t.1 in
        let front : IsPrefixOf h.held.1.entries s.held.history =
        subst (λ es. IsPrefixOf es s.held.history) (sym whole) t.2.delivered in
        let last = last-view h.held.1.entries h.held.3.0 h.held.3.1 in
        let early = history-none g w choice logs tries s h.held.3.0.age h.held.3.0.number last.0
        (prefix-in h.held.1.entries s.held.history (View h.held.3.0.age h.held.3.0.number last.0) front last.1) in
        let same : h.age ≡ g.opening.age = omega (arith, t.0, early, h.held.3.2) in record {
          front = h.held.1.entries;
          goes = record {
            views = [];
            is = sym (append-nil h.held.1.entries);
            delivered = front;
            opened = λ k e at. absurd (none-some e at);
          };
          durable = λ j there. subst (IsPrefixOf (take (w.past.durable j) (w.past.history j))) h.held.4
              (whole_front g w choice logs tries set start s c h same
              (subst (λ es. IsPrefixOf es s.held.history) (sym h.held.4) front) j there);
        }
    by (inr (vs, x, e)) = by_try g w choice logs tries s h.held.0 h.held.1 (t.1 ++ vs) x here
        (t.2.is ∙ ap (λ l. t.1 ++ l) e ∙ sym (append_assoc t.1 vs (x ∷ [])))
        (t.2.opened (length vs) x (ap (λ l. slice_get l (length vs)) e ∙ slice_get-seam vs x []))

-- ---- the start

-- some log handed in has the entries of the start
pub start-holder : (g : Group) (w : World) (choice logs : List LogLists) (tries : List Attempt) (set : ℕ)
    (start : Start) → Since g w choice tries logs → IsChosenStart g.opening (of_set logs set) start
    → AreOfHolders g.opening (of_set logs set) start.entries
start-holder g w choice logs tries set start s c = by c.entries
  where
    by : AreOfHolders g.opening (of_set logs set) start.entries ⊎ AreOfNobody (of_set logs set) start.entries
        → AreOfHolders g.opening (of_set logs set) start.entries
    by (inl h) = h
    by (inr nobody) =
        let t = met g w choice logs tries set start s c in
        let e = ends_late g w choice logs tries set start s c t.0 t.2 t.1 t.3 in
        absurd (none-some e.1.0 (sym (nobody.nobody t.0 t.2 t.3) ∙ e.1.1))

pub chosen-keeps : (g : Group) (w : World) (choice logs : List LogLists) (tries : List Attempt) (set : ℕ)
    (start : Start) (s : Since g w choice tries logs) → IsChosenStart g.opening (of_set logs set) start
    → IsKeptBy g w s.held.history tries start
chosen-keeps g w choice logs tries set start s c = record {
  keeps = holder_keeps g w choice logs tries set start s c (start-holder g w choice logs tries set start s c);
  later = age-later g w choice logs tries set start s c;
  after = age-after g w choice logs tries set start s c;
}
