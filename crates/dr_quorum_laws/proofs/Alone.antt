-- Logs on which nothing stands but what tries have left: they hold after a further one.
use Rattle.std.proofs.Common.{◌≡◌, refl, ap, sym, ◌∙◌, ◌⊎◌, inl, inr, subst, ℕ, ◌+◌, ◌<◌, arith, true, List, [], ◌∷◌, ◌++◌, length, take, drop, Contains, Some, slice_get, append_assoc}
use Rattle.std.proofs.lemmas.Option.{none-some, same_Some}
use Rattle.dr_entry.{specs.declared.entry.Entry.{Entry, TheVariants.View}, proofs.ListFacts.{last-of, split-last}}
use Rattle.dr_entry.proofs.{ListParts.in-nothing, ListPlaces.{slice_get-push_cases, around, read-in}}
use Rattle.dr_history.specs.{History.{GroupView, IsPrefixOf, view_of}, Restarting.AllStand}
use Rattle.dr_history.specs.{Soundness.{MayStand, whole_roster}, declared.opening.Opening.Opening}
use Rattle.dr_history.proofs.{Following.view_of-nil, Standing.all-by, ViewLemmas.view_of-View}
use Rattle.dr_machine.specs.Group.{Group}
use Rattle.dr_restart.specs.Choosing.{AreOfHolders, AreOfNobody, EndsInAge, IsChosenStart, handed_of, of_set}
use Rattle.dr_restart.specs.{Groups.{first_group_of, group_of}, Left.IsLeftByOther, declared.start.Start.Start}
use Rattle.dr_restart.specs.{Trying.{HaveAgeVote, IsTry, age_vote_of, first_view_of}, declared.lists.Attempt.Attempt}
use Rattle.dr_restart.{specs.declared.lists.LogLists.LogLists, proofs.Handing.{handed-part, quorum-meets, set-log}}
use Rattle.dr_restart.proofs.Trying.{IsBroughtUp, entries-case, old-log, each-try, front_case}
use Rattle.dr_script.specs.declared.script.Script.{Script}
use Rattle.dr_words.specs.Masks.{IsMajorityOf, IsPartOf}
use Rattle.dr_quorum_laws.specs.{Holding.IsOpenedTry, Lasting.HoldTriesAlone}
use Rattle.dr_quorum_laws.proofs.{Grown.{last-opened, more-opened, opened-cases}, Missing.try-sound}

-- ---- opened tries

-- their ages rise
abbrev pub AgesRise : List Attempt → Type 0
AgesRise tries = (i j : ℕ) (one other : Attempt) → i < j → slice_get tries i ≡ Some one → one.opened ≡ true
    → slice_get tries j ≡ Some other → other.opened ≡ true → one.start.age < other.start.age

-- so two of one age are one
pub one-try : (tries : List Attempt) (one other : Attempt) → AgesRise tries → IsOpenedTry tries one
    → IsOpenedTry tries other → one.start.age ≡ other.start.age → one ≡ other
one-try tries one other rise (i, at, o) (j, here, p) same = by (apart i j)
  where
    apart : (i j : ℕ) → (i < j) ⊎ ((i ≡ j) ⊎ (j < i))
    apart i j = grind arith

    by : (i < j) ⊎ ((i ≡ j) ⊎ (j < i)) → one ≡ other
    by (inl l) = absurd (omega (arith, same, rise i j one other l at o here p))
    by (inr (inl e)) = same_Some one other (sym at ∙ ap (slice_get tries) e ∙ here)
    by (inr (inr l)) = absurd (omega (arith, same, rise j i other one l here p at o))

-- the entries are the start of an opened try and its View
abbrev pub EndInTry : List Attempt → List Entry → Type 0
EndInTry tries es = (try : Attempt) × IsOpenedTry tries try × (es ≡ try.start.entries ++ first_view_of try.start ∷ [])

-- then the last View is of its age
pub age-of-try : (tries : List Attempt) (log : LogLists) (age : ℕ) (t : EndInTry tries log.entries)
    → EndsInAge log age → age ≡ t.0.start.age
age-of-try tries log age t ends =
    let last = view_of-View t.0.start.entries t.0.start.age 0 t.0.start.members in
    sym ends.2 ∙ ap (λ (v : GroupView). v.age) (same_Some ends.0 _ (sym ends.1 ∙ ap view_of t.2 ∙ last))

-- so two that end in the same age are equal
pub same-ends : (tries : List Attempt) (f g : LogLists) (age : ℕ) → AgesRise tries → EndInTry tries f.entries
    → EndInTry tries g.entries → EndsInAge f age → EndsInAge g age → f.entries ≡ g.entries
same-ends tries f g age rise s t in_f in_g =
    let same = one-try tries s.0 t.0 rise s.1 t.1
    (sym (age-of-try tries f age s in_f) ∙ age-of-try tries g age t in_g) in
    s.2 ∙ ap (λ (a : Attempt). a.start.entries ++ first_view_of a.start ∷ []) same ∙ sym t.2

-- ---- no age has ended

-- what stands before the View of an opened try, and that try
abbrev IsViewBehind : List Attempt → List Entry → Entry → Type 0
IsViewBehind tries before e = (try : Attempt) × IsOpenedTry tries try × (e ≡ first_view_of try.start)
    × (before ≡ try.start.entries)

-- each entry of a log
view-at : (o : Opening) (tries : List Attempt) (logs : List LogLists) (m i : ℕ) (log : LogLists) (e : Entry)
    → HoldTriesAlone o tries logs → slice_get logs m ≡ Some log → slice_get log.entries i ≡ Some e
    → IsViewBehind tries (take i log.entries) e
view-at o tries logs m i log e held at here =
    held.views m log (take i log.entries) (drop (i + 1) log.entries) e at (around log.entries i e here)

pub alone-ends : (o : Opening) (tries : List Attempt) (logs : List LogLists) (m age : ℕ) (log : LogLists)
    → HoldTriesAlone o tries logs → slice_get logs m ≡ Some log → EndsInAge log age → EndInTry tries log.entries
alone-ends o tries logs m age log held at ends = by (last-of log.entries)
  where
    by : (log.entries ≡ []) ⊎ ((front : List Entry) × (x : Entry) × (log.entries ≡ front ++ x ∷ []))
        → EndInTry tries log.entries
    by (inl none) = absurd (none-some ends.0 (sym view_of-nil ∙ ap view_of (sym none) ∙ ends.1))
    by (inr (front, x, e)) =
        let t = held.views m log front [] x at e in (
          t.0,
          t.1,
          e ∙ ap (λ y. front ++ y ∷ []) t.2 ∙ ap (λ f. f ++ first_view_of t.0.start ∷ []) t.3,
        )

-- all entries may stand
pub alone-stand : (o : Opening) (tries : List Attempt) (logs : List LogLists) (m : ℕ) (log : LogLists)
    → HoldTriesAlone o tries logs → slice_get logs m ≡ Some log → AllStand o log.entries
alone-stand o tries logs m log held at i e here =
    let t = view-at o tries logs m i log e held at here in
    let sound = held.sound t.1.0 t.0 t.1.1 in
    subst (MayStand o (take i log.entries)) (sym t.2) (subst (λ es. MayStand o es (first_view_of t.0.start))
    (sym t.3) (sound.members, inl (record { later = sound.later; first = refl })))

-- a start that is chosen of the logs is of an age above those of all opened tries
pub alone-after : (o : Opening) (tries : List Attempt) (logs : List LogLists) (set : ℕ) (start : Start) (try : Attempt)
    → HoldTriesAlone o tries logs → IsChosenStart o (of_set logs set) start → IsOpenedTry tries try
    → try.start.age < start.age
alone-after o tries logs set start try held c opened =
    let t = quorum-meets (of_set logs set) (whole_roster o) try.set c.quorum
    (held.part opened.0 try opened.1) (held.majority opened.0 try opened.1) in
    let voted = held.voted try opened t.0 t.3 (t.2, (set-log logs set t.0 t.3 t.4).1) in
    c.age.above t.0 try.start.age t.3 t.4 (inr (inr (age_vote_of try.start, voted, refl)))

-- so it is above those of all Views
alone-below : (o : Opening) (tries : List Attempt) (logs : List LogLists) (set : ℕ) (start : Start) (m a n k : ℕ)
    (log : LogLists) → HoldTriesAlone o tries logs → IsChosenStart o (of_set logs set) start
    → slice_get logs m ≡ Some log → Contains log.entries (View a n k) → a < start.age
alone-below o tries logs set start m a n k log held c at on =
    let r = read-in log.entries (View a n k) on in
    let t = view-at o tries logs m r.0 log (View a n k) held at r.1 in
    let same : a ≡ t.0.start.age = cc (t.2) in omega (arith, alone-after o tries logs set start t.0 held c t.1, same)

-- and the logs are such as a member leaves that isn't there in that age
pub alone-others : (script : Script) (tries : List Attempt) (logs : List LogLists) (set : ℕ) (start : Start) (m : ℕ)
    (log : LogLists) → HoldTriesAlone (first_group_of script).opening tries logs
    → IsChosenStart (first_group_of script).opening (of_set logs set) start → slice_get logs m ≡ Some log
    → IsLeftByOther (group_of script start) log
alone-others script tries logs set start m log held c at = record {
  stands = all-by o (group_of script start).opening log.entries refl (alone-stand o tries logs m log held at);
  earlier = record {
    views = λ a n k on. alone-below o tries logs set start m a n k log held c at on;
    votes = λ x on. absurd (in-nothing x (subst (λ l. Contains l x) (held.voteless m log at) on));
  };
}
  where
    o : Opening
    o = (first_group_of script).opening

-- ---- a further try

pub alone-tried : (g : Group) (tries : List Attempt) (before after : List LogLists) (try : Attempt)
    → HoldTriesAlone g.opening tries before → IsTry g.opening before after try
    → HoldTriesAlone g.opening (tries ++ try ∷ []) after
alone-tried g tries before after try held t = record {
  voteless = λ m log here.
      let old = old-log g before after try t m log here in
      (t.votes m old.0 log old.1 here).0 ∙ held.voteless m old.0 old.1;
  views = λ m log front behind e here is.
      let old = old-log g before after try t m log here in
      views m old.0 log front behind e old.1 is (entries-case g before after try t m old.0 log old.1 here);
  voted = λ one opened. voted one opened (opened-cases tries try one opened);
  rising = λ i j one other l at o here p. rising i j one other l o p
      (slice_get-push_cases tries try one i at) (slice_get-push_cases tries try other j here);
  sound = try-sound g.opening before after tries try held.sound t;
  part = λ k one at. each-try (λ a. IsPartOf a.set (whole_roster g.opening)) tries try one k held.part
      (subst (λ mask. IsPartOf mask (whole_roster g.opening)) (sym set)
      (handed-part (of_set before try.set) (whole_roster g.opening))) (slice_get-push_cases tries try one k at);
  majority = λ k one at. each-try (λ a. IsMajorityOf a.set (whole_roster g.opening)) tries try one k held.majority
      (subst (λ mask. IsMajorityOf mask (whole_roster g.opening)) (sym set) t.choice.quorum)
      (slice_get-push_cases tries try one k at);
}
  where
    set : try.set ≡ handed_of (of_set before try.set) (whole_roster g.opening)
    set = t.set ∙ t.choice.present

    after_all : (one : Attempt) → IsOpenedTry tries one → one.start.age < try.start.age
    after_all one opened = alone-after g.opening tries before try.set try.start one held t.choice opened

    more : (front : List Entry) (e : Entry) → IsViewBehind tries front e → IsViewBehind (tries ++ try ∷ []) front e
    more front e x = (x.0, more-opened tries try x.0 x.1, x.2, x.3)

    -- an entry of the start stands on a log, or there is none
    within : (front rest : List Entry) (e : Entry) → try.start.entries ≡ front ++ e ∷ rest
        → IsViewBehind (tries ++ try ∷ []) front e
    within front rest e is = by t.choice.entries
      where
        by : AreOfHolders g.opening (of_set before try.set) try.start.entries
            ⊎ AreOfNobody (of_set before try.set) try.start.entries → IsViewBehind (tries ++ try ∷ []) front e
        by (inl h) = more front e (held.views h.held.0 h.held.1 front rest e
            (set-log before try.set h.held.0 h.held.1 h.held.2).1 (sym h.held.4 ∙ is))
        by (inr nobody) = absurd (none front (sym nobody.none ∙ is))
          where
            none : (front : List Entry) → [] ≡ front ++ e ∷ rest → ⊥
            none [] h = cc (h)
            none (x ∷ front) h = cc (h)

    views : (m : ℕ) (old log : LogLists) (front behind : List Entry) (e : Entry) → slice_get before m ≡ Some old
        → log.entries ≡ front ++ e ∷ behind → (log.entries ≡ old.entries) ⊎ IsBroughtUp try m old log
        → IsViewBehind (tries ++ try ∷ []) front e
    views m old log front behind e was is (inl same) =
        more front e (held.views m old front behind e was (sym same ∙ is))
    views m old log front behind e was is (inr up) = by (front_case try.start log.entries up.2)
      where
        last : ((front ≡ try.start.entries) × (e ≡ first_view_of try.start)) ⊎ ((rest : List Entry)
            × (try.start.entries ≡ front ++ e ∷ rest)) → IsViewBehind (tries ++ try ∷ []) front e
        last (inl r) = (try, last-opened tries try up.0, r.1, r.0)
        last (inr r) = within front r.0 e r.1

        by : IsPrefixOf log.entries try.start.entries ⊎ (log.entries ≡ try.start.entries
            ++ first_view_of try.start ∷ []) → IsViewBehind (tries ++ try ∷ []) front e
        by (inl q) = within front (behind ++ q.0) e
            (sym q.1 ∙ ap (λ l. l ++ q.0) is ∙ append_assoc front (e ∷ behind) q.0)
        by (inr q) = last (split-last front behind try.start.entries e (first_view_of try.start) (sym is ∙ q))

    voted : (one : Attempt) → IsOpenedTry (tries ++ try ∷ []) one
        → IsOpenedTry tries one ⊎ ((try ≡ one) × (one.opened ≡ true)) → HaveAgeVote after one.set one.start
    voted one opened (inl o) = λ m log here.
        let old = old-log g before after try t m log here.1 in
        (t.votes m old.0 log old.1 here.1).1 (age_vote_of one.start) (held.voted one o m old.0 (here.0, old.1))
    voted one opened (inr (same, o)) = subst (λ (a : Attempt). HaveAgeVote after a.set a.start) same
        (t.opened (ap (λ (a : Attempt). a.opened) same ∙ o))

    rising : (i j : ℕ) (one other : Attempt) → i < j → one.opened ≡ true → other.opened ≡ true → ((i < length tries)
        × (slice_get tries i ≡ Some one)) ⊎ ((i ≡ length tries) × (try ≡ one)) → ((j < length tries)
        × (slice_get tries j ≡ Some other)) ⊎ ((j ≡ length tries) × (try ≡ other)) → one.start.age < other.start.age
    rising i j one other l o p (inl (within, at)) (inl (less, here)) = held.rising i j one other l at o here p
    rising i j one other l o p (inl (within, at)) (inr (last, same)) =
        subst (λ (a : Attempt). one.start.age < a.start.age) same (after_all one (i, at, o))
    rising i j one other l o p (inr (last, same)) (inl (less, here)) = absurd (omega (arith, l, last, less))
    rising i j one other l o p (inr (last, same)) (inr (also, too)) = absurd (omega (arith, l, last, also))
