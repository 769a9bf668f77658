-- What lasts on logs lasts through tries and ages, and all logs of which something lasts are never refused but as no
-- age is left.
use Rattle.std.proofs.Common.{◌≡◌, refl, ap, sym, ◌∙◌, ◌⊎◌, inl, inr, subst, ℕ, ◌<◌, ◌≤◌, arith, true, List, [], ◌∷◌, ◌++◌, length, length-take, take, drop, Contains, Some, slice_get, append-nil, append_assoc, take-append-drop}
use Rattle.std.proofs.lemmas.Option.{none-some}
use Rattle.dr_entry.{specs.declared.entry.Entry.{Entry, TheVariants.View}, proofs.ListFacts.last-of}
use Rattle.dr_entry.proofs.ListPlaces.{slice_get-seam, slice_get-some}
use Rattle.dr_history.specs.{History.IsPrefixOf, Members.has, Order.first_entries, Restarting.{AllStand, AreAlong}}
use Rattle.dr_history.specs.{Soundness.whole_roster, declared.opening.Opening.Opening}
use Rattle.dr_history.proofs.{Keeping.{prefix_beside, both_along}, LastViews.{last-view, view-come, view-late}}
use Rattle.dr_history.proofs.{Lists.{prefix-in, prefix_more, prefix-trans}, Standing.all-by}
use Rattle.dr_machine.{specs.{Group.{Group, IsGroup, IsPresent}, Run.IsReached, World.World}, proofs.Ends.first-in}
use Rattle.dr_machine.proofs.{Groups.somebody-there, Presence.{in_roster, present-part}}
use Rattle.dr_restart.specs.Choosing.{AreOfHolders, EndsInAge, IsChosenStart, IsLastAge, of_set}
use Rattle.dr_restart.specs.{Groups.{first_group_of, group_of}, Left.{AreLeft, IsLeftByOther}}
use Rattle.dr_restart.specs.Refusing.{AreHoldersAlong, IsRefusedFor, Refusal, Refusal.AgesUsedUp}
use Rattle.dr_restart.specs.{Trying.{IsTry, first_view_of}, declared.lists.{Attempt.Attempt, LogLists.LogLists}}
use Rattle.dr_restart.{specs.declared.start.Start.Start, proofs.ByMessages.start-by-messages}
use Rattle.dr_restart.proofs.{Handing.{log-of_set, set-log}, Trying.try_by}
use Rattle.dr_script.specs.{Ranges.HasGroupRanges, declared.script.Script.Script}
use Rattle.dr_words.specs.Masks.{IsMajorityOf}
use Rattle.dr_world_laws.proofs.{Ended.{durable-delivered, first-begins, first-durable}, Worlds.known}
use Rattle.dr_quorum_laws.specs.Holding.{GoesOnFrom, IsKeptBy, IsOfAgeOrEarlier, IsOpenedTry}
use Rattle.dr_quorum_laws.{specs.Lasting.{AreDurableIn, AreLasting, HoldSinceAge}, proofs.AllThere.holders-pass}
use Rattle.dr_quorum_laws.proofs.Alone.{EndInTry, age-of-try, alone-ends, alone-others, alone-stand, alone-tried, same-ends}
use Rattle.dr_quorum_laws.proofs.{Chosen.{chosen-keeps, history-none, start-holder}, Grown.ages-below}
use Rattle.dr_quorum_laws.proofs.{Handing.{Since, first-there}, Keeping.{since-held, since-left}}
use Rattle.dr_quorum_laws.proofs.{Missing.{held-stand, left-votes, tried-votes, try-sound}, Tried.tried-held}

-- ---- logs that hold since an age

-- a log of an age that isn't below that one ends in the View of an opened try, or is a front of the history
pub held-ends : (g : Group) (w : World) (choice logs : List LogLists) (tries : List Attempt)
    (s : Since g w choice tries logs) (m age : ℕ) (log : LogLists) → slice_get logs m ≡ Some log → EndsInAge log age
    → g.opening.age ≤ age
    → EndInTry tries log.entries ⊎ (IsPrefixOf log.entries s.held.history × (age ≡ g.opening.age))
held-ends g w choice logs tries s m age log at ends late = by (s.held.grown m log at)
  where
    last : (members : ℕ) × Contains log.entries (View ends.0.age ends.0.number members)
    last = last-view log.entries ends.0 ends.1

    goes : (front : List Entry) → (x : GoesOnFrom s.held.history tries front log.entries)
        → (x.views ≡ []) ⊎ ((vs : List Entry) × (e : Entry) × (x.views ≡ vs ++ e ∷ []))
        → EndInTry tries log.entries ⊎ (IsPrefixOf log.entries s.held.history × (age ≡ g.opening.age))
    goes front x (inl none) =
        let whole : log.entries ≡ front = x.is ∙ ap (λ vs. front ++ vs) none ∙ append-nil front in
        let p : IsPrefixOf log.entries s.held.history =
        subst (λ es. IsPrefixOf es s.held.history) (sym whole) x.delivered in
        let early = history-none g w choice logs tries s ends.0.age ends.0.number last.0
        (prefix-in log.entries s.held.history (View ends.0.age ends.0.number last.0) p last.1) in
        inr (p, omega (arith, early, late, ends.2))
    goes front x (inr (vs, e, is)) =
        let t = x.opened (length vs) e (ap (λ l. slice_get l (length vs)) is ∙ slice_get-seam vs e []) in
        let whole : log.entries ≡ (front ++ vs) ++ first_view_of t.0.start ∷ [] = x.is ∙ ap (λ l. front ++ l)
        (is ∙ ap (λ y. vs ++ y ∷ []) t.2) ∙ sym (append_assoc front vs (first_view_of t.0.start ∷ [])) in
        inl (
          t.0,
          t.1,
          whole ∙ ap (λ l. l ++ first_view_of t.0.start ∷ []) (s.held.started t.0 m log (front ++ vs) [] t.1 at whole),
        )

    by : IsOfAgeOrEarlier g s.held.history tries log
        → EndInTry tries log.entries ⊎ (IsPrefixOf log.entries s.held.history × (age ≡ g.opening.age))
    by (inl t) = goes t.1 t.2 (last-of t.2.views)
    by (inr t) = absurd (omega (arith, t.1.views ends.0.age ends.0.number last.0 last.1, late, ends.2))

-- of two that end in one age one is a front of the other
held-along : (g : Group) (w : World) (choice logs : List LogLists) (tries : List Attempt)
    (s : Since g w choice tries logs) (age : ℕ) (f h : LogLists) → EndsInAge f age → EndsInAge h age
    → EndInTry tries f.entries ⊎ (IsPrefixOf f.entries s.held.history × (age ≡ g.opening.age))
    → EndInTry tries h.entries ⊎ (IsPrefixOf h.entries s.held.history × (age ≡ g.opening.age))
    → AreAlong f.entries h.entries
held-along g w choice logs tries s age f h in_f in_h (inl x) (inl y) =
    inl ([], append-nil f.entries ∙ same-ends tries f h age s.held.rising x y in_f in_h)
held-along g w choice logs tries s age f h in_f in_h (inl x) (inr y) =
    absurd (omega (arith, y.1, age-of-try tries f age x in_f, s.held.above x.0 x.1))
held-along g w choice logs tries s age f h in_f in_h (inr x) (inl y) =
    absurd (omega (arith, x.1, age-of-try tries h age y in_h, s.held.above y.0 y.1))
held-along g w choice logs tries s age f h in_f in_h (inr x) (inr y) = both_along f.entries h.entries s.held.history x.0 y.0

-- the log of a member that was there ends in no earlier age
member-ends : (g : Group) (w : World) (choice logs : List LogLists) (tries : List Attempt)
    → (s : Since g w choice tries logs) → (m : ℕ) (log : LogLists) → IsPresent g m → slice_get logs m ≡ Some log
    → AllStand g.opening log.entries → (a : ℕ) × EndsInAge log a × (g.opening.age ≤ a)
member-ends g w choice logs tries s m log there at stand =
    let first = first-in g log.entries (first-there g w choice logs tries s m log there at) in
    let t = view-come g.opening log.entries g.opening.age 0 g.opening.members stand first in (
      t.0.age,
      (t.0, t.1, refl),
      view-late g.opening log.entries g.opening.age 0 g.opening.members t.0 stand first t.1,
    )

-- What stands on the log of a member that was there, and is handed in, the chosen start begins with, where the starts
-- of all opened tries do.
pub on-start : (g : Group) (w : World) (choice logs : List LogLists) (tries : List Attempt) (set m : ℕ) (start : Start)
    (log : LogLists) (es : List Entry) → Since g w choice tries logs → IsChosenStart g.opening (of_set logs set) start
    → IsPresent g m → of_set logs set m ≡ Some log → IsPrefixOf es log.entries
    → ((try : Attempt) → IsOpenedTry tries try → IsPrefixOf es try.start.entries) → IsPrefixOf es start.entries
on-start g w choice logs tries set m start log es s c there handed on starts =
    subst (IsPrefixOf es) (sym h.held.4) (by (held-ends g w choice logs tries s h.held.0 h.age h.held.1
    (set-log logs set h.held.0 h.held.1 h.held.2).1 h.held.3 late))
  where
    h : AreOfHolders g.opening (of_set logs set) start.entries
    h = start-holder g w choice logs tries set start s c

    at : slice_get logs m ≡ Some log
    at = (set-log logs set m log handed).1

    mine : (a : ℕ) × EndsInAge log a × (g.opening.age ≤ a)
    mine = member-ends g w choice logs tries s m log there at (c.sound m log handed)

    late : g.opening.age ≤ h.age
    late = omega (arith, mine.2, h.last.greatest m mine.0 log handed mine.1)

    -- where the holder is a front of the history, so is the log, which is no longer
    both : IsPrefixOf h.held.1.entries s.held.history → h.age ≡ g.opening.age → EndInTry tries log.entries
        ⊎ (IsPrefixOf log.entries s.held.history × (mine.0 ≡ g.opening.age)) → IsPrefixOf es h.held.1.entries
    both p same (inl t) = absurd (omega (
      arith,
      same,
      h.last.greatest m mine.0 log handed mine.1,
      age-of-try tries log mine.0 t mine.1,
      s.held.above t.0 t.1,
    ))
    both p same (inr q) =
        let holder : EndsInAge log h.age = subst (EndsInAge log) (q.1 ∙ sym same) mine.1 in
        prefix-trans es log.entries h.held.1.entries on
        (prefix_beside log.entries h.held.1.entries s.held.history q.0 p
        (omega (arith, h.longest log.entries (m, log, handed, holder, refl), ap length h.held.4)))

    by : EndInTry tries h.held.1.entries
        ⊎ (IsPrefixOf h.held.1.entries s.held.history × (h.age ≡ g.opening.age)) → IsPrefixOf es h.held.1.entries
    by (inl t) = subst (IsPrefixOf es) (sym t.2)
        (prefix_more es t.0.start.entries (first_view_of t.0.start ∷ []) (starts t.0 t.1))
    by (inr p) = both p.0 p.1 (held-ends g w choice logs tries s m mine.0 log at mine.1 mine.2)

-- ---- of a script

-- what is known of logs that hold since an age
pub since-of : (script : Script) (start : Start) (w : World) (logs : List LogLists)
    → (h : HoldSinceAge script start w logs) → Since (group_of script start) w h.choice h.tries logs
since-of script start w logs h =
    let g = group_of script start in
    since-held g w h.choice logs h.tries h.group (known g w h.group h.reached) h.majority h.left h.held

pub since-tried : (script : Script) (start : Start) (w : World) (before after : List LogLists) (try : Attempt)
    → HoldSinceAge script start w before → IsTry (first_group_of script).opening before after try
    → HoldSinceAge script start w after
since-tried script start w before after try h t = record {
  group = h.group;
  reached = h.reached;
  majority = h.majority;
  choice = h.choice;
  left = h.left;
  tries = h.tries ++ try ∷ [];
  sound = try-sound g.opening before after h.tries try h.sound here;
  voteless = tried-votes g.opening before after try start.age here h.voteless;
  held = tried-held g w h.choice before after h.tries try (since-of script start w before h) here;
}
  where
    g : Group
    g = group_of script start

    here : IsTry (group_of script start).opening before after try
    here = try_by (first_group_of script).opening (group_of script start).opening before after try refl t

-- the logs that an age has left hold since it
pub since-age : (script : Script) (start : Start) (w : World) (logs : List LogLists) → IsGroup (group_of script start)
    → IsReached (group_of script start) w → IsMajorityOf start.present (whole_roster (group_of script start).opening)
    → AreLeft (group_of script start) w logs → HoldSinceAge script start w logs
since-age script start w logs is run most left = record {
  group = is;
  reached = run;
  majority = most;
  choice = logs;
  left = left;
  tries = [];
  sound = λ k try at. absurd (none-some try at);
  voteless = left-votes (group_of script start) w logs left;
  held = (since-left (group_of script start) w logs is (known (group_of script start) w is run) most left).held;
}

-- a start is durable in its age
pub start-durable : (g : Group) (w : World) (es : List Entry) → IsGroup g → IsReached g w
    → IsMajorityOf g.opening.present (whole_roster g.opening) → IsPrefixOf es g.opening.start → AreDurableIn g w es
start-durable g w es is run most p =
    let y = known g w is run in
    let i = somebody-there g (present-part g is) most in (
      i.0,
      i.1,
      prefix-trans es (first_entries g.opening) (take (w.past.durable i.0) (w.past.history i.0))
          (prefix_more es g.opening.start (View g.opening.age 0 g.opening.members ∷ []) p)
          (prefix_beside (first_entries g.opening) (take (w.past.durable i.0) (w.past.history i.0)) (w.past.history i.0)
          (first-begins g w i.0 is y i.1)
          (drop (w.past.durable i.0) (w.past.history i.0), take-append-drop (w.past.durable i.0) (w.past.history i.0))
          (omega (
            arith,
            length-take (w.past.durable i.0) (w.past.history i.0),
            first-durable g w i.0 is y,
            durable-delivered g w i.0 is y i.1,
          ))),
    )

-- ---- what lasts

-- nothing lasts on empty logs
pub none-last : (script : Script) (logs : List LogLists) → length logs ≡ script.members
    → ((m : ℕ) (log : LogLists) → slice_get logs m ≡ Some log → (log.entries ≡ []) × (log.votes ≡ []))
    → AreLasting script [] logs
none-last script logs all empty = inr (
  [],
  record {
    voteless = λ m log at. (empty m log at).1;
    views = λ m log before behind e at is. absurd (none before behind e (sym (empty m log at).0 ∙ is));
    voted = λ try opened. absurd (none-some try opened.1);
    rising = λ i j one other l at o here p. absurd (none-some one at);
    sound = λ k try at. absurd (none-some try at);
    part = λ k try at. absurd (none-some try at);
    majority = λ k try at. absurd (none-some try at);
  },
  all,
  refl,
)
  where
    none : (before behind : List Entry) (e : Entry) → [] ≡ before ++ e ∷ behind → ⊥
    none [] behind e h = cc (h)
    none (x ∷ before) behind e h = cc (h)

pub last-tried : (script : Script) (es : List Entry) (before after : List LogLists) (try : Attempt)
    → AreLasting script es before → IsTry (first_group_of script).opening before after try
    → AreLasting script es after
last-tried script es before after try (inl (start, w, h, durable)) t =
    inl (start, w, since-tried script start w before after try h t, durable)
last-tried script es before after try (inr (tries, h, all, none)) t =
    inr (tries ++ try ∷ [], alone-tried (first_group_of script) tries before after try h t, t.places ∙ all, none)

-- the start that is chosen of some of the logs begins with it
pub last-kept : (script : Script) (es : List Entry) (logs : List LogLists) (set : ℕ) (start : Start)
    → AreLasting script es logs → IsChosenStart (first_group_of script).opening (of_set logs set) start
    → IsPrefixOf es start.entries
last-kept script es logs set start (inl (earlier, w, h, (m, there, durable))) c =
    prefix-trans es (take (w.past.durable m) (w.past.history m)) start.entries durable
    (prefix-trans (take (w.past.durable m) (w.past.history m)) kept.keeps.front start.entries
    (kept.keeps.durable m there) (kept.keeps.goes.views, sym kept.keeps.goes.is))
  where
    s : Since (group_of script earlier) w h.choice h.tries logs
    s = since-of script earlier w logs h

    kept : IsKeptBy (group_of script earlier) w s.held.history h.tries start
    kept = chosen-keeps (group_of script earlier) w h.choice logs h.tries set start s
        (start-by-messages (first_group_of script).opening (group_of script earlier).opening (of_set logs set) start
        refl c)
last-kept script es logs set start (inr (tries, h, all, none)) c = (start.entries, ap (λ l. l ++ start.entries) none)

-- and the logs are such as a member leaves that isn't there in its age
pub last-others : (script : Script) (es : List Entry) (logs : List LogLists) (set : ℕ) (start : Start) (m : ℕ)
    (log : LogLists) → AreLasting script es logs
    → IsChosenStart (first_group_of script).opening (of_set logs set) start → slice_get logs m ≡ Some log
    → IsLeftByOther (group_of script start) log
last-others script es logs set start m log (inl (earlier, w, h, durable)) c at = record {
  stands = all-by g.opening (group_of script start).opening log.entries refl
      (held-stand g w h.choice logs h.tries m log h.group s.known s.held h.sound at);
  earlier = record {
    views = λ a n k on. ages-below g w h.choice logs h.tries s start kept m log a n k at on;
    votes = λ x on. omega (arith, h.voteless m log x at on, kept.later);
  };
}
  where
    g : Group
    g = group_of script earlier

    s : Since (group_of script earlier) w h.choice h.tries logs
    s = since-of script earlier w logs h

    kept : IsKeptBy (group_of script earlier) w s.held.history h.tries start
    kept = chosen-keeps g w h.choice logs h.tries set start s (start-by-messages (first_group_of script).opening
        (group_of script earlier).opening (of_set logs set) start refl c)
last-others script es logs set start m log (inr (tries, h, all, none)) c at = alone-others script tries logs set start m log h c at

-- all of them are refused only as no age is left
pub last-pass : (script : Script) (es : List Entry) (logs : List LogLists) (set : ℕ) (why : Refusal)
    → HasGroupRanges script → AreLasting script es logs → ((m : ℕ) → m < length logs → has set m ≡ true)
    → IsRefusedFor (first_group_of script).opening (of_set logs set) why → why ≡ AgesUsedUp
last-pass script es logs set why ranges lasting whole refused = by lasting
  where
    o : Opening
    o = (first_group_of script).opening

    pass : length logs ≡ length script.messages
        → ((m : ℕ) (log : LogLists) → slice_get logs m ≡ Some log → AllStand (first_group_of script).opening log.entries)
        → ((age : ℕ) → IsLastAge (of_set logs set) age → AreHoldersAlong (of_set logs set) age) → why ≡ AgesUsedUp
    pass all stand along = holders-pass o logs set why (omega (arith, ranges.lists, ranges.some_member))
        (omega (arith, ranges.lists, ranges.most_members)) all whole stand along refused

    by : AreLasting script es logs → why ≡ AgesUsedUp
    by (inl (start, w, h, durable)) = pass s.held.all
        (λ m log at. all-by g.opening o log.entries refl (stand m log at)) along
      where
        g : Group
        g = group_of script start

        s : Since (group_of script start) w h.choice h.tries logs
        s = since-of script start w logs h

        stand : (m : ℕ) (log : LogLists) → slice_get logs m ≡ Some log
            → AllStand (group_of script start).opening log.entries
        stand m log at = held-stand g w h.choice logs h.tries m log h.group s.known s.held h.sound at

        -- the last age isn't below that one
        late : (age : ℕ) → IsLastAge (of_set logs set) age → (group_of script start).opening.age ≤ age
        late age last =
            let i = somebody-there g s.part s.majority in
            let l : i.0 < length logs = omega (arith, in_roster g i.0 h.group i.1, s.held.all) in
            let t = slice_get-some logs i.0 l in
            let e = member-ends g w h.choice logs h.tries s i.0 t.0 i.1 t.1 (stand i.0 t.0 t.1) in
            omega (arith, e.2, last.greatest i.0 e.0 t.0 (log-of_set logs set i.0 t.0 (whole i.0 l) t.1) e.1)

        along : (age : ℕ) → IsLastAge (of_set logs set) age → AreHoldersAlong (of_set logs set) age
        along age last f f' (i, x, at, ends, is) (j, y, here, also, same) = subst (λ es. AreAlong es f')
            (sym is) (subst (AreAlong x.entries) (sym same) (held-along g w h.choice logs h.tries s age x y ends also
            (held-ends g w h.choice logs h.tries s i age x (set-log logs set i x at).1 ends (late age last))
            (held-ends g w h.choice logs h.tries s j age y (set-log logs set j y here).1 also (late age last))))
    by (inr (tries, h, all, none)) = pass (all ∙ sym ranges.lists) (λ m log at. alone-stand o tries logs m log h at) along
      where
        along : (age : ℕ) → IsLastAge (of_set logs set) age → AreHoldersAlong (of_set logs set) age
        along age last f f' (i, x, at, ends, is) (j, y, here, also, same) = inl (
          [],
          append-nil f ∙ is ∙ same-ends tries x y age h.rising
              (alone-ends o tries logs i age x h (set-log logs set i x at).1 ends)
              (alone-ends o tries logs j age y h (set-log logs set j y here).1 also) ends also ∙ sym same,
        )
