-- The histories of a world that is reached agree, and a member that is done holds everything.
use Rattle.std.proofs.Common.{◌≡◌, ◌≢◌, refl, ap, sym, ◌∙◌, ◌⊎◌, inl, inr, subst, ℕ, ◌<◌, ◌≤◌, arith, Bool, true, false, [], ◌∷◌, append-nil, take_at, ◌++◌, length, take, All, Contains, Some, List, slice_get, get_or, length-append}
use Rattle.std.proofs.lemmas.{Bool.{cases_eq, cases_lt}, List.{nil_from_length, take_all}, Option.slice_get-get_or}
use Rattle.dr_entry.specs.declared.{end.End.TheVariants.Done, entry.Entry.{Entry, TheVariants.View}}
use Rattle.dr_history.specs.{Agreement.{Accounts, SamePast, KnowsDurable, Agreed}, Members.{has, members_of}}
use Rattle.dr_history.specs.History.{IsPrefixOf, GroupView, Sent, merge, messages_of, up_to_view, view_of}
use Rattle.dr_history.{specs.Order.{InOrder, IsLateIn, first_entries, messages_from}, proofs.Standing.SamePast-either}
use Rattle.dr_history.proofs.MemberLemmas.{has-member, member-has}
use Rattle.dr_history.proofs.{NumberedLemmas.{length-numbered_messages, messages_from-append}, Quiet.no-more}
use Rattle.dr_history_laws.specs.{Courses.{IsUncut, MayReach, course, view_in}, Laid.{counts_sent, laid}}
use Rattle.dr_history_laws.proofs.Courses.{InOrder-course, either-course, head-ends, view-course}
use Rattle.dr_history_laws.proofs.{Heads.course_up_to, Merging.laid-whole, Ordered.view-distinct}
use Rattle.dr_words.specs.declared.column.TheConstants.{DONE_COLUMN}
use Rattle.dr_machine.specs.{Group.{Group, IsGroup, IsPresent, roster}, Run.{accounts_in, WorldAgreed}, World.World}
use Rattle.dr_machine.{specs.Guards.HoldsAll, proofs.{Groups.AreAccounts, Presence.in_roster}}
use Rattle.dr_faithful.specs.{Chosen.{Values, endings_by, views_by}, Faithful.StandsOnLogs}
use Rattle.dr_faithful.proofs.{ChosenViews.{place-kept, views-there}, Completion.done_shown}
use Rattle.dr_world_laws.{specs.Historic.{IsMerged, head_by, view_numbered}, proofs.Finishing.goes-any}
use Rattle.dr_world_laws.proofs.{Holding.view-there, Items.held-next, Reached.Known}

-- ---- agreement

-- a member has come where it may, to a view and to a place of it
pub may-reach : (g : Group) (values : Values) (w : World) (m : ℕ) → IsGroup g → Known g values w → m < roster g
    → MayReach g.opening w.past.sent (endings_by g.opening values) (w.past.view m) (w.next m)
may-reach g values w m is y l = record {
  view = record {
    ended = λ u less. (y.laid.left m u l less).ended;
    goes = λ u less. goes-any g values w u is y.faithful y.laid.historic;
  };
  held = held-next g (views_by g values) w m y.faithful;
}

-- and where another member has come to a later view, it has passed no place that is cut off
pub is-kept : (g : Group) (values : Values) (w : World) (m k : ℕ) → IsGroup g → Known g values w → m < roster g
    → k < roster g → IsUncut g.opening (endings_by g.opening values) (w.past.view m) (w.next m) (w.past.view k)
is-kept g values w m k is y l r less = place-kept g values w m is y.faithful (λ s there.
    let t = (y.laid.left k (w.past.view m) r less).least s there in (t.0, t.1, t.3))

pub in-order : (g : Group) (values : Values) (w : World) (m : ℕ) → IsGroup g → Known g values w
    → m < roster g → InOrder g.opening w.past.sent (w.past.history m)
in-order g values w m is y l = subst (InOrder g.opening w.past.sent) (sym (y.laid.historic.history m l))
    (InOrder-course g.opening w.past.sent (endings_by g.opening values) (w.past.view m) (w.next m) is.sound
    (may-reach g values w m is y l))

pub either-prefix : (g : Group) (values : Values) (w : World) (m k : ℕ) → IsGroup g → Known g values w
    → m < roster g → k < roster g
    → IsPrefixOf (w.past.history m) (w.past.history k) ⊎ IsPrefixOf (w.past.history k) (w.past.history m)
either-prefix g values w m k is y l r = rw (y.laid.historic.history m l, y.laid.historic.history k r)
    (either-course g.opening w.past.sent (endings_by g.opening values) (w.past.view m) (w.next m)
    (w.past.view k) (w.next k) (is-kept g values w m k is y l r) (is-kept g values w k m is y r l))

same-past : (g : Group) (values : Values) (w : World) (m k : ℕ) → IsGroup g → Known g values w
    → m < roster g → k < roster g → SamePast (w.past.history m) (w.past.history k)
same-past g values w m k is y l r =
    SamePast-either g.opening w.past.sent (w.past.history m) (w.past.history k) is.sound
    (in-order g values w m is y l) (in-order g values w k is y r) (either-prefix g values w m k is y l r)

-- the view that a member is in
pub the-view : (g : Group) (values : Values) (w : World) (m : ℕ) → IsGroup g → Known g values w → m < roster g
    → view_of (w.past.history m) ≡ Some (view_numbered g (views_by g values) (w.past.view m))
the-view g values w m is y l = ap view_of (y.laid.historic.history m l) ∙ view-course g.opening w.past.sent
    (endings_by g.opening values) (w.past.view m) (w.next m) is.sound (may-reach g values w m is y l).view

-- what a member knows to be durable stands on logs: on those of all members of some view that it has come to,
-- and, where nobody is late, of its view
knows-durable : (g : Group) (values : Values) (w : World) (accounts : Accounts) (m : ℕ) → IsGroup g
    → Known g values w → AreAccounts g w accounts → IsPresent g m → KnowsDurable g.opening accounts m
knows-durable g values w accounts m is y told there = by (cases_eq g.opening.members g.opening.present)
  where
    l : m < roster g
    l = in_roster g m is there

    safe : StandsOnLogs g (views_by g values) w.past.log (w.past.history m) m (w.past.view m) (w.past.durable m)
    safe = y.faithful.logs.safe m there

    own : (accounts m).durable ≤ length (accounts m).log
    own = rw (told.durable m there, told.log m there) safe.own

    held : (u : ℕ) → u ≤ w.past.view m → Contains (accounts m).history (View g.opening.age u (views_by g values u))
    held u come = subst (λ es. Contains es (View g.opening.age u (views_by g values u))) (sym (told.history m there))
        (view-there g values w m u y.laid.historic l come)

    each : (u : ℕ) → ((j : ℕ) → has (views_by g values u) j ≡ true → w.past.durable m ≤ length (w.past.log j))
        → All (λ j. (accounts m).durable ≤ length (accounts j).log) (members_of (views_by g values u))
    each u on_log k d within =
        let j : ℕ = get_or (members_of (views_by g values u)) k d in
        let member = member-has (views_by g values u) k j
        (slice_get-get_or (members_of (views_by g values u)) k d within) in
        rw (told.durable m there, told.log j (views-there g values u j is member)) (on_log j member)

    -- where nobody is late, all members of its view are those with which the age opened
    early : g.opening.members ≡ g.opening.present → (j : ℕ) → has (views_by g values (w.past.view m)) j ≡ true
        → has g.opening.members j ≡ true
    early nobody j member = ap (λ k. has k j) nobody ∙ views-there g values (w.past.view m) j is member

    by : (g.opening.members ≡ g.opening.present) ⊎ (g.opening.members ≢ g.opening.present)
        → KnowsDurable g.opening accounts m
    by (inl nobody) = record {
      own = own;
      number = w.past.view m;
      members = views_by g values (w.past.view m);
      view = held (w.past.view m) (omega arith);
      logged = each (w.past.view m) (λ j member. safe.stayed j member (early nobody j member));
      last = λ _. (
        ap view_of (told.history m there) ∙ the-view g values w m is y l,
        has-member (views_by g values (w.past.view m)) m
            (y.faithful.views.present m (ap (λ k. has k m) nobody ∙ there)) (omega (arith, l, is.most_members)),
      );
    }
    by (inr some) = record {
      own = own;
      number = safe.since;
      members = views_by g values safe.since;
      view = held safe.since safe.come;
      logged = each safe.since safe.logged;
      last = λ nobody. absurd (some nobody);
    }

-- so the members agree by all accounts that tell what they have done
pub agreed-by : (g : Group) (values : Values) (w : World) (accounts : Accounts) → IsGroup g → Known g values w
    → AreAccounts g w accounts → Agreed g.opening accounts
agreed-by g values w accounts is y told = record {
  prefix = λ i j l r. rw (told.history i l, told.history j r)
      (either-prefix g values w i j is y (within i l) (within j r));
  ordered = λ i l. subst (λ (s : Sent). InOrder g.opening s (accounts i).history) (sym told.sent)
      (subst (InOrder g.opening w.past.sent) (sym (told.history i l)) (in-order g values w i is y (within i l)));
  same_past = λ i j l r. subst (λ (h : List Entry). SamePast h (accounts j).history) (sym (told.history i l))
      (subst (SamePast (w.past.history i)) (sym (told.history j r))
      (same-past g values w i j is y (within i l) (within j r)));
  logged = λ i l. rw (told.log i l, told.history i l) (y.faithful.logs.front i);
  durable = λ i l. knows-durable g values w accounts i is y told l;
}
  where
    within : (i : ℕ) → IsPresent g i → i < roster g
    within i there = in_roster g i is there

-- and so they do in the world itself
pub agreed : (g : Group) (values : Values) (w : World) → IsGroup g → Known g values w → WorldAgreed g w
agreed g values w is y = agreed-by g values w (accounts_in w) is y
    (record { sent = refl; history = λ m l. refl; log = λ m l. refl; durable = λ m l. refl })

-- ---- members that are done

-- a member that ended as done knows its whole history to be durable
pub done-durable : (g : Group) (values : Values) (w : World) (m : ℕ) → Known g values w → m < roster g
    → w.end m ≡ Some Done → w.past.durable m ≡ length (w.past.history m)
done-durable g values w m y l e = y.complete.durable m l
    (done_shown g (views_by g values) w m y.faithful y.complete l e)

-- and stands on the logs of all members of its view: it has that view's View, so it was reported there
pub done-on-logs : (g : Group) (values : Values) (w : World) (m i : ℕ) → IsGroup g → Known g values w
    → IsPresent g m → w.end m ≡ Some Done → has (views_by g values (w.past.view m)) i ≡ true
    → w.past.durable m ≤ length (w.past.log i)
done-on-logs g values w m i is y there e member =
    safe.logged i (subst (λ v. has (views_by g values v) i ≡ true) (sym here) member)
  where
    v : ℕ
    v = w.past.view m

    l : m < roster g
    l = in_roster g m is there

    safe : StandsOnLogs g (views_by g values) w.past.log (w.past.history m) m v (w.past.durable m)
    safe = y.faithful.logs.safe m there

    within : length (up_to_view (w.past.history m)) ≤ length (w.past.history m)
    within = omega (
      arith,
      ap (λ es. length (up_to_view es)) (y.laid.historic.history m l),
      ap length (course_up_to g.opening w.past.sent (endings_by g.opening values) v (w.next m)),
      ap length (y.laid.historic.history m l),
      length-append (head_by g values w v)
          (laid g.opening w.past.sent (view_in g.opening (endings_by g.opening values) v) (w.next m)),
    )

    here : safe.since ≡ v
    here = by (cases_lt safe.since v)
      where
        by : (safe.since < v) ⊎ (v ≤ safe.since) → safe.since ≡ v
        by (inl less) = absurd (omega (arith, safe.before less, within, done-durable g values w m y l e))
        by (inr same) = omega (arith, same, safe.come)

-- a member that ended as done holds all messages of the members of its view
pub done-whole : (g : Group) (values : Values) (w : World) (m : ℕ) → IsGroup g → Known g values w
    → m < roster g → w.end m ≡ Some Done → HoldsAll g w m
done-whole g values w m is y l e s member =
    let numbered = (in-order g values w m is y l).numbered s in
    let all : take (w.past.durable m) (w.past.history m) ≡ w.past.history m = take_all (w.past.durable m)
    (w.past.history m) (omega (arith, done-durable g values w m y l e)) in
    let of_view : has (views_by g values (w.past.view m)) s
    ≡ true = subst (λ mask. has mask s ≡ true) (y.faithful.views.own m) member in
    omega (
      arith,
      ((y.faithful.words.own m (w.past.view m) DONE_COLUMN).done refl).1
          (done_shown g (views_by g values) w m y.faithful y.complete l e) s of_view,
      ap (λ es. length (messages_from s es)) all,
      ap length numbered.1,
      length-append (messages_from s (w.past.history m)) numbered.0,
      length-numbered_messages g.opening s,
    )

-- so its history is the head of its view, and all that was sent in it, in the order of the places
pub done-merged : (g : Group) (values : Values) (w : World) (m : ℕ) → IsGroup g → Known g values w
    → m < roster g → w.end m ≡ Some Done → let v = view_in g.opening (endings_by g.opening values) (w.past.view m) in
    w.past.history m ≡ head_by g values w (w.past.view m) ++ merge g.opening w.past.sent v (counts_sent w.past.sent v)
done-merged g values w m is y l e = y.laid.historic.history m l ∙ ap (λ es. head_by g values w (w.past.view m) ++ es)
    (laid-whole g.opening w.past.sent (head_by g values w (w.past.view m)) v
    (w.next m) (goes-any g values w (w.past.view m) is y.faithful y.laid.historic)
    (view-distinct (head_by g values w (w.past.view m)) v
    (head-ends g.opening w.past.sent (endings_by g.opening values) (w.past.view m))) all)
  where
    v : GroupView
    v = view_in g.opening (endings_by g.opening values) (w.past.view m)

    mask : ℕ
    mask = views_by g values (w.past.view m)

    all : (s : ℕ) → Contains (members_of (views_by g values (w.past.view m))) s → length (messages_from s
        (course g.opening w.past.sent (endings_by g.opening values) (w.past.view m) (w.next m)))
        ≡ length (messages_of g.opening s)
    all s member =
        let here : slice_get (members_of mask) member.0
        ≡ Some s = slice_get-get_or (members_of mask) member.0 s member.1 ∙ ap Some member.2 in
        ap (λ es. length (messages_from s es)) (sym (y.laid.historic.history m l)) ∙
        done-whole g values w m is y l e s (subst (λ x. has x s ≡ true) (sym (y.faithful.views.own m))
        (member-has mask member.0 s here))

pub is-merged : (g : Group) (values : Values) (w : World) (m : ℕ) → IsGroup g → Known g values w
    → m < roster g → w.end m ≡ Some Done → IsMerged g values w m
is-merged g values w m is y l e = record { laid = y.laid; history = done-merged g values w m is y l e }

-- members that are done in the same view have the same history
pub done-same : (g : Group) (values : Values) (w : World) (m k : ℕ) → IsGroup g → Known g values w
    → m < roster g → w.end m ≡ Some Done → k < roster g → w.end k ≡ Some Done
    → w.past.view m ≡ w.past.view k → w.past.history m ≡ w.past.history k
done-same g values w m k is y l e r d same = done-merged g values w m is y l e
    ∙ ap (λ n. let v = view_in g.opening (endings_by g.opening values) n in head_by g values w n
    ++ merge g.opening w.past.sent v (counts_sent w.past.sent v)) same ∙ sym (done-merged g values w k is y r d)

-- nobody has a message that a member that is done lacks, but of late members that aren't in its view: as for
-- the members of its view, it has all, and who was no member of it any more has put none behind its history
pub done-lacks-none : (g : Group) (values : Values) (w : World) (m k s : ℕ) → IsGroup g → Known g values w
    → (¬ IsLateIn g.opening s) ⊎ (has (w.members m) s ≡ true) → m < roster g → w.end m ≡ Some Done
    → k < roster g → IsPrefixOf (messages_from s (w.past.history k)) (messages_from s (w.past.history m))
done-lacks-none g values w m k s is y either l e r = by (either-prefix g values w m k is y l r)
  where
    mine : List Entry
    mine = w.past.history m

    theirs : List Entry
    theirs = w.past.history k

    more : (xs ys : List Entry) → IsPrefixOf xs ys → IsPrefixOf (messages_from s xs) (messages_from s ys)
    more xs ys p = (messages_from s p.0, sym (messages_from-append s xs p.0) ∙ ap (messages_from s) p.1)

    ended : messages_from s (w.past.history k) ≡ messages_from s (w.past.history m)
        → IsPrefixOf (messages_from s (w.past.history k)) (messages_from s (w.past.history m))
    ended same = ([], append-nil (messages_from s theirs) ∙ same)

    -- of a member of the view it has as many as the script
    held : IsPrefixOf (w.past.history m) (w.past.history k) → has (w.members m) s ≡ true
        → messages_from s (w.past.history k) ≡ messages_from s (w.past.history m)
    held p there =
        let q = more mine theirs p in
        let numbered = (in-order g values w k is y r).numbered s in
        let none : length q.0 ≡ 0 = omega (
          arith,
          ap length q.1,
          length-append (messages_from s mine) q.0,
          ap length numbered.1,
          length-append (messages_from s theirs) numbered.0,
          length-numbered_messages g.opening s,
          done-whole g values w m is y l e s there,
        ) in
        sym q.1 ∙ ap (λ es. messages_from s mine ++ es) (nil_from_length q.0 none) ∙ append-nil (messages_from s mine)

    -- of another one no message follows
    none_more : IsPrefixOf (w.past.history m) (w.past.history k) → has (w.members m) s ≡ false
        → ¬ IsLateIn g.opening s → messages_from s (w.past.history k) ≡ messages_from s (w.past.history m)
    none_more p absent early =
        let front : take (length mine) theirs ≡ mine =
        ap (take (length mine)) (sym p.1) ∙ take_at mine p.0 (length mine) refl in
        let first = (in-order g values w m is y l).begins in
        no-more g.opening w.past.sent theirs s (length mine)
        (view_numbered g (views_by g values) (w.past.view m)) is.sound early (in-order g values w k is y r) (omega (
          arith,
          ap length first.1,
          length-append (first_entries g.opening) first.0,
          length-append g.opening.start (View g.opening.age 0 g.opening.members ∷ []),
        )) (omega (arith, ap length p.1, length-append mine p.0)) (ap view_of front ∙ the-view g values w m is y l)
        (λ c. let there : has (views_by g values (w.past.view m)) s ≡ true =
        member-has (views_by g values (w.past.view m)) c.0 s
        (slice_get-get_or (members_of (views_by g values (w.past.view m))) c.0 s c.1 ∙ ap Some c.2) in
        absurd (cc (absent, y.faithful.views.own m, there))) ∙ ap (messages_from s) front

    of_view : IsPrefixOf (w.past.history m) (w.past.history k) → (b : Bool) → has (w.members m) s ≡ b
        → messages_from s (w.past.history k) ≡ messages_from s (w.past.history m)
    of_view p true there = held p there
    of_view p false absent = elim either [
      | inl early ↦ none_more p absent early
      | inr there ↦ absurd (cc (there, absent))
    ]

    by : IsPrefixOf (w.past.history m) (w.past.history k) ⊎ IsPrefixOf (w.past.history k) (w.past.history m)
        → IsPrefixOf (messages_from s (w.past.history k)) (messages_from s (w.past.history m))
    by (inr shorter) = more theirs mine shorter
    by (inl longer) = ended (of_view longer (has (w.members m) s) refl)
