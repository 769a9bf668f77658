-- A member that holds all messages has the start, View 0, and the merge of what the start leaves.
use Rattle.std.proofs.Common.{All, List, [], ◌∷◌, Some, ap, inl, inr, length, refl, slice_get, subst, sym, true, ℕ, ◌++◌, ◌+◌, ◌%◌, ◌<◌, ◌∙◌, ◌≡◌, ◌⊎◌}
use Rattle.std.proofs.lemmas.{List.Elements.{All-head, All-tail}, Option.slice_get-get_or}
use Rattle.dr_entry.{specs.declared.end.SentItem.SentItem, proofs.{NumberFacts.first_or, OptionFacts.value_of}}
use Rattle.dr_history.specs.{History.{GroupView, Sent, item_at, messages_of}, Members.{has, members_of}}
use Rattle.dr_history.specs.{Order.{first_entries, messages_from}, declared.opening.Opening.Opening}
use Rattle.dr_history.proofs.{Indices.item_at-parts, MemberLemmas.member-has, NumberedLemmas.start_messages}
use Rattle.dr_history_laws.specs.{Courses.course, Laid.{HeldBelow, first_view, laid}, Remaining.{remaining, to_send}}
use Rattle.dr_history_laws.proofs.{Courses.head-first, LaidLemmas.laid-same, Merging.laid-whole}
use Rattle.dr_history_laws.proofs.{Ordered.{view-distinct, first-ends}, Wholes.left-goes_on}
use Rattle.dr_history_laws.specs.Laid as histories
use Rattle.dr_machine.specs.{Acts.{CanTake, effect_of}, Effects.{puts, stamped}, Events.{member_of, step_of}}
use Rattle.dr_machine.specs.{Group.{Group, IsGroup, roster}, Guards.{HoldsAll, IsRunning}, Run.Way, Sending.IsPut}
use Rattle.dr_machine.{specs.{World.{World, opening_world}, declared.step.Step.Step}, proofs.Runs.by_way}
use Rattle.dr_machine.proofs.Writes.{put_later}
use Rattle.dr_world_laws.{specs.Historic.{head_by, view_numbered}, proofs.Items.held-next}
use Rattle.dr_world_laws.proofs.Reached.{Known, begins, event-known, known}
use Rattle.dr_faithful.specs.{Chosen.{AreChosen, Values, endings_by, views_by}, Tells.item_named}
use Rattle.dr_faithful.proofs.{ChosenViews.{views-first, same_place}, Faithfulness.puts_or_leaves}

-- ---- a member that holds all

-- the view that all are in
pub view-first : (g : Group) (values : Values) → view_numbered g (views_by g values) 0 ≡ first_view g.opening
view-first g values = ap (λ mask. view_with mask) (views-first g values)
  where
    view_with : ℕ → GroupView
    view_with mask = record { age = g.opening.age; number = 0; members = members_of mask }

pub history-first : (g : Group) (values : Values) (w : World) (m : ℕ) → Known g values w → m < roster g
    → w.past.view m ≡ 0 → w.past.history m ≡ first_entries g.opening
    ++ laid g.opening w.past.sent (first_view g.opening) (w.next m)
history-first g values w m y l first = y.laid.historic.history m l
    ∙ ap (λ n. course g.opening w.past.sent (endings_by g.opening values) n (w.next m)) first
    ∙ ap (λ es. es ++ laid g.opening w.past.sent (view_numbered g (views_by g values) 0) (w.next m))
    (head-first g.opening w.past.sent (endings_by g.opening values))
    ∙ ap (λ v. first_entries g.opening ++ laid g.opening w.past.sent v (w.next m)) (view-first g values)

pub held-first : (g : Group) (values : Values) (w : World) (m : ℕ) → Known g values w → m < roster g
    → w.past.view m ≡ 0 → HeldBelow w.past.sent (first_view g.opening) (w.next m)
held-first g values w m y l first = subst (λ v. HeldBelow w.past.sent v (w.next m)) (view-first g values)
    (subst (λ n. HeldBelow w.past.sent (view_numbered g (views_by g values) n) (w.next m)) first
    (held-next g (views_by g values) w m y.faithful))

-- ---- what each member has put in the first view

abbrev IsPutFirst : Group → World → ℕ → Type 0
IsPutFirst g w s =
    IsPut (length (messages_from s g.opening.start)) (length (messages_of g.opening s)) (w.past.sent s 0)

-- while it is in it
put_now : (g : Group) (values : Values) (w : World) (s : ℕ) → Known g values w → s < roster g
    → w.past.view s ≡ 0 → IsPutFirst g w s
put_now g values w s y l first = subst (λ b. IsPut b (length (messages_of g.opening s)) (w.past.sent s 0)) base
    (subst (λ n. IsPut (w.base s) (length (messages_of g.opening s)) (w.past.sent s n)) first (y.faithful.sent.put s))
  where
    base : w.base s ≡ length (messages_from s g.opening.start)
    base = y.laid.historic.based s l ∙ ap (λ n. length (messages_from s (head_by g values w n))) first
        ∙ ap (λ es. length (messages_from s es)) (head-first g.opening w.past.sent (endings_by g.opening values))
        ∙ start_messages g.opening s

put_stays : (g : Group) (values : Values) (w : World) (m : ℕ) (step : Step) (s : ℕ) → CanTake g w m step
    → Known g values (effect_of g w m step) → s < roster g → IsPutFirst g w s → IsPutFirst g (effect_of g w m step) s
put_stays g values w m step s can y l old = by (puts_or_leaves g w m step can)
  where
    puts_so : (name : SentItem) → effect_of g w m step ≡ stamped (puts g w m name (item_named g m name)) m
        → (w.past.view s ≡ 0) ⊎ (0 < w.past.view s) → IsPutFirst g (effect_of g w m step) s
    puts_so name same (inl first) =
        put_now g values (effect_of g w m step) s y l (ap (λ (u : World). u.past.view s) same ∙ first)
    puts_so name same (inr later) = subst (λ u. IsPutFirst g u s) (sym same)
        (subst (λ items. IsPut (length (messages_from s g.opening.start)) (length (messages_of g.opening s)) items)
        (sym (put_later w.past.sent w.past.view m s (w.past.sent m (w.past.view m) ++ name ∷ []) later)) old)

    by : ((name : SentItem) × IsRunning g w m
        × (effect_of g w m step ≡ stamped (puts g w m name (item_named g m name)) m))
        ⊎ ((effect_of g w m step).past.sent ≡ w.past.sent) → IsPutFirst g (effect_of g w m step) s
    by (inl (name, running, same)) = puts_so name same (first_or (w.past.view s))
    by (inr same) = subst (λ (sent : Sent).
        IsPut (length (messages_from s g.opening.start)) (length (messages_of g.opening s)) (sent s 0)) (sym same) old

pub put_first : (g : Group) (values : Values) (us : List World) (w : World) (s : ℕ) → IsGroup g → Way g us w
    → All (AreChosen values) us → s < roster g
    → IsPut (length (messages_from s g.opening.start)) (length (messages_of g.opening s)) (w.past.sent s 0)
put_first g values us w s is r chosen l = by_way g (AreChosen values) (λ us u. IsPutFirst g u s)
    (λ us u e run all can y. put_stays g values u (member_of e) (step_of e) s can
    (event-known g values u e is (All-head (AreChosen values) u us all) can
    (known g values us u is run (All-tail (AreChosen values) u us all))) l y)
    (λ us u table run all come y. y) (put_now g values (opening_world g) s (begins g values is) l refl) us w r chosen

-- its history is what the script and the start alone determine
pub holds-remaining : (g : Group) (values : Values) (us : List World) (w : World) (m : ℕ) → IsGroup g
    → Way g us w → All (AreChosen values) us → Known g values w → m < roster g → w.past.view m ≡ 0 → HoldsAll g w m
    → w.past.history m ≡ first_entries g.opening ++ remaining g.opening
holds-remaining g values us w m is r chosen y l first whole = history-first g values w m y l first
    ∙ ap (λ es. first_entries o ++ es) (sym same ∙ laid-whole o (to_send o)
    (first_entries o) v (w.next m) (left-goes_on o v) (view-distinct (first_entries o) v (first-ends o)) all)
  where
    o : Opening
    o = g.opening

    v : GroupView
    v = first_view g.opening

    mask_is : w.members m ≡ g.opening.members
    mask_is = y.faithful.views.own m ∙ ap (views_by g values) first ∙ views-first g values

    sender : (p s : ℕ) (item : SentItem) → item_at w.past.sent (first_view g.opening) p ≡ Some (s, item)
        → s < roster g
    sender p s item e = subst (λ mask. has mask s ≡ true → s < roster g) (views-first g values)
        (y.faithful.views.within 0 s)
        (member-has g.opening.members (p % length v.members) s (item_at-parts w.past.sent v p s item e).0)

    same : laid g.opening (to_send g.opening) (first_view g.opening) (w.next m)
        ≡ laid g.opening w.past.sent (first_view g.opening) (w.next m)
    same = laid-same o w.past.sent (to_send o) v (w.next m) (λ p below.
        let held = value_of (item_at w.past.sent v p) (held-first g values w m y l first p below) in
        same_place o w.past.sent v p held.0.0 held.0.1
        (put_first g values us w held.0.0 is r chosen (sender p held.0.0 held.0.1 held.1)) held.1)

    all : histories.HoldsAll g.opening (first_view g.opening)
        (first_entries g.opening ++ laid g.opening (to_send g.opening) (first_view g.opening) (w.next m))
    all s member =
        let here : slice_get (members_of o.members) member.0
        ≡ Some s = slice_get-get_or (members_of o.members) member.0 s member.1 ∙ ap Some member.2 in
        ap (λ es. length (messages_from s (first_entries o ++ es))) same
        ∙ ap (λ es. length (messages_from s es)) (sym (history-first g values w m y l first))
        ∙ whole s (subst (λ mask. has mask s ≡ true) (sym mask_is) (member-has o.members member.0 s here))
