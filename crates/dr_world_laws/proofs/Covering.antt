-- What the value of a view cuts off nobody has delivered, and who goes on has received all that it takes.
use Rattle.std.proofs.Common.{List, append_assoc, [], ◌∷◌, ◌≡◌, ap, arith, sym, true, ◌∙◌, subst, ℕ, ◌+◌, ◌<◌, ◌≤◌, ◌++◌, slice_index, Some}
use Rattle.dr_entry.specs.{declared.entry.Entry.{Entry, TheVariants.View}, declared.record.Value.Value}
use Rattle.dr_entry.proofs.BoolFacts.{kept_in}
use Rattle.dr_history.{specs.{History.{IsPrefixOf, merge}, Members.has, Places.front_of}, proofs.Lists.prefix_behind}
use Rattle.dr_history_laws.{specs.Courses.{counts_taken, view_in}, proofs.{Courses.head-next, Cutting.merge-prefix}}
use Rattle.dr_history_laws.proofs.Heads.{head-last}
use Rattle.dr_machine.specs.{Group.{Group, IsGroup, roster}, World.World}
use Rattle.dr_words.specs.Masks.{next_members}
use Rattle.dr_faithful.specs.Chosen.{AreChosen, Values, endings_by, views_by}
use Rattle.dr_faithful.proofs.ChosenViews.{ending-next, place-kept, views-come}
use Rattle.dr_vote_laws.{specs.Voting.{IsChosen, IsCut}, proofs.Ballots.{cut-changes, voted-cut}}
use Rattle.dr_world_laws.{specs.{Historic.head_by, Views.{IsCovered, all_taken}}, proofs.HeldViews.behind-is}
use Rattle.dr_world_laws.proofs.{Holding.reaches, Reached.{Known, safe}}

-- a member of a view in which a value is committed has delivered nothing that this value cuts off
pub delivered_within : (g : Group) (values : Values) (w : World) (m k : ℕ) (x : Value) → IsGroup g
    → Known g values w → AreChosen values w → m < roster g → w.committed k ≡ Some x → w.past.view m ≡ w.past.view k
    → w.next m ≤ front_of (counts_taken g.opening (endings_by g.opening values) (w.past.view m))
delivered_within g values w m k x is y chosen l e same = place-kept g values w m is y.faithful (λ s there.
    let t = (safe g values w k x y e).least s (sym (member s) ∙ there) in (
      t.0,
      member t.0 ∙ t.1,
      subst (λ (z : Value). w.past.count t.0 (w.past.view m) s ≤ slice_index z.trim s) value
          (subst (λ v. w.past.count t.0 v s ≤ slice_index x.trim s) (sym same) t.3),
    ))
  where
    value : x ≡ values (w.past.view m)
    value = chosen k x e ∙ ap values (sym same)

    member : (i : ℕ) → has (views_by g values (w.past.view m)) i ≡ has (w.members k) i
    member i = sym (ap (λ z. has z i) (y.faithful.views.own k) ∙ ap (λ v. has (views_by g values v) i) (sym same))

-- so what it has delivered in the view is the front part of the merge of what the value takes
pub front_part : (g : Group) (values : Values) (w : World) (m : ℕ) → Known g values w → m < roster g
    → w.next m ≤ front_of (counts_taken g.opening (endings_by g.opening values) (w.past.view m))
    → IsPrefixOf (w.past.history m) (head_by g values w (w.past.view m)
    ++ merge g.opening w.past.sent (view_in g.opening (endings_by g.opening values) (w.past.view m))
    (counts_taken g.opening (endings_by g.opening values) (w.past.view m)))
front_part g values w m y l below = subst (λ es. IsPrefixOf es (head_by g values w (w.past.view m)
    ++ merge g.opening w.past.sent (view_in g.opening (endings_by g.opening values) (w.past.view m))
    (counts_taken g.opening (endings_by g.opening values) (w.past.view m))))
    (sym (y.laid.historic.history m l)) (merge-prefix g.opening w.past.sent
    (head_by g values w (w.past.view m)) (view_in g.opening (endings_by g.opening values) (w.past.view m))
    (endings_by g.opening values (w.past.view m)).taken (w.next m) below)

-- ---- a value that is voted for

-- where more than half of a view has voted for its value, the value covers what is delivered
pub covered : (g : Group) (values : Values) (w : World) (v b : ℕ) → IsGroup g → Known g values w
    → IsChosen (views_by g values) w.past.votes v b (values v) → IsCovered g w v (views_by g values v) (values v)
covered g values w v b is y voted = record {
  within = λ m before behind l here e.
      let r = reaches g values w m v y.laid.historic l (omega (arith, here)) in
      subst (λ es. IsPrefixOf es merged) (sym (behind-is g values w m v (views_by g values v)
      (views_by g values v) before behind t.0 r.0 is y l e (sym r.1 ∙ head_with r.0)))
      (prefix_behind (head_by g values w v) r.0 merged
      (subst (λ es. IsPrefixOf es (head_by g values w v ++ merged)) (sym r.1) (delivered m l here)));
  whole = λ m before behind l less e.
      let r = reaches g values w m (v + 1) y.laid.historic l (omega (arith, less)) in (
        r.0,
        sym (behind-is g values w m v (views_by g values v) (views_by g values v) before behind t.0
            ((merged ++ next) ++ r.0) is y l e (sym r.1
            ∙ ap (λ es. es ++ r.0) (head ∙ append_assoc (head_by g values w v) merged next)
            ∙ append_assoc (head_by g values w v) (merged ++ next) r.0 ∙ head_with ((merged ++ next) ++ r.0))),
      );
  received = λ i s inside stays there. omega (
    arith,
    (cut.trims s there).least i (kept_in _ _ (cut.leavers i inside) stays),
    y.faithful.counts.recv i v s (y.faithful.views.within v s there),
  );
}
  where
    merged : List Entry
    merged = all_taken g w v (views_by g values v) (values v)

    next : List Entry
    next = View g.opening.age (v + 1) (next_members (views_by g values v) (values v).leavers) ∷ []

    t : (before : List Entry) × (head_by g values w v ≡ before ++ View g.opening.age v (views_by g values v) ∷ [])
    t = head-last g.opening w.past.sent (endings_by g.opening values) v

    head_with : (rest : List Entry) → head_by g values w v ++ rest
        ≡ t.0 ++ View g.opening.age v (views_by g values v) ∷ rest
    head_with rest = ap (λ es. es ++ rest) t.1
        ∙ append_assoc t.0 (View g.opening.age v (views_by g values v) ∷ []) rest

    cut : IsCut g.opening (views_by g values) w.past.own v (values v)
    cut = voted-cut g values w v b y.voting voted

    least : (s : ℕ) → has (views_by g values v) s ≡ true → (j : ℕ) × (has (views_by g values v) j ≡ true)
        × (w.past.count j v s ≤ slice_index (values v).trim s)
    least s there =
        let t = (cut.trims s there).found in (
          t.0,
          cut.part t.0 t.1,
          omega (arith, t.2, y.faithful.counts.recv t.0 v s (y.faithful.views.within v s there)),
        )

    head : head_by g values w (v + 1) ≡ (head_by g values w v ++ merge g.opening w.past.sent
        (view_in g.opening (endings_by g.opening values) v) (counts_taken g.opening (endings_by g.opening values) v))
        ++ View g.opening.age (v + 1) (next_members (views_by g values v) (values v).leavers) ∷ []
    head = head-next g.opening w.past.sent (endings_by g.opening values) v ∙ ap (λ mask. (head_by g values w v
        ++ merge g.opening w.past.sent (view_in g.opening (endings_by g.opening values) v)
        (counts_taken g.opening (endings_by g.opening values) v)) ++ View g.opening.age (v + 1) mask ∷ [])
        (ending-next g values v ∙ views-come g values v is (cut-changes g values w.past.own v cut))

    delivered : (m : ℕ) → m < roster g → w.past.view m ≡ v → IsPrefixOf (w.past.history m)
        (head_by g values w v ++ all_taken g w v (views_by g values v) (values v))
    delivered m l here = subst (λ u. IsPrefixOf (w.past.history m)
        (head_by g values w u ++ merge g.opening w.past.sent (view_in g.opening (endings_by g.opening values) u)
        (counts_taken g.opening (endings_by g.opening values) u))) here (front_part g values w m y l
        (place-kept g values w m is y.faithful (λ s there. subst (λ u. (j : ℕ) × (has (views_by g values u) j ≡ true)
        × (w.past.count j u s ≤ slice_index (values u).trim s)) (sym here)
        (least s (subst (λ u. has (views_by g values u) s ≡ true) here there)))))
