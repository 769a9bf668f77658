-- The histories that go on behind the heads of views, and the Views that they hold.
use Rattle.std.proofs.Common.{[], ◌∷◌, List, ◌≡◌, ◌⊎◌, Contains, arith, inl, inr, refl, subst, sym, ℕ, ◌++◌, ◌<◌, ◌≤◌}
use Rattle.std.proofs.lemmas.{Bool.cases_lt, List.Elements.{Contains-append_left, Contains-append_right}}
use Rattle.dr_entry.specs.declared.entry.Entry.{Entry, TheVariants.View}
use Rattle.dr_history.specs.History.{IsPrefixOf}
use Rattle.dr_history_laws.specs.{Courses.{ViewEnds, course, head_of, view_in}, Laid.laid}
use Rattle.dr_history_laws.proofs.{Courses.{course-head, prefix-later}, Heads.{course_views, head-last}}
use Rattle.dr_machine.specs.{Group.{Group, IsGroup, roster}, World.World}
use Rattle.dr_faithful.specs.Chosen.{Values, endings_by, views_by}
use Rattle.dr_world_laws.specs.Historic.{Historic, head_by}

-- a history has the Views of the views that its member has come to, and no other of the age
pub view-held : (g : Group) (values : Values) (w : World) (k v members : ℕ) → IsGroup g
    → Historic g values w → k < roster g → Contains (w.past.history k) (View g.opening.age v members)
    → (v ≤ w.past.view k) × (views_by g values v ≡ members)
view-held g values w k v members is h l c =
    course_views g.opening w.past.sent (endings_by g.opening values) (w.past.view k) (w.next k) v members
    is.sound (subst (λ es. Contains es (View g.opening.age v members)) (h.history k l) c)

-- the history of a member goes on behind the head of each view that it has come to
pub reaches : (g : Group) (values : Values) (w : World) (m v : ℕ) → Historic g values w → m < roster g
    → v ≤ w.past.view m → IsPrefixOf (head_by g values w v) (w.past.history m)
reaches g values w m v h l come = subst (IsPrefixOf (head_by g values w v)) (sym (h.history m l))
    (by (cases_lt v (w.past.view m)))
  where
    endings : ViewEnds
    endings = endings_by g.opening values

    by : (v < w.past.view m) ⊎ (w.past.view m ≤ v)
        → IsPrefixOf (head_of g.opening w.past.sent (endings_by g.opening values) v)
        (course g.opening w.past.sent (endings_by g.opening values) (w.past.view m) (w.next m))
    by (inl far) = subst (λ es. IsPrefixOf es (course g.opening w.past.sent endings (w.past.view m) (w.next m)))
        (course-head g.opening w.past.sent endings v)
        (prefix-later g.opening w.past.sent endings v 0 (w.past.view m) (w.next m) far (omega arith))
    by (inr near) =
        let same : w.past.view m ≡ v = omega (arith, come, near) in
        subst (λ u. IsPrefixOf (head_of g.opening w.past.sent endings v)
        (course g.opening w.past.sent endings u (w.next m))) (sym same)
        (laid g.opening w.past.sent (view_in g.opening endings v) (w.next m), refl)

-- and the head of a view behind that of each earlier one
pub head-later : (g : Group) (values : Values) (w : World) (u v : ℕ) → u < v
    → IsPrefixOf (head_by g values w u) (head_by g values w v)
head-later g values w u v less = subst (λ es. IsPrefixOf es (head_by g values w v))
    (course-head g.opening w.past.sent (endings_by g.opening values) u)
    (subst (IsPrefixOf (course g.opening w.past.sent (endings_by g.opening values) u 0))
    (course-head g.opening w.past.sent (endings_by g.opening values) v)
    (prefix-later g.opening w.past.sent (endings_by g.opening values) u 0 v 0 less (omega arith)))

-- it ends with its View, so whatever goes on behind it has that
pub view-behind : (g : Group) (values : Values) (w : World) (v : ℕ) (es : List Entry)
    → IsPrefixOf (head_by g values w v) es → Contains es (View g.opening.age v (views_by g values v))
view-behind g values w v es p = subst (λ x. Contains x here) p.1 (Contains-append_left (head_by g values w v) p.0 here
    (subst (λ x. Contains x here) (sym t.1) (Contains-append_right t.0 (here ∷ []) here (0, omega arith, refl))))
  where
    here : Entry
    here = View g.opening.age v (views_by g values v)

    t : (before : List Entry) × (head_by g values w v ≡ before ++ View g.opening.age v (views_by g values v) ∷ [])
    t = head-last g.opening w.past.sent (endings_by g.opening values) v

pub view-there : (g : Group) (values : Values) (w : World) (m v : ℕ) → Historic g values w → m < roster g
    → v ≤ w.past.view m → Contains (w.past.history m) (View g.opening.age v (views_by g values v))
view-there g values w m v h l come = view-behind g values w v (w.past.history m) (reaches g values w m v h l come)
