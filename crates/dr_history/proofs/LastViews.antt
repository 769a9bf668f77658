-- The last View of a list of entries, and what the Views before it are.
use Rattle.std.proofs.Common.{◌≡◌, ap, sym, ◌∙◌, ℕ, ◌+◌, ◌-◌, arith, List, length, take, Contains, Some, slice_get, inl, inr, ◌<◌, ◌⊎◌, subst, [], ◌∷◌, Option, None, ◌≤◌}
use Rattle.std.proofs.lemmas.{List.take_all, Option.{slice_get-get_or, same_Some, none-some}}
use Rattle.dr_entry.{specs.declared.entry.Entry.{Entry, TheVariants.{View, Msg}}, proofs.ListParts.{in-head, in-tail}}
use Rattle.dr_entry.proofs.ListPlaces.{take-next}
use Rattle.dr_history.specs.{History.{GroupView, view_of, view_after, IsPrefixOf}, declared.opening.Opening.Opening}
use Rattle.dr_history.{specs.{Members.members_of, Restarting.AllStand, Soundness.Sound}, proofs.Lists.prefix-in}
use Rattle.dr_history.proofs.ViewLemmas.{view_of-View, HasCome, ViewsRise, view-after, ViewsRise-standing}

-- where the Views rise, the last one is not earlier than any other
risen-come : (es : List Entry) (a n m : ℕ) → ViewsRise 0 es → Contains es (View a n m)
    → (v : GroupView) × (view_of es ≡ Some v) × HasCome a n v
risen-come es a n m rise c = (
  last.0,
  ap view_of (sym (take_all (c.0 + 1 + (length es - (c.0 + 1))) es (omega (arith, c.1)))) ∙ last.1,
  last.2,
)
  where
    at : slice_get es c.0 ≡ Some (View a n m)
    at = slice_get-get_or es c.0 (View a n m) c.1 ∙ ap Some c.2

    last : (w : GroupView) × (view_of (take (c.0 + 1 + (length es - (c.0 + 1))) es) ≡ Some w) × HasCome a n w
    last = view-after es 0 (c.0 + 1) (length es - (c.0 + 1))
        (record { age = a; number = n; members = members_of m }) rise (omega arith) (omega (arith, c.1))
        (ap view_of (take-next es c.0 (View a n m) at) ∙ view_of-View (take c.0 es) a n m)

-- a sound start has Views of earlier ages alone
pub start-earlier : (o : Opening) (a n m : ℕ) → Sound o → Contains o.start (View a n m) → a < o.age
start-earlier o a n m sound c =
    let t = risen-come o.start a n m (ViewsRise-standing o o.start sound.entries) c in
    by t.0 t.2 (sound.later t.0 t.1)
  where
    by : (v : GroupView) → HasCome a n v → v.age < o.age → a < o.age
    by v (inl l) less = omega (arith, l, less)
    by v (inr t) less = omega (arith, t.0, less)

-- the view of a list is that of a View on it, or was there before
last_from : (u : Option GroupView) (es : List Entry) (v : GroupView) → view_after u es ≡ Some v
    → (u ≡ Some v) ⊎ ((members : ℕ) × Contains es (View v.age v.number members))
unfolding view_after
last_from u [] v e = inl e
last_from u (View a n m ∷ es) v e =
    by (last_from (Some (record { age = a; number = n; members = members_of m })) es v e)
  where
    here : GroupView
    here = record { age = a; number = n; members = members_of m }

    by : (Some here ≡ Some v) ⊎ ((members : ℕ) × Contains es (View v.age v.number members))
        → (u ≡ Some v) ⊎ ((members : ℕ) × Contains (View a n m ∷ es) (View v.age v.number members))
    by (inl same) =
        let is : here ≡ v = same_Some here v same in
        inr (
          m,
          subst (λ (w : GroupView). Contains (View a n m ∷ es) (View w.age w.number m)) is (in-head (View a n m) es),
        )
    by (inr t) = inr (t.0, in-tail (View a n m) (View v.age v.number t.0) es t.1)
last_from u (Msg s i b ∷ es) v e = by (last_from u es v e)
  where
    by : (u ≡ Some v) ⊎ ((members : ℕ) × Contains es (View v.age v.number members))
        → (u ≡ Some v) ⊎ ((members : ℕ) × Contains (Msg s i b ∷ es) (View v.age v.number members))
    by (inl same) = inl same
    by (inr t) = inr (t.0, in-tail (Msg s i b) (View v.age v.number t.0) es t.1)

pub last-view : (es : List Entry) (v : GroupView) → view_of es ≡ Some v
    → (members : ℕ) × Contains es (View v.age v.number members)
last-view es v e = by (last_from None es v e)
  where
    by : (None ≡ Some v) ⊎ ((members : ℕ) × Contains es (View v.age v.number members))
        → (members : ℕ) × Contains es (View v.age v.number members)
    by (inl none) = absurd (none-some v none)
    by (inr t) = t

-- so it is where all entries may stand
pub view-come : (o : Opening) (es : List Entry) (a n m : ℕ) → AllStand o es
    → Contains es (View a n m) → (v : GroupView) × (view_of es ≡ Some v) × HasCome a n v
view-come o es a n m stand = risen-come es a n m (ViewsRise-standing o es stand)

-- and its age is no less
pub view-late : (o : Opening) (es : List Entry) (a n m : ℕ) (v : GroupView) → AllStand o es
    → Contains es (View a n m) → view_of es ≡ Some v → a ≤ v.age
view-late o es a n m v stand c e =
    let t = view-come o es a n m stand c in
    let same : t.0 ≡ v = same_Some t.0 v (sym t.1 ∙ e) in by (subst (HasCome a n) same t.2)
  where
    by : HasCome a n v → a ≤ v.age
    by (inl l) = omega (arith, l)
    by (inr t) = omega (arith, t.0)

-- what goes on from a list ends in a view that is no earlier
pub ends_later : (o : Opening) (f g : List Entry) (v : GroupView) → AllStand o g → IsPrefixOf f g
    → view_of f ≡ Some v → (u : GroupView) × (view_of g ≡ Some u) × (v.age ≤ u.age)
ends_later o f g v stand p e =
    let last = last-view f v e in
    let there = prefix-in f g (View v.age v.number last.0) p last.1 in
    let t = view-come o g v.age v.number last.0 stand there in
    (t.0, t.1, view-late o g v.age v.number last.0 t.0 stand there t.1)
