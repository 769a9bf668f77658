-- The views of entries that may stand, and the numbers of their entries.
use Rattle.std.{specs.Prelude.IsSomeAnd, proofs.lemmas.List.take_all}
use Rattle.std.proofs.Common.{ℕ, ◌≡◌, ap, ◌∙◌, suc, ◌-◌, List, Some, take, slice_get, sym, subst, zero, ◌≤◌, arith, length, ◌<◌, All, get_or, ◌^◌, inl, inr, ◌+◌, [], ◌∷◌, ◌++◌, ◌⊎◌, refl, None, take_at, Contains}
use Rattle.std.proofs.lemmas.{Bool.cases_lt, Option.{none-some, same_Some, slice_get-get_or, slice_get_within}}
use Rattle.dr_entry.{specs.declared.entry.Entry.{Entry, TheVariants.{View, Msg}}, proofs.Entries.more}
use Rattle.dr_entry.proofs.{ListPlaces.{slice_get-some, take-next}, NumberFacts.before_or_behind, OptionFacts.some_of}
use Rattle.dr_history.specs.{History.{GroupView, view_of, Sent}, Members.members_of}
use Rattle.dr_history.specs.Order.{AreOfRoster, ContinuesAge, InOrder, IsSucceededBy}
use Rattle.dr_history.specs.{Restarting.{AllStand, IsForeignAt}, Soundness.MayStand, declared.opening.Opening.Opening}
use Rattle.dr_history.proofs.{Cutting.with_messages, Following.view_of-nil, Lists.first_at, MemberLemmas.member-has}
use Rattle.dr_history.proofs.{Standing.stands-by, ViewLemmas.{view_of-View, view_of-Msg}}

-- the view of a View
abbrev pub view_told : ℕ → ℕ → ℕ → GroupView
view_told a k m = record { age = a; number = k; members = members_of m }

-- the view behind a View
pub view_behind : (es : List Entry) (i a k m : ℕ) → slice_get es i ≡ Some (View a k m)
    → view_of (take (suc i) es) ≡ Some (view_told a k m)
view_behind es i a k m at = ap view_of (more es i (View a k m) at) ∙ view_of-View (take i es) a k m

-- what holds of each View with members of the roster holds of every view of entries that may stand
pub each_view : (P : GroupView → Type 0) (o : Opening) (es : List Entry) → AllStand o es
    → ((a k m : ℕ) → AreOfRoster (length o.messages) m → P (view_told a k m)) → (i : ℕ) → i ≤ length es
    → (v : GroupView) → view_of (take i es) ≡ Some v → P v
each_view P o es stand views zero within v is = absurd (none-some v (sym view_of-nil ∙ is))
each_view P o es stand views (suc i) within v is =
    by (λ u was. each_view P o es stand views i (omega (arith, within)) u was) there.0 there.1
  where
    there : (e : Entry) × (slice_get es i ≡ Some e)
    there = slice_get-some es i (omega (arith, within))

    by : ((u : GroupView) → view_of (take i es) ≡ Some u → P u) → (e : Entry) → slice_get es i ≡ Some e → P v
    by before (View a k m) at = subst P (same_Some (view_told a k m) v (sym (view_behind es i a k m at) ∙ is))
        (views a k m (stand i (View a k m) at).0)
    by before (Msg s k b) at =
        before v (sym (view_of-Msg (take i es) s k b) ∙ (ap view_of (sym (more es i (Msg s k b) at)) ∙ is))

-- so are those of any mask of its members
pub of_roster_below : (n m : ℕ) → AreOfRoster n m → All (λ s. s < n) (members_of m)
of_roster_below n m of k d within = of.within (get_or (members_of m) k d)
    (member-has m k (get_or (members_of m) k d) (slice_get-get_or (members_of m) k d within))

-- the members of a view are of the roster
pub view_below : (o : Opening) (es : List Entry) → AllStand o es → (i : ℕ)
    → i ≤ length es → (v : GroupView) → view_of (take i es) ≡ Some v → All (λ s. s < length o.messages) v.members
view_below o es stand = each_view (λ v. All (λ s. s < length o.messages) v.members) o es stand
    (λ a k m of. of_roster_below (length o.messages) m of)

-- so are those of a View
pub named_below : (o : Opening) (es : List Entry) → AllStand o es
    → (i a k m : ℕ) → slice_get es i ≡ Some (View a k m) → All (λ s. s < length o.messages) (members_of m)
named_below o es stand i a k m at = of_roster_below (length o.messages) m (stand i (View a k m) at).0

-- a View's number has 8 bits
pub small_number : (o : Opening) (es : List Entry) (a k m : ℕ) → MayStand o es (View a k m) → k < 2 ^ 8
small_number o es a k m (of, inl opens) = omega (arith, opens.first)
small_number o es a k m (of, inr goes) = (some_of (λ v. ContinuesAge v a k m) (view_of es) goes).2.numbers.0

-- the view of more entries is of no earlier age
pub age_rises : (o : Opening) (es : List Entry) → AllStand o es → (i n : ℕ) → i + n ≤ length es → (u : GroupView)
    → view_of (take i es) ≡ Some u → (v : GroupView) × (view_of (take (i + n) es) ≡ Some v) × (u.age ≤ v.age)
age_rises o es stand i zero within u is =
    let same : i ≡ i + 0 = omega arith in (u, ap (λ (j : ℕ). view_of (take j es)) (sym same) ∙ is, omega arith)
age_rises o es stand i (suc n) within u is =
    by there.0 there.1 (age_rises o es stand i n (omega (arith, within)) u is)
  where
    there : (e : Entry) × (slice_get es (i + n) ≡ Some e)
    there = slice_get-some es (i + n) (omega (arith, within))

    next : suc (i + n) ≡ i + suc n
    next = omega arith

    come : (a k m : ℕ) (w : GroupView) → view_of (take (i + n) es) ≡ Some w
        → MayStand o (take (i + n) es) (View a k m) → w.age ≤ a
    come a k m w was (of, inl opens) = omega (arith, opens.later w was)
    come a k m w was (of, inr goes) =
        let v = some_of (λ v. ContinuesAge v a k m) (view_of (take (i + n) es)) goes in
        let same : v.0 ≡ w = same_Some v.0 w (sym v.1 ∙ was) in
        omega (arith, v.2.same_age, ap (λ (x : GroupView). x.age) same)

    by : (e : Entry) → slice_get es (i + n) ≡ Some e → (w : GroupView) × (view_of (take (i + n) es) ≡ Some w)
        × (u.age ≤ w.age) → (v : GroupView) × (view_of (take (i + suc n) es) ≡ Some v) × (u.age ≤ v.age)
    by (View a k m) at (w, was, before) = (
      view_told a k m,
      ap (λ (j : ℕ). view_of (take j es)) (sym next) ∙ view_behind es (i + n) a k m at,
      omega (arith, before, come a k m w was (stand (i + n) (View a k m) at)),
    )
    by (Msg s k b) at (w, was, before) = (
      w,
      ap (λ (j : ℕ). view_of (take j es)) (sym next)
          ∙ (ap view_of (more es (i + n) (Msg s k b) at) ∙ (view_of-Msg (take (i + n) es) s k b ∙ was)),
      before,
    )

-- no View is of a later age than the last
pub age_below : (o : Opening) (es : List Entry) → AllStand o es → (i a k m : ℕ)
    → slice_get es i ≡ Some (View a k m) → (v : GroupView) × (view_of es ≡ Some v) × (a ≤ v.age)
age_below o es stand i a k m at =
    let within = slice_get_within es i (View a k m) at in
    let more : suc i + (length es - suc i) ≡ length es = omega (arith, within) in
    let last = age_rises o es stand (suc i) (length es - suc i) (omega (arith, more)) (view_told a k m)
    (view_behind es i a k m at) in (
      last.0,
      ap view_of (sym (take_all (length es) es (omega arith)) ∙ sym (ap (λ (j : ℕ). take j es) more)) ∙ last.1,
      last.2,
    )

-- behind the start a history is in views of the age
pub view_age : (o : Opening) (sent : Sent) (h : List Entry) → InOrder o sent h → (i : ℕ) → length o.start < i
    → i ≤ length h → (v : GroupView) → view_of (take i h) ≡ Some v → v.age ≡ o.age
view_age o sent h order zero behind within v is = absurd (omega (arith, behind))
view_age o sent h order (suc i) behind within v is =
    by (λ less u was. view_age o sent h order i less (omega (arith, within)) u was) (cases_lt (length o.start) i)
  where
    there : (e : Entry) × (slice_get h i ≡ Some e)
    there = slice_get-some h i (omega (arith, within))

    more : (e : Entry) → slice_get h i ≡ Some e → take (suc i) h ≡ take i h ++ e ∷ []
    more e at = let next : suc i ≡ i + 1 = omega arith in ap (λ (j : ℕ). take j h) next ∙ take-next h i e at

    at_View : (a k m : ℕ) → slice_get h i ≡ Some (View a k m) → a ≡ v.age
    at_View a k m at = ap (λ (w : GroupView). w.age)
        (same_Some (record { age = a; number = k; members = members_of m }) v
        (sym (view_of-View (take i h) a k m) ∙ (ap view_of (sym (more (View a k m) at)) ∙ is)))

    later : ((u : GroupView) → view_of (take i h) ≡ Some u → u.age ≡ o.age) → length o.start < i
        → (e : Entry) → slice_get h i ≡ Some e → v.age ≡ o.age
    later before less (View a k m) at =
        let u = some_of (λ w. IsSucceededBy o (take i h) w a k m) (view_of (take i h)) (order.views i a k m less at) in
        sym (at_View a k m at) ∙ (u.2.follows.same_age ∙ before u.0 u.1)
    later before less (Msg s k b) at =
        before v (sym (view_of-Msg (take i h) s k b) ∙ (ap view_of (sym (more (Msg s k b) at)) ∙ is))

    by : (length o.start < i → (u : GroupView) → view_of (take i h) ≡ Some u → u.age ≡ o.age)
        → (length o.start < i) ⊎ (i ≤ length o.start) → v.age ≡ o.age
    by before (inl less) = later (before less) less there.0 there.1
    by before (inr most) =
        let e : i ≡ length o.start = omega (arith, behind, most) in
        sym (at_View o.age 0 o.members (ap (slice_get h) e ∙ first_at o sent h order))

-- a log without a View has nothing
pub nothing_without : (o : Opening) (es : List Entry) → AllStand o es → view_of es ≡ None → es ≡ []
nothing_without o [] stand none = refl
nothing_without o (View a n m ∷ es) stand none =
    let last = age_below o (View a n m ∷ es) stand 0 a n m refl in absurd (none-some last.0 (sym none ∙ last.1))
nothing_without o (Msg s i b ∷ es) stand none = absurd (subst (λ z. IsSomeAnd z (λ v. Contains v.members s))
    (ap view_of (take_at [] (Msg s i b ∷ es) 0 refl) ∙ view_of-nil) (stand 0 (Msg s i b) refl).0)

pub stand-so : (o p : Opening) (es : List Entry) → AllStand (with_messages o p.messages) es → AllStand p es
stand-so o p es all i e at = stands-by (with_messages o p.messages) p (take i es) e refl (all i e at)

pub foreign-so : (o p : Opening) (es : List Entry) (place : ℕ) → IsForeignAt (with_messages o p.messages) es place
    → IsForeignAt p es place
foreign-so o p es place x = record {
  before = λ i e l at. stands-by (with_messages o p.messages) p (take i es) e refl (x.before i e l at);
  entry = x.entry;
  here = x.here;
  foreign = λ stands. x.foreign (stands-by p (with_messages o p.messages) (take place es) x.entry refl stands);
}

pub one-place : (o : Opening) (es : List Entry) (p q : ℕ) → IsForeignAt o es p → IsForeignAt o es q → p ≡ q
one-place o es p q x y = by (before_or_behind p q)
  where
    by : (p < q) ⊎ ((p ≡ q) ⊎ (q < p)) → p ≡ q
    by (inl l) = absurd (x.foreign (y.before p x.entry l x.here))
    by (inr (inl e)) = e
    by (inr (inr l)) = absurd (y.foreign (x.before q y.entry l y.here))
