-- The view that a history is in, one entry later, and its Views, each of which is later than those before it.
use Rattle.std.proofs.Common.{◌≡◌, ℕ, List, [], ◌∷◌, ◌++◌, Option, None, Some, refl, ◌⊎◌, ◌<◌, ◌≤◌, take, slice_get, sym, inr, ◌-◌, arith, inl, ap, ◌∙◌, zero, suc, ◌+◌, le_refl, length, Contains}
use Rattle.std.proofs.lemmas.Option.{slice_get_within, same_Some, none-some}
use Rattle.dr_entry.{specs.declared.entry.Entry.{Entry, TheVariants.{View, Msg}}, proofs.OptionFacts.IsSomeAnd-at}
use Rattle.dr_entry.proofs.{ListPlaces.{slice_get-some, take-next, read-in}, NumberFacts.{come_on, come_later}}
use Rattle.dr_history.specs.{History.{GroupView, view_after, view_of, Sent, place_of_entry}, Members.members_of}
use Rattle.dr_history.specs.{Order.{ContinuesAge, IsSucceededBy}, Restarting.AllStand, Soundness.MayStand}
use Rattle.dr_history.{specs.declared.opening.Opening.Opening, proofs.LooseOrder.InLooseOrder}

view_after-append : (v : Option GroupView) (g h : List Entry) → view_after v (g ++ h) ≡ view_after (view_after v g) h
unfolding view_after
view_after-append v [] h = refl
view_after-append v (View a n m ∷ g) h =
    view_after-append (Some (record { age = a; number = n; members = members_of m })) g h
view_after-append v (Msg s i b ∷ g) h = view_after-append v g h

-- a View puts the history in its view
pub view_of-View : (h : List Entry) (a n m : ℕ)
    → view_of (h ++ View a n m ∷ []) ≡ Some (record { age = a; number = n; members = members_of m })
unfolding view_after
view_of-View h a n m = view_after-append None h (View a n m ∷ [])

-- a message leaves it in its view
pub view_of-Msg : (h : List Entry) (s i : ℕ) (b : List ℕ) → view_of (h ++ Msg s i b ∷ []) ≡ view_of h
unfolding view_after
view_of-Msg h s i b = view_after-append None h (Msg s i b ∷ [])

-- a view is not earlier than an age and a number
abbrev pub HasCome : ℕ → ℕ → GroupView → Type 0
HasCome age number w = (age < w.age) ⊎ ((age ≡ w.age) × (number ≤ w.number))

-- an age and a number are later than those of a view
abbrev pub IsLater : GroupView → ℕ → ℕ → Type 0
IsLater u age number = (u.age < age) ⊎ ((u.age ≡ age) × (u.number < number))

-- each View at or behind `from` is later than the view before it
abbrev pub ViewsRise : ℕ → List Entry → Type 0
ViewsRise from h = (i age number members : ℕ) → from ≤ i → slice_get h i ≡ Some (View age number members)
    → (u : GroupView) → view_of (take i h) ≡ Some u → IsLater u age number

-- a View that goes on in the age of a view is later
pub ContinuesAge-later : (u : GroupView) (age number members : ℕ) → ContinuesAge u age number members
    → IsLater u age number
ContinuesAge-later u age number members f = inr (sym f.same_age, omega (arith, f.next_number))

-- they do where every entry may stand
pub ViewsRise-standing : (o : Opening) (es : List Entry) → AllStand o es → ViewsRise 0 es
ViewsRise-standing o es stand i age number members l at u e = by (stand i (View age number members) at)
  where
    by : MayStand o (take i es) (View age number members) → IsLater u age number
    by (some, inl opens) = inl (opens.later u e)
    by (some, inr goes) = ContinuesAge-later u age number members
        (IsSomeAnd-at (view_of (take i es)) (λ v. ContinuesAge v age number members) u e goes)

-- a view stays or a later one comes
pub view-after : (h : List Entry) (from i d : ℕ) (u : GroupView) → ViewsRise from h → from ≤ i → i + d ≤ length h
    → view_of (take i h) ≡ Some u → (w : GroupView) × (view_of (take (i + d) h) ≡ Some w) × HasCome u.age u.number w
view-after h from i zero u rise l within e =
    let same : i + 0 ≡ i = omega arith in (u, ap (λ j. view_of (take j h)) same ∙ e, inr (refl, le_refl u.number))
view-after h from i (suc d) u rise l within e =
    next (view-after h from i d u rise l (omega arith) e) (slice_get-some h (i + d) (omega arith))
  where
    place : i + suc d ≡ i + d + 1
    place = omega arith

    next : (w : GroupView) × (view_of (take (i + d) h) ≡ Some w) × HasCome u.age u.number w
        → (x : Entry) × (slice_get h (i + d) ≡ Some x)
        → (w : GroupView) × (view_of (take (i + suc d) h) ≡ Some w) × HasCome u.age u.number w
    next r (View a n m, at) = (
      record { age = a; number = n; members = members_of m },
      ap (λ j. view_of (take j h)) place
          ∙ (ap view_of (take-next h (i + d) (View a n m) at) ∙ view_of-View (take (i + d) h) a n m),
      come_on u.age u.number r.0.age r.0.number a n r.2 (rise (i + d) a n m (omega arith) at r.0 r.1),
    )
    next r (Msg s j b, at) = (
      r.0,
      ap (λ j. view_of (take j h)) place ∙
          (ap view_of (take-next h (i + d) (Msg s j b) at) ∙ (view_of-Msg (take (i + d) h) s j b ∙ r.1)),
      r.2,
    )

-- of two Views the one that stands behind is later
View-later : (h : List Entry) (from i j a n m b l k : ℕ) → ViewsRise from h → from ≤ i → i < j
    → slice_get h i ≡ Some (View a n m) → slice_get h j ≡ Some (View b l k) → (a < b) ⊎ ((a ≡ b) × (n < l))
View-later h from i j a n m b l k rise from_i less at_i at_j =
    let place : i + 1 + (j - (i + 1)) ≡ j = omega arith in
    let first : view_of (take (i + 1) h) ≡ Some (record { age = a; number = n; members = members_of m }) =
    ap view_of (take-next h i (View a n m) at_i) ∙ view_of-View (take i h) a n m in
    let r = view-after h from (i + 1) (j - (i + 1)) (record { age = a; number = n; members = members_of m }) rise
    (omega arith) (omega (arith, slice_get_within h j (View b l k) at_j)) first in
    come_later a n r.0.age r.0.number b l r.2
    (rise j b l k (omega arith) at_j r.0 (ap (λ z. view_of (take z h)) (sym place) ∙ r.1))

-- so a View of an age and a number stands at one position
pub View-once : (h : List Entry) (i j age number m n : ℕ) → ViewsRise 0 h → slice_get h i ≡ Some (View age number m)
    → slice_get h j ≡ Some (View age number n) → i ≡ j
View-once h i j age number m n rise at_i at_j = by (apart i j)
  where
    apart : (i j : ℕ) → (i < j) ⊎ ((i ≡ j) ⊎ (j < i))
    apart i j = grind arith

    by : (i < j) ⊎ ((i ≡ j) ⊎ (j < i)) → i ≡ j
    by (inl l) = let r = View-later h 0 i j age number m age number n rise (omega arith) l at_i at_j in
        grind arith
    by (inr (inl e)) = e
    by (inr (inr l)) = let r = View-later h 0 j i age number n age number m rise
        (omega arith) l at_j at_i in grind arith

-- the numbers of the views behind View 0 rise
number_after : (o : Opening) (sent : Sent) (h : List Entry) (i d : ℕ) (u : GroupView)
    → InLooseOrder o sent h → length o.start < i → i + d ≤ length h → view_of (take i h) ≡ Some u → (w : GroupView)
    × (view_of (take (i + d) h) ≡ Some w) × (u.number ≤ w.number)
number_after o sent h i zero u order l within e =
    let same : i + 0 ≡ i = omega arith in (u, ap (λ j. view_of (take j h)) same ∙ e, le_refl u.number)
number_after o sent h i (suc d) u order l within e =
    next (number_after o sent h i d u order l (omega arith) e) (slice_get-some h (i + d) (omega arith))
  where
    place : i + suc d ≡ i + d + 1
    place = omega arith

    next : (w : GroupView) × (view_of (take (i + d) h) ≡ Some w) × (u.number ≤ w.number) → (x : Entry) × (slice_get h
        (i + d) ≡ Some x) → (w : GroupView) × (view_of (take (i + suc d) h) ≡ Some w) × (u.number ≤ w.number)
    next r (View a n m, at) =
        let succeeded = IsSomeAnd-at (view_of (take (i + d) h)) (λ v. IsSucceededBy o (take (i + d) h) v a n m) r.0 r.1
        (order.views (i + d) a n m (omega arith) at) in (
          record { age = a; number = n; members = members_of m },
          ap (λ j. view_of (take j h)) place
              ∙ (ap view_of (take-next h (i + d) (View a n m) at) ∙ view_of-View (take (i + d) h) a n m),
          omega (arith, r.2, succeeded.follows.next_number),
        )
    next r (Msg s j b, at) = (
      r.0,
      ap (λ j. view_of (take j h)) place
          ∙ (ap view_of (take-next h (i + d) (Msg s j b) at) ∙ (view_of-Msg (take (i + d) h) s j b ∙ r.1)),
      r.2,
    )

-- before a View behind the start the views have smaller numbers
pub number-before : (o : Opening) (sent : Sent) (h : List Entry) (i j a n m : ℕ) (u : GroupView)
    → InLooseOrder o sent h → length o.start < i
    → i ≤ j → slice_get h j ≡ Some (View a n m) → view_of (take i h) ≡ Some u → u.number < n
number-before o sent h i j a n m u order l less at e =
    let place : i + (j - i) ≡ j = omega arith in
    let r = number_after o sent h i (j - i) u order l
    (omega (arith, place, slice_get_within h j (View a n m) at)) e in
    let view : view_of (take j h) ≡ Some r.0 = ap (λ k. view_of (take k h)) (sym place) ∙ r.1 in
    let succeeded = IsSomeAnd-at (view_of (take j h)) (λ v. IsSucceededBy o (take j h) v a n m) r.0 view
    (order.views j a n m (omega (arith, l, less)) at) in
    omega (arith, r.2, succeeded.follows.next_number)

-- a log has one View of a number
pub one-view : (es : List Entry) (a n f g : ℕ) → ViewsRise 0 es → Contains es (View a n f) → Contains es (View a n g)
    → f ≡ g
one-view es a n f g rise c d =
    let s = read-in es (View a n f) c in
    let t = read-in es (View a n g) d in
    let place : s.0 ≡ t.0 = View-once es s.0 t.0 a n f g rise s.1 t.1 in
    let same : View a n f ≡ View a n g =
    same_Some (View a n f) (View a n g) (sym s.1 ∙ (ap (slice_get es) place ∙ t.1)) in
    cc

-- no View has a place
pub View_placed : (sent : Sent) (v : Option GroupView) (a n m p : ℕ) → place_of_entry sent v (View a n m) ≡ Some p → ⊥
View_placed sent None a n m p e = none-some p e
View_placed sent (Some v) a n m p e = none-some p e
