-- The members of a mask, which are different numbers, so each has one rank; and those with a number below a
-- bound.
use Rattle.std.specs.List.{range_with_len, position_or_len}
use Rattle.std.proofs.Common.{◌≡◌, ℕ, zero, suc, ◌+◌, ◌≤◌, Bool, true, false, [], ◌∷◌, ◌++◌, length, arith, add-one, length-append, refl, if◌then◌else◌, ap, ◌∙◌, ◌-◌, append-nil, ◌<◌, sym, List, map, set, take, ap₂, ◌⊎◌, inl, inr, Some, slice_get, Contains, subst, ◌^◌, get_or, All, ◌==◌, drop, ◌||◌, true≢false, take_at, ◌≢◌}
use Rattle.std.proofs.lemmas.{Bool.cases_lt, Nat.Bits.{bit_at_ones, bit_at_ones_above, bit_at_above}}
use Rattle.std.proofs.lemmas.{Fmt.decimal_injective, List.{map-append, take_more_set, length_push, take_all}}
use Rattle.std.proofs.lemmas.List.Elements.{Contains-append_left, Contains-append_right, Contains-get_or, All-head, All-tail}
use Rattle.std.proofs.lemmas.Option.{none-some, slice_get-get_or, same_Some}
use Rattle.dr_entry.{specs.declared.entry.Entry.{Entry, TheVariants.{View, Msg}}, proofs.Bits.joined_none}
use Rattle.dr_entry.proofs.{ListFacts.{AreDistinct, count_more, number_first, joined}, ListParts.in-nothing}
use Rattle.dr_entry.proofs.ListPlaces.{slice_get-push_cases, AreDistinct-push, Contains-slice_get, slice_get-seam, slice_get-some, take-next}
use Rattle.dr_entry.proofs.{NumberFacts.total, OptionFacts.{IsSomeAnd-at, total_few}}
use Rattle.dr_history.specs.{History.{Sent, view_of, GroupView}, declared.opening.Opening.Opening}
use Rattle.dr_history.{specs.Members.{has, members_below, members_of}, proofs.Lists.{free_before, few_first, few_Msg}}
use Rattle.dr_history.{specs.Order.{IsInNoView, IsSucceededBy, MayJoin, InOrder, first_entries}, proofs.Bits.has_zero}
use Rattle.dr_history.proofs.{Histories.IsFew, Masks.{same_masks, total_rises}, ViewLemmas.view_of-View}

-- the members below n + 1 are those below n, and n where the mask has it
pub members_below_more : (mask n : ℕ) → members_below mask (n + 1) ≡ members_below mask n
    ++ (if has mask n then n ∷ [] else [])
unfolding members_below
members_below_more mask n = rw (add-one n) refl

-- there are at most n members below n
pub length_members_below : (mask n : ℕ) → length (members_below mask n) ≤ n
unfolding members_below
length_members_below mask zero = omega arith
length_members_below mask (suc n) = by (has mask n) (length_members_below mask n)
  where
    by : (b : Bool) → length (members_below mask n) ≤ n
        → length (members_below mask n ++ (if b then n ∷ [] else [])) ≤ suc n
    by true h = rw (length-append (members_below mask n) (n ∷ [])) (omega arith)
    by false h = rw (length-append (members_below mask n) []) (omega arith)

-- a member is one more, and another number none
pub members_with : (m n : ℕ) → has m n ≡ true → members_below m (n + 1) ≡ members_below m n ++ n ∷ []
members_with m n here = members_below_more m n
    ∙ ap (λ (b : Bool). members_below m n ++ (if b then n ∷ [] else [])) here

pub members_without : (m n : ℕ) → has m n ≡ false → members_below m (n + 1) ≡ members_below m n
members_without m n missing = members_below_more m n
    ∙ ap (λ (b : Bool). members_below m n ++ (if b then n ∷ [] else [])) missing ∙ append-nil (members_below m n)

-- where all members are below a number, those below it are all
members_past : (m n d : ℕ) → ((i : ℕ) → has m i ≡ true → i < n) → members_below m (n + d) ≡ members_below m n
members_past m n zero low = ap (members_below m) (omega arith)
members_past m n (suc d) low = ap (members_below m) next ∙ by (has m (n + d)) refl ∙ members_past m n d low
  where
    next : n + suc d ≡ n + d + 1
    next = omega arith

    by : (b : Bool) → has m (n + d) ≡ b → members_below m (n + d + 1) ≡ members_below m (n + d)
    by true here = absurd (omega (arith, low (n + d) here))
    by false missing = members_without m (n + d) missing

pub members_whole : (m n : ℕ) → ((i : ℕ) → has m i ≡ true → i < n) → n ≤ 16 → members_below m n ≡ members_of m
unfolding members_of
members_whole m n low few =
    let far : n + (16 - n) ≡ 16 = omega arith in sym (members_past m n (16 - n) low) ∙ ap (members_below m) far

-- the words of the members below the next number: one more, behind those that are there
pub word_more : (f : ℕ → ℕ) (into : List ℕ) (m count n w : ℕ) → has m n ≡ true → count < length into
    → take count into ≡ map f (members_below m n) → w ≡ f n
    → take (count + 1) (set into count w) ≡ map f (members_below m (n + 1))
word_more f into m count n w here room so is = take_more_set into count w room ∙ ap₂ (λ (xs : List ℕ) (x : ℕ). xs
    ++ x ∷ []) so is ∙ sym (ap (map f) (members_with m n here) ∙ map-append f (members_below m n) (n ∷ []))

pub members_count : (m n : ℕ) → has m n ≡ true → length (members_below m (n + 1)) ≡ length (members_below m n) + 1
members_count m n here = ap length (members_with m n here) ∙ length_push (members_below m n) n

-- there are at most 16 members
pub few_members : (mask : ℕ) → length (members_of mask) ≤ 16
unfolding members_of
few_members mask = length_members_below mask 16

-- the members below a number are below it
members_below-lt : (mask n i x : ℕ) → slice_get (members_below mask n) i ≡ Some x → x < n
unfolding members_below
members_below-lt mask zero i x e = absurd (none-some x e)
members_below-lt mask (suc n) i x e = by (has mask n) (members_below-lt mask n i x) e
  where
    by : (b : Bool) → (slice_get (members_below mask n) i ≡ Some x → x < n)
        → slice_get (members_below mask n ++ (if b then n ∷ [] else [])) i ≡ Some x → x < suc n
    by true below e = last (slice_get-push_cases (members_below mask n) n x i e)
      where
        last : ((i < length (members_below mask n)) × (slice_get (members_below mask n) i ≡ Some x))
            ⊎ ((i ≡ length (members_below mask n)) × (n ≡ x)) → x < suc n
        last (inl r) = omega (arith, below r.1)
        last (inr r) = omega (arith, r.1)
    by false below e = omega (arith, below (ap (λ xs. slice_get xs i) (sym (append-nil (members_below mask n))) ∙ e))

-- whoever is a member of a mask is below 16
pub members_of-lt : (mask s : ℕ) → Contains (members_of mask) s → s < 16
unfolding members_of
members_of-lt mask s member = members_below-lt mask 16 member.0 s
    (slice_get-get_or (members_below mask 16) member.0 s member.1 ∙ ap Some member.2)

members_below-distinct : (mask n : ℕ) → AreDistinct (members_below mask n)
unfolding members_below
members_below-distinct mask zero = λ i j x e f. absurd (none-some x e)
members_below-distinct mask (suc n) = by (has mask n) (members_below-distinct mask n)
  where
    by : (b : Bool) → AreDistinct (members_below mask n)
        → AreDistinct (members_below mask n ++ (if b then n ∷ [] else []))
    by true distinct = AreDistinct-push (members_below mask n) n distinct
        (λ i e. omega (arith, members_below-lt mask n i n e))
    by false distinct = subst AreDistinct (sym (append-nil (members_below mask n))) distinct

-- the members of a mask
pub members_of-distinct : (mask : ℕ) → AreDistinct (members_of mask)
unfolding members_of
members_of-distinct mask = members_below-distinct mask 16

-- whoever stands in the list of members is one
below-has : (mask n i x : ℕ) → slice_get (members_below mask n) i ≡ Some x → has mask x ≡ true
unfolding members_below
below-has mask zero i x e = absurd (none-some x e)
below-has mask (suc n) i x e = by (has mask n) refl (below-has mask n i x) e
  where
    by : (b : Bool) → has mask n ≡ b → (slice_get (members_below mask n) i ≡ Some x → has mask x ≡ true)
        → slice_get (members_below mask n ++ (if b then n ∷ [] else [])) i ≡ Some x → has mask x ≡ true
    by true h rest at = last (slice_get-push_cases (members_below mask n) n x i at)
      where
        last : ((i < length (members_below mask n)) × (slice_get (members_below mask n) i ≡ Some x))
            ⊎ ((i ≡ length (members_below mask n)) × (n ≡ x)) → has mask x ≡ true
        last (inl r) = rest r.1
        last (inr r) = subst (λ k. has mask k ≡ true) r.1 h
    by false h rest at = rest (ap (λ xs. slice_get xs i) (sym (append-nil (members_below mask n))) ∙ at)

-- and so in the list of all members of a mask
pub member-has : (mask i x : ℕ) → slice_get (members_of mask) i ≡ Some x → has mask x ≡ true
unfolding members_of
member-has mask i x e = below-has mask 16 i x e

-- whoever is in a mask stands in the list of its members
below-contains : (mask n x : ℕ) → has mask x ≡ true → x < n → Contains (members_below mask n) x
unfolding members_below
below-contains mask zero x h l = absurd (omega arith)
below-contains mask (suc n) x h l = by (cases l) (below-contains mask n x h)
  where
    cases : x < suc n → (x < n) ⊎ (x ≡ n)
    cases less = grind arith

    alone : has mask n ≡ true → Contains (if has mask n then n ∷ [] else []) n
    alone e = rw e (0, omega arith, refl)

    by : (x < n) ⊎ (x ≡ n) → (x < n → Contains (members_below mask n) x)
        → Contains (members_below mask n ++ (if has mask n then n ∷ [] else [])) x
    by (inl less) rest = Contains-append_left (members_below mask n) (if has mask n then n ∷ [] else []) x (rest less)
    by (inr same) rest = Contains-append_right (members_below mask n) (if has mask n then n ∷ [] else []) x
        (subst (λ k. Contains (if has mask n then n ∷ [] else []) k) (sym same)
        (alone (subst (λ k. has mask k ≡ true) same h)))

-- a number below 16 that the mask has is among the mask's members
pub has-member : (mask x : ℕ) → has mask x ≡ true → x < 16 → Contains (members_of mask) x
unfolding members_of
has-member mask x h l = below-contains mask 16 x h l

-- the members below k of the mask of the numbers below n are the numbers below both
below_ones : (n k : ℕ) → k ≤ n → members_below (2 ^ n - 1) k ≡ range_with_len 0 k
unfolding members_below
below_ones n zero l = refl
below_ones n (suc k) l =
    let one : k + 1 ≡ suc k = omega arith in
    rw (bit_at_ones n k l, below_ones n k (omega arith)) (sym (count_more k) ∙ ap (range_with_len 0) one)

above_ones : (n k : ℕ) → n ≤ k → members_below (2 ^ n - 1) k ≡ range_with_len 0 n
unfolding members_below
above_ones n zero l = let e : 0 ≡ n = omega arith in ap (range_with_len 0) e
above_ones n (suc k) l = by (last n k l) (above_ones n k)
  where
    last : (n k : ℕ) → n ≤ suc k → (n ≡ suc k) ⊎ (n ≤ k)
    last n k l = grind arith

    by : (n ≡ suc k) ⊎ (n ≤ k) → (n ≤ k → members_below (2 ^ n - 1) k ≡ range_with_len 0 n)
        → members_below (2 ^ n - 1) (suc k) ≡ range_with_len 0 n
    by (inl e) rest = below_ones n (suc k) (omega arith) ∙ ap (range_with_len 0) (sym e)
    by (inr h) rest = rw (bit_at_ones_above n k h) (append-nil (members_below (2 ^ n - 1) k) ∙ rest h)

-- the members of the mask of the numbers below n, at most 16
pub members_of-ones : (n : ℕ) → n ≤ 16 → members_of (2 ^ n - 1) ≡ range_with_len 0 n
unfolding members_of
members_of-ones n l = above_ones n 16 l

pub low : (mask : ℕ) → All (λ m. m < 16) (members_of mask)
low mask k d within = members_of-lt mask (get_or (members_of mask) k d) (Contains-get_or (members_of mask) k d within)

-- numbers with commas between them
pub same_joined : (xs ys : List ℕ) → All (λ m. m < 16) xs → All (λ m. m < 16) ys → joined xs ≡ joined ys → xs ≡ ys
same_joined [] ys xs_low low same = sym (joined_none ys low (sym (ap length same)))
same_joined (x ∷ xs) [] low ys_low same = joined_none (x ∷ xs) low (ap length same)
same_joined (x ∷ xs) (y ∷ ys) x_low y_low same =
    let lx = All-head (λ m. m < 16) x xs x_low in
    let ly = All-head (λ m. m < 16) y ys y_low in
    let one = number_first x xs lx in
    let other = number_first y ys ly in
    let head : x ≡ y = decimal_injective x y (omega (arith, lx)) (omega (arith, ly))
    (sym one.0 ∙ (ap (λ t. take (position_or_len (λ b. b == 44) t) t) same ∙ other.0)) in
    let tail : xs ≡ ys = same_joined xs ys (All-tail (λ m. m < 16) x xs x_low) (All-tail (λ m. m < 16) y ys y_low)
    (sym one.1 ∙ (ap (λ t. drop (position_or_len (λ b. b == 44) t + 1) t) same ∙ other.1)) in
    ap (λ (n : ℕ). n ∷ xs) head ∙ ap (λ ns. y ∷ ns) tail

-- whoever is among the members of a mask is in it
pub in_mask : (mask s : ℕ) → Contains (members_of mask) s → has mask s ≡ true
in_mask mask s named =
    member-has mask named.0 s (slice_get-get_or (members_of mask) named.0 s named.1 ∙ ap Some named.2)

-- what holds of whoever is in a mask holds of its members
pub all_members : (mask : ℕ) (P : ℕ → Type 0) → ((s : ℕ) → has mask s ≡ true → P s) → All P (members_of mask)
all_members mask P each k d within =
    let s = get_or (members_of mask) k d in
    each s (member-has mask k s (slice_get-get_or (members_of mask) k d within))

-- and behind a View that may succeed
few_View : (o : Opening) (es : List Entry) (a k m : ℕ) (f : IsFew o es)
    → IsSucceededBy o es (record { age = o.age; number = f.number; members = members_of f.mask }) a k m
    → IsFew o (es ++ View a k m ∷ [])
unfolding members_of
few_View o es a k m f is = record {
  number = k;
  mask = m;
  named = λ s. has m s || f.named s;
  view = view_of-View es a k m
      ∙ ap (λ (n : ℕ). Some (record { age = n; number = k; members = members_of m })) is.follows.same_age;
  holds = λ s there. ap (λ (b : Bool). b || f.named s) there;
  met = λ s. met s (has m s) refl;
  few = few (total_rises f.named f.mask m f.holds comes 16).1;
}
  where
    comes : (s : ℕ) → has m s ≡ true → (has f.mask s ≡ true) ⊎ (f.named s ≡ false)
    comes s there = by (is.newcomers s there)
      where
        new : (b : Bool) → f.named s ≡ b → IsInNoView o.age es s → (has f.mask s ≡ true) ⊎ (f.named s ≡ false)
        new true named free = absurd (f.met s named free)
        new false named free = inr named

        by : Contains (members_of f.mask) s ⊎ MayJoin o es s → (has f.mask s ≡ true) ⊎ (f.named s ≡ false)
        by (inl old) = inl (member-has f.mask old.0 s
            (slice_get-get_or (members_of f.mask) old.0 s old.1 ∙ ap Some old.2))
        by (inr may) = new (f.named s) refl may.1

    met : (s : ℕ) (b : Bool) → has m s ≡ b → (b || f.named s) ≡ true → IsInNoView o.age (es ++ View a k m ∷ []) s → ⊥
    met s true there either free =
        true≢false (sym there ∙ free k m (Contains-slice_get (es ++ View a k m ∷ []) (length es) (View o.age k m)
        (slice_get-seam es (View a k m) [] ∙ ap (λ (n : ℕ). Some (View n k m)) is.follows.same_age)))
    met s false there either free = f.met s either (free_before o.age es (View a k m) s free)

    few : (members_of m ≡ members_of f.mask) ⊎ (total f.named (has f.mask) 16 < total (λ s. has m s || f.named s)
        (has m) 16) → k ≤ total (λ s. has m s || f.named s) (has m) 16
    few (inl same) = absurd (is.follows.other same)
    few (inr less) = omega (arith, less, f.few, is.follows.next_number)

-- so it is behind the start of a history in order
few_behind : (o : Opening) (sent : Sent) (h : List Entry) (d : ℕ) → InOrder o sent h
    → length o.start + 1 + d ≤ length h → IsFew o (take (length o.start + 1 + d) h)
few_behind o sent h zero order l = subst (IsFew o) (sym first) (few_first o)
  where
    first : take (length o.start + 1 + 0) h ≡ first_entries o
    first = ap (λ n. take n h) (same (length o.start) (length (first_entries o))
        (length-append o.start (View o.age 0 o.members ∷ []))) ∙ ap (take (length (first_entries o)))
        (sym order.begins.1) ∙ take_at (first_entries o) order.begins.0 (length (first_entries o)) refl
      where
        same : (n m : ℕ) → m ≡ n + 1 → n + 1 + 0 ≡ m
        same n m e = omega (arith, e)
few_behind o sent h (suc d) order l = next (few_behind o sent h d order (omega (arith, l)))
    (slice_get-some h (length o.start + 1 + d) (omega (arith, l)))
  where
    n : ℕ
    n = length o.start + 1 + d

    place : length o.start + 1 + suc d ≡ length o.start + 1 + d + 1
    place = omega arith

    more : (e : Entry) → slice_get h (length o.start + 1 + d) ≡ Some e
        → take (length o.start + 1 + d) h ++ e ∷ [] ≡ take (length o.start + 1 + suc d) h
    more e at = sym (ap (λ (j : ℕ). take j h) place ∙ take-next h n e at)

    next : IsFew o (take (length o.start + 1 + d) h) → (e : Entry) × (slice_get h (length o.start + 1 + d) ≡ Some e)
        → IsFew o (take (length o.start + 1 + suc d) h)
    next f (View a k m, at) = subst (IsFew o) (more (View a k m) at)
        (few_View o (take n h) a k m f (IsSomeAnd-at (view_of (take n h)) (λ v. IsSucceededBy o (take n h) v a k m)
        (record { age = o.age; number = f.number; members = members_of f.mask }) f.view
        (order.views n a k m (omega arith) at)))
    next f (Msg s j b, at) = subst (IsFew o) (more (Msg s j b) at) (few_Msg o (take n h) s j b f)

-- so the last view of a history in order has a number of at most 32
pub low_number : (o : Opening) (sent : Sent) (h : List Entry) (v : GroupView) → InOrder o sent h
    → view_of h ≡ Some v → v.number ≤ 32
low_number o sent h v order is = subst (λ (u : GroupView). u.number ≤ 32)
    (same_Some (record { age = o.age; number = f.number; members = members_of f.mask }) v
    (sym f.view ∙ (ap view_of all ∙ is))) low
  where
    within : length o.start + 1 ≤ length h
    within = omega (
      arith,
      ap length order.begins.1,
      length-append (first_entries o) order.begins.0,
      length-append o.start (View o.age 0 o.members ∷ []),
    )

    place : length o.start + 1 + (length h - (length o.start + 1)) ≡ length h
    place = omega (arith, within)

    f : IsFew o (take (length o.start + 1 + (length h - (length o.start + 1))) h)
    f = few_behind o sent h (length h - (length o.start + 1)) order (omega (arith, place))

    low : f.number ≤ 32
    low = omega (arith, f.few, total_few f.named (has f.mask) 16)

    all : take (length o.start + 1 + (length h - (length o.start + 1))) h ≡ h
    all = ap (λ j. take j h) place ∙ take_all (length h) h (omega arith)

-- of a mask of 16 bits each member is in the list
in-list : (mask s : ℕ) → mask < 2 ^ 16 → has mask s ≡ true → Contains (members_of mask) s
in-list mask s small h = has-member mask s h (by (cases_lt s 16))
  where
    by : (s < 16) ⊎ (16 ≤ s) → s < 16
    by (inl l) = l
    by (inr l) = absurd (grind (arith, h, bit_at_above mask 16 s small l))

-- one that isn't 0 has a member
pub some-members : (mask : ℕ) → mask < 2 ^ 16 → mask ≢ 0 → 0 < length (members_of mask)
some-members mask small some = by (members_of mask) refl
  where
    none : members_of mask ≡ [] → (i : ℕ) (b : Bool) → has mask i ≡ b → has mask i ≡ has 0 i
    none e i true t = absurd (in-nothing i (subst (λ ms. Contains ms i) e (in-list mask i small t)))
    none e i false t = t ∙ sym (has_zero i)

    by : (ms : List ℕ) → members_of mask ≡ ms → 0 < length (members_of mask)
    by [] e = absurd (some (same_masks mask 0 (λ i. none e i (has mask i) refl)))
    by (m ∷ ms) e = omega (arith, ap length e)

-- somebody, and all of them such members
pub record AreSomeOf (IsSuch : ℕ → Type 0) (mask : ℕ) : Type 0 where
  pub small : mask < 2 ^ 16
  pub some : mask ≢ 0
  pub within : (m : ℕ) → has mask m ≡ true → IsSuch m
