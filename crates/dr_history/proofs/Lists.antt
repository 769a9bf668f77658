-- Prefixes of lists, their elements by positions, and the least and the first over the members of a mask.
use Rattle.std.{specs.{List.{position, position_or_len}, Prelude.min}, proofs.Math.Seq.drop-append_seam}
use Rattle.std.proofs.Common.{◌≡◌, ap, sym, ◌∙◌, ℕ, List, Some, slice_get, ◌-◌, ◌≤◌, length, take, subst, ◌+◌, ◌<◌, arith, Bool, true, nat_lt, ◌++◌, get_or, length-append, [], ◌∷◌, append_assoc, ◌⊎◌, inl, inr, All, drop, take-append-drop, true≢false, refl, Option, None, option_map, option_and_then, suc, zero, false, fold, if◌then◌else◌, map, Contains, Decides, append-nil}
use Rattle.std.proofs.lemmas.List.{take-append-le, get_or_append_left, drop_at, nil_from_length, take_more}
use Rattle.std.proofs.lemmas.List.{Elements.Contains-append_left, Sums.{fails_before_first, passes_at_first}}
use Rattle.std.proofs.lemmas.Option.{slice_get_within, cond_some, same_Some, none-some, get_or_from_slice_get}
use Rattle.dr_entry.specs.declared.{end.SentItem.{SentItem, TheVariants.Null}, entry.Entry.TheVariants.{View, Msg}}
use Rattle.dr_entry.{specs.declared.entry.Entry.Entry, proofs.{Entries.held, ListFacts.{one_min, least_within}}}
use Rattle.dr_entry.proofs.ListPlaces.{slice_get-left, position_found, slice_get-seam, all_from_places, Contains-slice_get, slice_get-append}
use Rattle.dr_history.specs.{Agreement.SamePast, History.{IsPrefixOf, Sent}, Members.{has, members_below, members_of}}
use Rattle.dr_history.specs.{Order.{InOrder, IsInNoView, first_entries}, declared.opening.Opening.Opening}
use Rattle.dr_history.proofs.{Choices.min_below, Histories.IsFew}
use Rattle.dr_history.proofs.ViewLemmas.{view_of-View, view_of-Msg, ViewsRise, View-once}

-- a prefix has the same elements
pub slice_get-prefix : {X : Type 0} (xs ys : List X) (i : ℕ) (x : X) → IsPrefixOf xs ys
    → slice_get xs i ≡ Some x → slice_get ys i ≡ Some x
slice_get-prefix xs ys i x p e = ap (λ zs. slice_get zs i) (sym p.1)
    ∙ (slice_get-left xs p.0 i (slice_get_within xs i x e) ∙ e)

-- and the same first ones
pub take-prefix : {X : Type 0} (xs ys : List X) (n : ℕ) → IsPrefixOf xs ys → n ≤ length xs → take n ys ≡ take n xs
take-prefix xs ys n p l = ap (take n) (sym p.1) ∙ take-append-le n xs p.0 l

-- the first position at which a test passes stays the first
pub position-prefix : {X : Type 0} (p : X → Bool) (xs ys : List X) (k : ℕ) (d : X) → IsPrefixOf xs ys
    → position p xs ≡ Some k → position p ys ≡ Some k
position-prefix p xs ys k d pre e =
    let found = cond_some (nat_lt (position_or_len p xs) (length xs)) (position_or_len p xs) k e in
    let less : position_or_len p xs < length xs = grind (arith, found.0) in
    let within : k < length xs = omega (arith, less, found.1) in
    let passes : p (get_or xs k d)
    ≡ true = subst (λ j. p (get_or xs j d) ≡ true) found.1 (passes_at_first p xs d less) in
    subst (λ zs. position p zs ≡ Some k) pre.1
    (position_found p (xs ++ pre.0) k d (omega (arith, within, length-append xs pre.0))
    (λ j l. ap p (get_or_append_left xs pre.0 d j (omega (arith, l, within)))
    ∙ fails_before_first p xs j d (omega (arith, l, found.1)))
    (ap p (get_or_append_left xs pre.0 d k within) ∙ passes))

-- View 0 stands behind the start
pub first_at : (o : Opening) (sent : Sent) (h : List Entry) → InOrder o sent h
    → slice_get h (length o.start) ≡ Some (View o.age 0 o.members)
first_at o sent h order = ap (λ (es : List Entry). slice_get es (length o.start))
    (sym order.begins.1 ∙ append_assoc o.start (View o.age 0 o.members ∷ []) order.begins.0)
    ∙ slice_get-seam o.start (View o.age 0 o.members) order.begins.0

-- two entries at a place, where one list is a prefix of the other, are the same
pub same_at : (g h : List Entry) (i : ℕ) (x y : Entry) → IsPrefixOf g h ⊎ IsPrefixOf h g → slice_get g i ≡ Some x
    → slice_get h i ≡ Some y → x ≡ y
same_at g h i x y (inl p) in_g in_h = same_Some x y (sym (slice_get-prefix g h i x p in_g) ∙ in_h)
same_at g h i x y (inr p) in_g in_h = same_Some x y (sym in_g ∙ slice_get-prefix h g i y p in_h)

-- of the first ones too
pub all_below : {A : Type 0} (P : A → Type 0) (xs : List A) (n : ℕ)
    → ((i : ℕ) (x : A) → slice_get xs i ≡ Some x → P x) → All P (take n xs)
all_below P xs n each = all_from_places P (take n xs)
    (λ i x at. each i x (slice_get-prefix (take n xs) xs i x (drop n xs, take-append-drop n xs) at))

-- who is in no view one entry later is in none
pub free_before : (age : ℕ) (es : List Entry) (e : Entry) (s : ℕ) → IsInNoView age (es ++ e ∷ []) s
    → IsInNoView age es s
free_before age es e s free number members there = free number members (held es e (View age number members) there)

-- so it is in the first view
pub few_first : (o : Opening) → IsFew o (first_entries o)
few_first o = record {
  number = 0;
  mask = o.members;
  named = has o.members;
  view = view_of-View o.start o.age 0 o.members;
  holds = λ s there. there;
  met = λ s there free. true≢false (sym there ∙ free 0 o.members
      (Contains-slice_get (first_entries o) (length o.start) (View o.age 0 o.members)
      (slice_get-seam o.start (View o.age 0 o.members) [])));
  few = omega arith;
}

-- behind a message too
pub few_Msg : (o : Opening) (es : List Entry) (s j : ℕ) (b : List ℕ) → IsFew o es → IsFew o (es ++ Msg s j b ∷ [])
few_Msg o es s j b f = record {
  number = f.number;
  mask = f.mask;
  named = f.named;
  view = view_of-Msg es s j b ∙ f.view;
  holds = f.holds;
  met = λ n there free. f.met n there (free_before o.age es (Msg s j b) n free);
  few = f.few;
}

-- the place of the first message of an index stays
pub position-more : (r : Option ℕ) (f : ℕ → ℕ → ℕ) (test : SentItem → Bool) (xs ys : List SentItem) (p : ℕ)
    → IsPrefixOf xs ys → option_and_then (λ rank. option_map (f rank) (position test xs)) r ≡ Some p
    → option_and_then (λ rank. option_map (f rank) (position test ys)) r ≡ Some p
position-more None f test xs ys p pre e = absurd (none-some p e)
position-more (Some rank) f test xs ys p pre e = by (position test xs) refl e
  where
    by : (z : Option ℕ) → position test xs ≡ z → option_map (f rank) z ≡ Some p
        → option_map (f rank) (position test ys) ≡ Some p
    by None is g = absurd (none-some p g)
    by (Some k) is g = ap (option_map (f rank)) (position-prefix test xs ys k Null pre is) ∙ g

-- where the Views rise, a View that also stands in a front part has its past there
pub SamePast-prefix : (g h : List Entry) → ViewsRise 0 h → IsPrefixOf g h → SamePast g h
SamePast-prefix g h rise pre i j age number m n at_i at_j =
    let also : slice_get h i ≡ Some (View age number m) = slice_get-prefix g h i (View age number m) pre at_i in
    let place : i ≡ j = View-once h i j age number m n rise also at_j in
    let same : View age number m ≡ View age number n = same_Some (View age number m) (View age number n)
    (sym also ∙ (ap (slice_get h) place ∙ at_j)) in (
      cc,
      sym (take-prefix g h i pre (omega (arith, slice_get_within g i (View age number m) at_i)))
          ∙ ap (λ k. take k h) place,
    )

-- a front of a list is one of what it grows to
pub prefix_more : {A : Type 0} (xs ys zs : List A) → IsPrefixOf xs ys → IsPrefixOf xs (ys ++ zs)
prefix_more xs ys zs p = (p.0 ++ zs, sym (append_assoc xs p.0 zs) ∙ ap (λ l. l ++ zs) p.1)

-- the front of a list, one element longer
pub prefix_next : {A : Type 0} (xs ys : List A) → IsPrefixOf xs ys
    → IsPrefixOf (xs ++ take 1 (drop (length xs) ys)) ys
prefix_next xs ys p =
    let rest : drop (length xs) ys ≡ p.0 = ap (drop (length xs)) (sym p.1) ∙ drop-append_seam xs p.0 in (
      drop 1 p.0,
      ap (λ l. (xs ++ take 1 l) ++ drop 1 p.0) rest
          ∙ append_assoc xs (take 1 p.0) (drop 1 p.0) ∙ ap (λ l. xs ++ l) (take-append-drop 1 p.0) ∙ p.1,
    )

-- a front of a list is one of a longer front of what the list grows to
pub prefix_take : {A : Type 0} (d e : ℕ) (xs ys : List A) → d ≤ e → IsPrefixOf (take d xs) (take e (xs ++ ys))
prefix_take zero e xs ys l = (take e (xs ++ ys), refl)
prefix_take (suc d) e [] ys l = (take e ys, refl)
prefix_take (suc d) zero (x ∷ xs) ys l = absurd (omega arith)
prefix_take (suc d) (suc e) (x ∷ xs) ys l = let p = prefix_take d e xs ys (omega arith) in
    (p.0, ap (λ l. x ∷ l) p.1)

least_above : (f : ℕ → ℕ) (mask a d n : ℕ) → d ≤ a
    → ((i : ℕ) → has mask i ≡ true → d ≤ f i) → d ≤ fold min a (map f (members_below mask n))
unfolding members_below
least_above f mask a d zero l each = l
least_above f mask a d (suc n) l each = rw (one_min f a n (members_below mask n) (has mask n))
    (by (has mask n) refl (least_above f mask a d n l each))
  where
    by : (b : Bool) → has mask n ≡ b → d ≤ fold min a (map f (members_below mask n)) → d ≤ (if b then min
        (fold min a (map f (members_below mask n))) (f n) else fold min a (map f (members_below mask n)))
    by true e h = omega (arith, h, each n e)
    by false e h = h

-- the least over members is at most that of each
pub least_some : (f : ℕ → ℕ) (mask a i : ℕ) → i < 16 → has mask i ≡ true → fold min a (map f (members_of mask)) ≤ f i
unfolding members_of
least_some f mask a i l h = min_below f mask a i 16 l h

-- what is at most that of each member is at most the least
pub least_all : (f : ℕ → ℕ) (mask a d : ℕ) → d ≤ a
    → ((i : ℕ) → has mask i ≡ true → d ≤ f i) → d ≤ fold min a (map f (members_of mask))
unfolding members_of
least_all f mask a d l each = least_above f mask a d 16 l each

-- and the least is at most what it begins with
pub least_most : (f : ℕ → ℕ) (mask a : ℕ) → fold min a (map f (members_of mask)) ≤ a
least_most f mask a = least_within f (members_of mask) a

-- what is durable stays, as more is delivered and known to be durable
pub durable_front : (d e : ℕ) (xs ys : List Entry) → d ≤ e → IsPrefixOf xs ys → IsPrefixOf (take d xs) (take e ys)
durable_front d e xs ys l p =
    subst (λ (zs : List Entry). IsPrefixOf (take d xs) (take e zs)) p.1 (prefix_take d e xs p.0 l)

pub prefix-in : {A : Type 0} (xs ys : List A) (x : A) → IsPrefixOf xs ys → Contains xs x → Contains ys x
prefix-in xs ys x p c = subst (λ l. Contains l x) p.1 (Contains-append_left xs p.0 x c)

-- a prefix of two lists one behind the other is one of the first, or has all of it and a prefix of the second
pub prefix-split : {A : Type 0} (xs ys zs : List A) → IsPrefixOf xs (ys ++ zs)
    → IsPrefixOf xs ys ⊎ ((front : List A) × (xs ≡ ys ++ front) × IsPrefixOf front zs)
prefix-split [] ys zs p = inl (ys, refl)
prefix-split (x ∷ xs) [] zs p = inr (x ∷ xs, refl, p)
prefix-split {A} (x ∷ xs) (y ∷ ys) zs p = by (prefix-split xs ys zs (p.0, rest))
  where
    whole : x ∷ (xs ++ p.0) ≡ y ∷ (ys ++ zs)
    whole = p.1

    same : x ≡ y
    same = cc

    rest : xs ++ p.0 ≡ ys ++ zs
    rest = cc

    by : IsPrefixOf xs ys ⊎ ((front : List A) × (xs ≡ ys ++ front) × IsPrefixOf front zs)
        → IsPrefixOf (x ∷ xs) (y ∷ ys) ⊎ ((front : List A) × (x ∷ xs ≡ y ∷ (ys ++ front)) × IsPrefixOf front zs)
    by (inl q) = inl (q.0, ap (λ l. x ∷ l) q.1 ∙ ap (λ t. t ∷ ys) same)
    by (inr t) = inr (t.0, ap (λ l. x ∷ l) t.1 ∙ ap (λ z. z ∷ (ys ++ t.0)) same, t.2)

-- one element more at the end of a prefix
IsPrefixOf-push : {A : Type 0} (xs : List A) (y : A) (ys : List A)
    → IsPrefixOf xs ys → slice_get ys (length xs) ≡ Some y → IsPrefixOf (xs ++ y ∷ []) ys
IsPrefixOf-push {A} xs y ys p at =
    by p.0 p.1 (sym (slice_get-append xs p.0) ∙ (ap (λ (zs : List A). slice_get zs (length xs)) p.1 ∙ at))
  where
    by : (rest : List A) → xs ++ rest ≡ ys → slice_get rest 0 ≡ Some y → IsPrefixOf (xs ++ y ∷ []) ys
    by [] e at = absurd (none-some y at)
    by (z ∷ rest) e at = (
      rest,
      append_assoc xs (y ∷ []) rest ∙ (ap (λ (w : A). xs ++ (w ∷ rest)) (sym (same_Some z y at)) ∙ e),
    )

IsPrefixOf-parts : {A : Type 0} (xs : List A) (y : A) (ys : List A)
    → IsPrefixOf (xs ++ y ∷ []) ys → IsPrefixOf xs ys × (slice_get ys (length xs) ≡ Some y)
IsPrefixOf-parts {A} xs y ys p =
    let e : xs ++ (y ∷ p.0) ≡ ys = sym (append_assoc xs (y ∷ []) p.0) ∙ p.1 in (
      (y ∷ p.0, e),
      sym (ap (λ (zs : List A). slice_get zs (length xs)) e) ∙ slice_get-append xs (y ∷ p.0),
    )

-- where the next entry is the one that is wanted, the front decides
pub begins_decides : (start : List Entry) (first : Entry) (h : List Entry) (b : Bool)
    → slice_get h (length start) ≡ Some first → Decides b (IsPrefixOf start h)
    → Decides b (IsPrefixOf (start ++ first ∷ []) h)
begins_decides start first h b at decides = (
  λ t. IsPrefixOf-push start first h (decides.0 t) at,
  λ p. decides.1 (IsPrefixOf-parts start first h p).0,
)

-- a history behind the start it begins with
pub behind_start : (start h : List Entry) → IsPrefixOf start h → h ≡ start ++ drop (length start) h
behind_start start h is =
    sym is.1 ∙ ap (λ xs. start ++ xs) (sym (drop_at start is.0 (length start) refl) ∙ ap (drop (length start)) is.1)

-- lists that have the same elements wherever both have one
pub along : {A : Type 0} (g h : List A)
    → ((k : ℕ) (x y : A) → slice_get g k ≡ Some x → slice_get h k ≡ Some y → x ≡ y) → IsPrefixOf g h ⊎ IsPrefixOf h g
along [] h same = inl (h, refl)
along (x ∷ g) [] same = inr (x ∷ g, refl)
along {A} (x ∷ g) (y ∷ h) same = by (along g h (λ k a b at to. same (suc k) a b at to))
  where
    head : x ≡ y
    head = same 0 x y refl refl

    by : IsPrefixOf g h ⊎ IsPrefixOf h g → IsPrefixOf (x ∷ g) (y ∷ h) ⊎ IsPrefixOf (y ∷ h) (x ∷ g)
    by (inl p) = inl (p.0, ap (λ (z : A). z ∷ (g ++ p.0)) head ∙ ap (λ zs. y ∷ zs) p.1)
    by (inr p) = inr (p.0, ap (λ (z : A). z ∷ (h ++ p.0)) (sym head) ∙ ap (λ zs. x ∷ zs) p.1)

-- of two lists one of which begins the other, the one that isn't longer begins it
pub shorter_begins : {A : Type 0} (xs ys : List A) → IsPrefixOf xs ys ⊎ IsPrefixOf ys xs → length xs ≤ length ys
    → IsPrefixOf xs ys
shorter_begins xs ys (inl is) l = is
shorter_begins xs ys (inr is) l =
    let none : is.0 ≡ [] = nil_from_length is.0 (omega (arith, length-append ys is.0, ap length is.1, l)) in
    ([], append-nil xs ∙ sym is.1 ∙ ap (λ r. ys ++ r) none ∙ append-nil ys)

-- no history begins every other
pub empty_begins : (h g : List Entry) → h ≡ [] → IsPrefixOf h g
empty_begins h g none = (g, ap (λ x. x ++ g) none)

-- a list that has what it lacks of another is that one
pub filled : (es whole : List Entry) → IsPrefixOf es whole → es ++ drop (length es) whole ≡ whole
filled es whole part =
    ap (λ l. es ++ drop (length es) l) (sym part.1) ∙ ap (λ l. es ++ l) (drop_at es part.0 (length es) refl) ∙ part.1

-- of two lists, one of which goes on from the other and is no longer
pub no_longer : (xs ys : List Entry) → IsPrefixOf xs ys → length ys ≤ length xs → IsPrefixOf ys xs
no_longer xs ys p short =
    let none : p.0 ≡ [] = nil_from_length p.0 (omega (arith, short, ap length p.1, length-append xs p.0)) in
    ([], append-nil ys ∙ sym p.1 ∙ ap (λ r. xs ++ r) none ∙ append-nil xs)

pub prefix-trans : {A : Type 0} (xs ys zs : List A) → IsPrefixOf xs ys → IsPrefixOf ys zs → IsPrefixOf xs zs
prefix-trans xs ys zs p q = (p.0 ++ q.0, sym (append_assoc xs p.0 q.0) ∙ (ap (λ es. es ++ q.0) p.1 ∙ q.1))

-- a list is a front of itself
pub prefix_refl : {A : Type 0} (xs : List A) → IsPrefixOf xs xs
prefix_refl xs = ([], append-nil xs)

pub prefix_behind : (xs ys zs : List Entry) → IsPrefixOf (xs ++ ys) (xs ++ zs) → IsPrefixOf ys zs
prefix_behind xs ys zs p = (
  p.0,
  sym (drop-append_seam xs (ys ++ p.0)) ∙ ap (drop (length xs)) (sym (append_assoc xs ys p.0) ∙ p.1)
      ∙ drop-append_seam xs zs,
)

-- with the next entry of the history behind so many
pub entry_more : (history : List Entry) (n : ℕ) (e : Entry) → slice_get history n ≡ Some e
    → IsPrefixOf (take n history ++ e ∷ []) history
entry_more history n e due = (
  drop (n + 1) history,
  ap (λ (l : List Entry). l ++ drop (n + 1) history) front ∙ take-append-drop (n + 1) history,
)
  where
    front : take n history ++ e ∷ [] ≡ take (n + 1) history
    front = ap (λ x. take n history ++ x ∷ []) (sym (get_or_from_slice_get history n e e due))
        ∙ sym (take_more history n e (slice_get_within history n e due))
