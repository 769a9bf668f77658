-- An age that starts with the longest of the logs that the members of another leave.
use Rattle.std.proofs.Common.{◌≡◌, refl, ap, sym, ◌∙◌, ◌+◌, ◌-◌, ◌≤◌, List, ◌++◌, length, take, drop, take_at, arith, length-append, inl, inr, subst, [], ◌∷◌, ◌⊎◌, ℕ, Some, slice_get, length-take, ◌<◌, append-nil, ⊎_elim}
use Rattle.std.proofs.lemmas.{Bool.{cases_lt, cases_eq}, List.{take-append-drop, take_all}}
use Rattle.std.proofs.lemmas.Option.{slice_get_within, same_Some}
use Rattle.dr_entry.specs.declared.entry.Entry.{Entry, TheVariants.View}
use Rattle.dr_entry.proofs.ListPlaces.{slice_get-seam, take-next}
use Rattle.dr_history.specs.{Agreement.{Account, Accounts, Agreed}, History.{IsPrefixOf, GroupView, view_of}}
use Rattle.dr_history.{specs.Members.members_of, proofs.ViewLemmas.{view_of-View, ViewsRise-standing, view-after}}
use Rattle.dr_history.specs.{Order.first_entries, Soundness.{IsPresentIn, Sound}, declared.opening.Opening.Opening}
use Rattle.dr_history.specs.Restarting.{IsLeftBy, AreLeftBy, IsLongest, Kept, AreAlong, AreAllAlong}
use Rattle.dr_history.proofs.{Lists.{take-prefix, slice_get-prefix, prefix-trans}, Restarts.turned}

-- of two prefixes of a list the shorter one is a prefix of the other
pub prefix_beside : {X : Type 0} (xs ys zs : List X) → IsPrefixOf xs zs → IsPrefixOf ys zs
    → length xs ≤ length ys → IsPrefixOf xs ys
prefix_beside xs ys zs p q l =
    let front : take (length xs) zs ≡ xs = ap (take (length xs)) (sym p.1) ∙ take_at xs p.0 (length xs) refl in
    let same : xs ≡ take (length xs) ys = sym front ∙ take-prefix ys zs (length xs) q l in
    (drop (length xs) ys, ap (λ t. t ++ drop (length xs) ys) same ∙ take-append-drop (length xs) ys)

pub prefix_shorter : {X : Type 0} (xs ys : List X) → IsPrefixOf xs ys → length xs ≤ length ys
prefix_shorter xs ys p = omega (arith, ap length p.1, length-append xs p.0)

-- a log that is left is a part of its member's history, and has all that the member tells
pub left_part : (a : Account) (log : List Entry) → IsPrefixOf a.log a.history → IsLeftBy a log
    → IsPrefixOf log a.history
left_part a log told (inl is) = subst (λ l. IsPrefixOf l a.history) (sym is) told
left_part a log told (inr (inl more)) = more.2
left_part a log told (inr (inr whole)) = ([], append-nil log ∙ whole)

left_long : (a : Account) (log : List Entry) → IsPrefixOf a.log a.history → IsLeftBy a log
    → length a.log ≤ length log
left_long a log told (inl is) = omega (arith, ap length is)
left_long a log told (inr (inl more)) = omega (arith, ap length more.1, length-append a.log (more.0 ∷ []))
left_long a log told (inr (inr whole)) = omega (arith, ap length whole, prefix_shorter a.log a.history told)

-- what a member knows to be durable is the front of a longest log
durable_kept : (o : Opening) (accounts : Accounts) (lists : List (List Entry)) (start : List Entry)
    (i : ℕ) → Agreed o accounts → AreLeftBy o accounts lists → IsLongest lists start → IsPresentIn o i
    → IsPrefixOf (take (accounts i).durable (accounts i).history) start
durable_kept o accounts lists start i agreed left longest present = by (agreed.prefix i longest.place present here.0)
  where
    here : IsPresentIn o longest.place × IsLeftBy (accounts longest.place) start
    here = left.each longest.place start longest.one

    mine : (l : List Entry) × (slice_get lists i ≡ Some l)
    mine = left.all i present

    h : List Entry
    h = (accounts i).history

    d : ℕ
    d = (accounts i).durable

    delivered : IsPrefixOf start (accounts longest.place).history
    delivered = left_part (accounts longest.place) start (agreed.logged longest.place here.0) here.1

    front : IsPrefixOf (take d h) h
    front = (drop d h, take-append-drop d h)

    long : length (take d h) ≤ length start
    long = omega (
      arith,
      length-take d h,
      (agreed.durable i present).own,
      left_long (accounts i) mine.0 (agreed.logged i present) (left.each i mine.0 mine.1).1,
      longest.longest i mine.0 mine.1,
    )

    by : IsPrefixOf h (accounts longest.place).history ⊎ IsPrefixOf (accounts longest.place).history h
        → IsPrefixOf (take d h) start
    by (inl p) = prefix_beside (take d h) start (accounts longest.place).history
        (prefix-trans (take d h) h (accounts longest.place).history front p) delivered long
    by (inr p) = prefix_beside (take d h) start h front
        (prefix-trans start (accounts longest.place).history h delivered p) long

-- so the age keeps it
pub longest_keeps : (o next : Opening) (accounts : Accounts) (lists : List (List Entry)) → Agreed o accounts
    → AreLeftBy o accounts lists → IsLongest lists next.start → o.age < next.age → Kept o accounts next
longest_keeps o next accounts lists agreed left longest later =
    let here = left.each longest.place next.start longest.one in
    record {
      later = later;
      delivered = (
        longest.place,
        here.0,
        left_part (accounts longest.place) next.start (agreed.logged longest.place here.0) here.1,
      );
      durable = λ i present. durable_kept o accounts lists next.start i agreed left longest present;
    }

pub sound_later : (o next : Opening) → Sound next → IsPrefixOf (first_entries o) next.start → o.age < next.age
sound_later o next sound begins =
    let n = length o.start in
    let first = View o.age 0 o.members in
    let at : slice_get next.start n ≡ Some first = slice_get-prefix (first_entries o) next.start n first begins
    (slice_get-seam o.start first []) in
    let within = slice_get_within next.start n first at in
    let view : GroupView = record { age = o.age; number = 0; members = members_of o.members } in
    let here : view_of (take (n + 1) next.start) ≡ Some view =
    ap view_of (take-next next.start n first at) ∙ view_of-View (take n next.start) o.age 0 o.members in
    let d = length next.start - (n + 1) in
    let end : n + 1 + d ≡ length next.start = omega (arith, within) in
    let r = view-after next.start 0 (n + 1) d view (ViewsRise-standing next next.start sound.entries) (omega arith)
    (omega (arith, end)) here in
    let last : view_of next.start ≡ Some r.0 = sym (ap view_of
    (ap (λ k. take k next.start) end ∙ take_all (length next.start) next.start (omega arith))) ∙ r.1 in
    let come = sound.later r.0 last in by o.age r.0.age next.age 0 r.0.number r.2 come
  where
    by : (a b c n m : ℕ) → (a < b) ⊎ ((a ≡ b) × (n ≤ m)) → b < c → a < c
    by a b c n m h l = grind arith

-- a list that is along another, and no longer, is its front
pub front_of : (x l : List Entry) → AreAlong x l → length x ≤ length l → IsPrefixOf x l
front_of x l (inl p) short = p
front_of x l (inr q) short = prefix_beside x l x ([], append-nil x) q short

-- two that are along a list that is longer than both are along one another
pub along_by_longest : (x y l : List Entry) → AreAlong x l → AreAlong y l → length x ≤ length l
    → length y ≤ length l → AreAlong x y
along_by_longest x y l p q short shorter = ⊎_elim (λ (k : length x < length y). inl
    (prefix_beside x y l (front_of x l p short) (front_of y l q shorter) (omega (arith, k))))
    (λ (k : length y ≤ length x). inr (prefix_beside y x l (front_of y l q shorter) (front_of x l p short) k))
    (cases_lt (length x) (length y))

-- of lists that are all along each is a front of the longest
pub front_of_longest : (lists : List (List Entry)) (longest es : List Entry) (m : ℕ) → AreAllAlong lists
    → IsLongest lists longest → slice_get lists m ≡ Some es → IsPrefixOf es longest
front_of_longest lists longest es m along long at = ⊎_elim
    (λ (l : m < long.place). front_of es longest (along m long.place es longest l at long.one) (long.longest m es at))
    (λ (g : long.place ≤ m). elim (cases_eq m long.place) [
      | inl same ↦ front_of es longest (inl ([], append-nil es ∙ same_there same)) (long.longest m es at)
      | inr other ↦ front_of es longest (turned longest es
          (along long.place m longest es (omega (arith, g, other)) long.one at)) (long.longest m es at)
    ]) (cases_lt m long.place)
  where
    same_there : m ≡ long.place → es ≡ longest
    same_there same = same_Some es longest (sym at ∙ ap (slice_get lists) same ∙ long.one)

pub both_ways : {X : Type 0} (xs ys : List X) → IsPrefixOf xs ys → IsPrefixOf ys xs → xs ≡ ys
both_ways {X} xs ys p q =
    let none : length p.0 ≡ 0 = omega (arith, prefix_shorter ys xs q, ap length p.1, length-append xs p.0) in
    by p.0 p.1 none
  where
    by : (rest : List X) → xs ++ rest ≡ ys → length rest ≡ 0 → xs ≡ ys
    by [] e none = sym (append-nil xs) ∙ e
    by (x ∷ rest) e none = absurd (omega (arith, none))

-- first parts of a list
pub both_along : (xs ys zs : List Entry) → IsPrefixOf xs zs → IsPrefixOf ys zs → AreAlong xs ys
both_along xs ys zs p q = by (ordered (length xs) (length ys))
  where
    ordered : (m n : ℕ) → (m ≤ n) ⊎ (n ≤ m)
    ordered m n = grind arith

    by : (length xs ≤ length ys) ⊎ (length ys ≤ length xs) → AreAlong xs ys
    by (inl l) = inl (prefix_beside xs ys zs p q l)
    by (inr l) = inr (prefix_beside ys xs zs q p l)

-- and of two lists one of which is a prefix of the other
pub parts_along : (xs ys g h : List Entry) → IsPrefixOf xs g → IsPrefixOf ys h → AreAlong g h → AreAlong xs ys
parts_along xs ys g h p q (inl along) = both_along xs ys h (prefix-trans xs g h p along) q
parts_along xs ys g h p q (inr along) = both_along xs ys g p (prefix-trans ys h g q along)

-- first ones of a list are first ones of more of them
pub take-less : {A : Type 0} (d e : ℕ) (xs : List A) → d ≤ e → IsPrefixOf (take d xs) (take e xs)
take-less d e xs l = prefix_beside (take d xs) (take e xs) xs (drop d xs, take-append-drop d xs)
    (drop e xs, take-append-drop e xs) (omega (arith, l, length-take d xs, length-take e xs))
