-- Masks of the members that pass a test.
use Rattle.std.specs.Int.{bit_at, trailing_zeros}
use Rattle.std.specs.{List.{Contains, Any, count_by}, Prelude.{IsSome, MatchOption, min, nat_le}}
use Rattle.std.proofs.Common.{◌≡◌, ◌≢◌, ℕ, zero, suc, ◌+◌, ◌-◌, ◌*◌, ◌/◌, ◌%◌, ◌^◌, ◌<◌, ◌≤◌, ◌==◌, ◌&&◌, ◌||◌, not, nat_lt, Bool, true, false, sym, ap, ◌∙◌, ◌⊎◌, inl, inr, if◌then◌else◌, w16, bit_and, bit_or, bit_xor, arith, List, [], ◌∷◌, slice_get, Some, refl, All, map, le_trans, subst, IsTrue, ◌↔◌, length, Option, None, unwrap_or, Decides, slice_index, filter, length-append}
use Rattle.std.proofs.lemmas.Bool.{cases_eq, cases_lt, and_from, and_parts, cases_Bool, eq-eqb, eqb-true, le-leb, leb-true}
use Rattle.std.proofs.lemmas.{Bool.Decides.nat_tests, List.Elements.{All-head, All-tail, All-contains, filter-append}}
use Rattle.std.proofs.lemmas.{Nat.{and_le_l, or_lt, mod_below, pow_pos, xor_of_16}, Option.get_or_from_slice_get}
use Rattle.std.proofs.lemmas.Nat.Bits.{bit_at-lt, bit_at_above, bit_at_cat_low, same_from_bits, bit_at_and}
use Rattle.dr_entry.proofs.{BoolFacts.{or_false, and_false}, ListFacts.among}
use Rattle.dr_entry.proofs.{ListPlaces.{index_of_get, element_below}, NumberFacts.more_small}
use Rattle.dr_history.specs.Members.{has, members_of, members_below}
use Rattle.dr_history.{specs.Order.AreOfRoster, proofs.Tests.{contains_word, all_words, some_word, all_members}}
use Rattle.dr_history.proofs.{Bits.{has_zero, has_with, has_without, has_xor, has_ones}, MemberLemmas.AreSomeOf}
use Rattle.dr_history.proofs.Masks.{has_below_suc, same_masks, some_number, among_below, has_within, none_above}
use Rattle.dr_history.proofs.Ranks.{first_member, count_below, some_member, length-members_below_suc}
use Rattle.dr_rows.specs.Words.{Words, seen}
use Rattle.dr_words.specs.Masks.{IsInRoster, IsLeastOf, IsPartOf, least_of, mask_below, mask_of, next_members, with_member, without}
use Rattle.dr_words.proofs.{Grown.IsGrowthTest, Order.IsPartOf-le, Ranks.least_member}
use Rattle.dr_words.specs.Masks as masks

below_small : (test : ℕ → Bool) (n : ℕ) → mask_below test n < 2 ^ n
unfolding mask_below
below_small test zero = omega arith
below_small test (suc n) = more_small (mask_below test n) n (test n) (below_small test n)

has_below : (test : ℕ → Bool) (n i : ℕ) → has (mask_below test n) i ≡ (nat_lt i n && test i)
unfolding mask_below
has_below test zero i = grind (arith, has_zero i)
has_below test (suc n) i = has_below_suc test (mask_below test n) n i (below_small test n) (has_below test n i)

-- who is in the mask, and that it has 16 bits
pub has_mask_of : (test : ℕ → Bool) (i : ℕ) → has (mask_of test) i ≡ (nat_lt i 16 && test i)
unfolding mask_of
has_mask_of test i = has_below test 16 i

pub mask_of_small : (test : ℕ → Bool) → mask_of test < 2 ^ 16
unfolding mask_of
mask_of_small test = below_small test 16

-- a mask of 16 bits whose members are those that pass a test is the one of the test
pub is_mask_of : (test : ℕ → Bool) (mask : ℕ) → mask < 2 ^ 16
    → ((i : ℕ) → i < 16 → has mask i ≡ test i) → mask ≡ mask_of test
is_mask_of test mask small same = same_masks mask (mask_of test) (λ i. by i (cases_lt i 16))
  where
    by : (i : ℕ) → (i < 16) ⊎ (16 ≤ i) → has mask i ≡ has (mask_of test) i
    by i (inl l) = same i l ∙ sym (has_mask_of test i ∙ grind arith)
    by i (inr g) = none_above mask i small g ∙ sym (has_mask_of test i ∙ grind arith)

-- one member more
pub has_with_member : (mask n i : ℕ) → mask < 2 ^ 16 → n < 16 → has (with_member mask n) i ≡ (i == n || has mask i)
has_with_member mask n i small within = has_mask_of (λ i. i == n || has mask i) i ∙ by (cases_lt i 16)
  where
    by : (i < 16) ⊎ (16 ≤ i) → (nat_lt i 16 && (i == n || has mask i)) ≡ (i == n || has mask i)
    by (inl l) = grind arith
    by (inr g) = grind (arith, none_above mask i small g)

pub with_member_small : (mask n : ℕ) → with_member mask n < 2 ^ 16
with_member_small mask n = mask_of_small (λ i. i == n || has mask i)

pub or_is_with_member : (mask n : ℕ) → mask < 2 ^ 16 → n < 16 → bit_or mask (1 * 2 ^ n % 2 ^ 16) ≡ with_member mask n
or_is_with_member mask n small within = is_mask_of (λ i. i == n || has mask i) (bit_or mask (1 * 2 ^ n % 2 ^ 16))
    (or_lt 16 mask (1 * 2 ^ n % 2 ^ 16) small (omega arith)) (λ i l. has_with mask n within i)

-- a member more makes a greater number
pub with_member_greater : (mask n : ℕ) → mask < 2 ^ 16 → n < 16 → has mask n ≡ false → mask < with_member mask n
with_member_greater mask n small within new = by (cases_eq mask (with_member mask n))
  where
    part : (i : ℕ) → has mask i ≡ true → has (with_member mask n) i ≡ true
    part i h = has_with_member mask n i small within ∙ grind arith

    there : has (with_member mask n) n ≡ true
    there = has_with_member mask n n small within ∙ grind arith

    by : (mask ≡ with_member mask n) ⊎ (mask ≢ with_member mask n) → mask < with_member mask n
    by (inl e) = absurd (cc (new, ap (λ (x : ℕ). has x n) e, there))
    by (inr d) = omega (arith, IsPartOf-le mask (with_member mask n) part)

-- the members of another taken away
pub has_without_mask : (mask other i : ℕ) → mask < 2 ^ 16
    → has (without mask other) i ≡ (has mask i && not (has other i))
has_without_mask mask other i small = has_mask_of (λ i. has mask i && not (has other i)) i ∙ by (cases_lt i 16)
  where
    by : (i < 16) ⊎ (16 ≤ i) → (nat_lt i 16 && (has mask i && not (has other i))) ≡ (has mask i && not (has other i))
    by (inl l) = grind arith
    by (inr g) = grind (arith, none_above mask i small g)

pub without_small : (mask other : ℕ) → without mask other < 2 ^ 16
without_small mask other = mask_of_small (λ i. has mask i && not (has other i))

-- the members that come of a view by a mask of names
pub has_next_members : (members names i : ℕ) → i < 16
    → has (next_members members names) i ≡ (if has names i then not (has members i) else has members i)
has_next_members members names i l =
    has_mask_of (λ i. if has names i then not (has members i) else has members i) i ∙ grind (arith, l)

pub next_members_within : (members names i : ℕ) → has (next_members members names) i ≡ true → i < 16
next_members_within members names i h =
    grind (arith, has_mask_of (λ i. if has names i then not (has members i) else has members i) i, h)

pub next_members_small : (members names : ℕ) → next_members members names < 2 ^ 16
next_members_small members names = mask_of_small (λ i. if has names i then not (has members i) else has members i)

pub xor_is_next : (members names : ℕ) → members < 2 ^ 16 → names < 2 ^ 16
    → bit_xor members names ≡ next_members members names
xor_is_next members names small small_names =
    is_mask_of (λ i. if has names i then not (has members i) else has members i) (bit_xor members names)
    (xor_of_16 members names small small_names) (λ i l. has_xor members names i)

pub and_is_without : (mask other : ℕ) → mask < 2 ^ 16 → other < 2 ^ 16
    → bit_and mask (65535 - other) ≡ without mask other
and_is_without mask other small small_other =
    is_mask_of (λ i. has mask i && not (has other i)) (bit_and mask (65535 - other))
    (omega (arith, and_le_l mask (65535 - other))) (λ i l. has_without mask other small small_other i)

-- a mask of a roster of n members has n bits
pub in_roster_small : (n mask : ℕ) → IsInRoster n mask → mask < 2 ^ n
in_roster_small n mask within = rw (same_from_bits mask (mask % 2 ^ n) (λ i. by i (cases_lt i n))) low
  where
    low : mask % 2 ^ n < 2 ^ n
    low = mod_below mask (2 ^ n) (pow_pos n)

    by : (i : ℕ) → (i < n) ⊎ (n ≤ i) → bit_at mask i ≡ bit_at (mask % 2 ^ n) i
    by i (inl l) =
        let e : mask ≡ mask / 2 ^ n * 2 ^ n + mask % 2 ^ n = omega (arith, pow_pos n) in
        ap (λ (x : ℕ). bit_at x i) e ∙ bit_at_cat_low (mask / 2 ^ n) n (mask % 2 ^ n) i l
    by i (inr g) = grind (arith, bit_at_above (mask % 2 ^ n) n i low g, within i, bit_at-lt mask i)

pub least_of_is : (mask n : ℕ) → mask < 2 ^ 16 → has mask n ≡ true → IsLeastOf mask (least_of mask)
unfolding least_of
least_of_is mask n small there =
    let some = some_number mask n there in
    rw (index_of_get (members_of mask) (trailing_zeros w16 mask) (first_member mask some small))
    (least_member mask some small)

-- the least member of a part is no less
pub least_of_part : (part whole n : ℕ) → whole < 2 ^ 16 → IsPartOf part whole → has part n ≡ true
    → least_of whole ≤ least_of part
least_of_part part whole n small within there =
    let below = IsPartOf-le part whole within in
    let one = least_of_is part n (omega arith) there in
    let two = least_of_is whole n small (within n there) in
    two.least (least_of part) (within (least_of part) one.member)

-- ---- one more is suspected

-- a member of a view that suspects some of it, and now also this one
pub record IsSuspecting (n members suspects me other : ℕ) : Type 0 where
  pub few : n ≤ 16
  pub roster : IsInRoster n members
  pub named : IsInRoster n suspects
  pub present : has members me ≡ true
  pub trusted : has suspects me ≡ false
  pub within : other < n
  pub apart : other ≢ me

-- its masks have 16 bits
view_small : {n members suspects me other : ℕ} → IsSuspecting n members suspects me other → members < 2 ^ 16
view_small {members = members} s = in_roster_small 16 members (λ i there. omega (arith, s.few, s.roster i there))

suspects_small : {n members suspects me other : ℕ} → IsSuspecting n members suspects me other → suspects < 2 ^ 16
suspects_small {suspects = suspects} s =
    in_roster_small 16 suspects (λ i there. omega (arith, s.few, s.named i there))

-- whom it suspects then: this one too
pub more_has : {n members suspects me other : ℕ} → IsSuspecting n members suspects me other
    → (i : ℕ) → has (with_member suspects other) i ≡ (i == other || has suspects i)
more_has {suspects = suspects} {other = other} s i =
    has_with_member suspects other i (suspects_small s) (omega (arith, s.few, s.within))

-- all whom it suspected
pub more_grows : {n members suspects me other : ℕ} → IsSuspecting n members suspects me other
    → IsPartOf suspects (with_member suspects other)
more_grows s i there = more_has s i ∙ grind (arith, there)

-- members of the roster alone
pub more_named : {n members suspects me other : ℕ} → IsSuspecting n members suspects me other
    → IsInRoster n (with_member suspects other)
more_named {n = n} {other = other} s i there = by (cases_eq i other)
  where
    by : (i ≡ other) ⊎ (i ≢ other) → i < n
    by (inl same) = rw same s.within
    by (inr apart) = s.named i (grind (arith, more_has s i, there, apart))

-- not itself
pub more_trusted : {n members suspects me other : ℕ} → IsSuspecting n members suspects me other
    → has (with_member suspects other) me ≡ false
more_trusted {me = me} s = more_has s me ∙ grind (arith, s.trusted, s.apart)

-- and somebody
pub more_some : {n members suspects me other : ℕ} → IsSuspecting n members suspects me other
    → with_member suspects other ≢ 0
more_some {suspects = suspects} {other = other} s none =
    let there : has (with_member suspects other) other ≡ true = more_has s other ∙ grind arith in
    absurd (cc (there, ap (λ (k : ℕ). has k other) none, has_zero other))

-- it is one of those that it doesn't suspect
pub left_me : {n members suspects me other : ℕ} → IsSuspecting n members suspects me other
    → has (without members (with_member suspects other)) me ≡ true
left_me {members = members} {suspects = suspects} {me = me} {other = other} s =
    has_without_mask members (with_member suspects other) me (view_small s) ∙ grind (arith, s.present, more_trusted s)

-- the least of them is of the roster
pub left_within : {n members suspects me other : ℕ} → IsSuspecting n members suspects me other
    → least_of (without members (with_member suspects other)) < n
left_within {members = members} {suspects = suspects} {me = me} {other = other} s =
    let mask : ℕ = with_member suspects other in
    let least = least_of_is (without members mask) me (without_small members mask) (left_me s) in
    s.roster (least_of (without members mask)) (grind (
      arith,
      has_without_mask members mask (least_of (without members mask)) (view_small s),
      least.member,
    ))

-- and is no lower than before
pub left_rises : {n members suspects me other : ℕ} → IsSuspecting n members suspects me other
    → least_of (without members suspects) ≤ least_of (without members (with_member suspects other))
left_rises {members = members} {suspects = suspects} {me = me} {other = other} s = least_of_part (without members
    (with_member suspects other)) (without members suspects) me (without_small members suspects) fewer (left_me s)
  where
    fewer : IsPartOf (without members (with_member suspects other)) (without members suspects)
    fewer i there = has_without_mask members suspects i (view_small s)
        ∙ grind (arith, has_without_mask members (with_member suspects other) i (view_small s), there, more_has s i)

-- the numbers put into a mask, one by one
abbrev pub with_all : ℕ → List ℕ → ℕ
with_all mask [] = mask
with_all mask (m ∷ ms) = with_all (with_member mask m) ms

has_with_all : (mask : ℕ) (ms : List ℕ) (i : ℕ) → mask < 2 ^ 16 → All (λ m. m < 16) ms
    → has (with_all mask ms) i ≡ (among ms i || has mask i)
has_with_all mask [] i small low = refl
has_with_all mask (m ∷ ms) i small low = has_with_all (with_member mask m) ms i
    (with_member_small mask m) (All-tail (λ m. m < 16) m ms low) ∙ (ap (λ b. among ms i || b)
    (has_with_member mask m i small (All-head (λ m. m < 16) m ms low)) ∙ turn (among ms i) (i == m) (has mask i))
  where
    turn : (a b c : Bool) → (a || (b || c)) ≡ ((b || a) || c)
    turn true true c = refl
    turn true false c = refl
    turn false true c = refl
    turn false false c = refl

pub with_all_members : (mask : ℕ) → mask < 2 ^ 16 → All (λ m. m < 16) (members_of mask)
    → with_all 0 (members_of mask) ≡ mask
unfolding members_of
with_all_members mask small low = same_masks (with_all 0 (members_of mask)) mask (λ i. by i (cases_lt i 16))
  where
    zero_has : (i : ℕ) → has 0 i ≡ false
    zero_has i = has_zero i

    all : (i : ℕ) → has (with_all 0 (members_of mask)) i ≡ (nat_lt i 16 && has mask i)
    all i = has_with_all 0 (members_of mask) i (omega arith) low ∙ (ap (λ b. among (members_of mask) i || b)
        (zero_has i) ∙ (or_false (among (members_of mask) i) ∙ among_below mask 16 i))

    by : (i : ℕ) → (i < 16) ⊎ (16 ≤ i) → has (with_all 0 (members_of mask)) i ≡ has mask i
    by i (inl less) = let e : nat_lt i 16 ≡ true = grind (arith, less) in all i ∙ rw e refl
    by i (inr more) = all i ∙ (rw (none_above mask i small more) (and_false (nat_lt i 16))
        ∙ sym (none_above mask i small more))

member_word : (f : ℕ → ℕ) (m n i : ℕ) → IsInRoster n m → n ≤ 16 → has m i ≡ true
    → Contains (map f (members_of m)) (f i)
unfolding members_of
member_word f m n i r l e = contains_word f m 16 i (le_trans (r i e) l) e

-- what holds of all words of the list holds of each member's word
pub each_word : (P : ℕ → Type 0) (f : ℕ → ℕ) (m n : ℕ) → IsInRoster n m → n ≤ 16
    → All P (map f (members_of m)) → (i : ℕ) → has m i ≡ true → P (f i)
each_word P f m n r l h i e = All-contains P (map f (members_of m)) (f i) h (member_word f m n i r l e)

-- a test of all words of the list tells what holds of each member's word
pub each_iff : (P : ℕ → Type 0) (f : ℕ → ℕ) (m n : ℕ) (words : List ℕ) (b : Bool) → words ≡ map f (members_of m)
    → IsInRoster n m → n ≤ 16 → (IsTrue b ↔ All P words) → (IsTrue b ↔ ((i : ℕ) → has m i ≡ true → P (f i)))
each_iff P f m n words b e r l h = (
  λ t. each_word P f m n r l (subst (All P) e (h.0 t)),
  λ g. h.1 (subst (All P) (sym e) (all_words P f m g)),
)

-- a test of some word of the list tells what holds of some member's word
pub some_iff : (P : ℕ → Type 0) (f : ℕ → ℕ) (m n : ℕ) (words : List ℕ) (b : Bool) → words ≡ map f (members_of m)
    → IsInRoster n m → n ≤ 16 → (IsTrue b ↔ Any P words) → (IsTrue b ↔ ((i : ℕ) × (has m i ≡ true) × P (f i)))
some_iff P f m n words b e r l h = (λ t. to (subst (Any P) e (h.0 t)), λ g. h.1 (subst (Any P) (sym e) (back g)))
  where
    to : Any P (map f (members_of m)) → (i : ℕ) × (has m i ≡ true) × P (f i)
    to a = let w = some_word f m a.1 (a.0, a.2, a.3) in (w.0, w.1, subst P w.2 a.4)

    back : (i : ℕ) × (has m i ≡ true) × P (f i) → Any P (map f (members_of m))
    back g = let c = member_word f m n g.0 r l g.1 in (c.0, f g.0, c.1, c.2, g.2)

-- where the list is empty nobody is in the mask
pub no_member : (f : ℕ → ℕ) (m n : ℕ) (words : List ℕ) → words ≡ map f (members_of m)
    → IsInRoster n m → n ≤ 16 → length words ≡ 0 → (i : ℕ) → has m i ≡ false
no_member f m n words e r l z i = by (has m i) refl
  where
    by : (b : Bool) → has m i ≡ b → has m i ≡ false
    by true h = let c = member_word f m n i r l h in let k : c.0 < length words = rw e c.1 in
        absurd (omega arith)
    by false h = h

-- a test of all words of a column
pub column_iff : (P : ℕ → Type 0) (rows : Words) (m : ℕ) (words : List ℕ) (column k : ℕ) (b : Bool)
    → words ≡ map (λ i. seen rows i column) (members_of m) → column ≡ k → IsInRoster rows.members m
    → rows.members ≤ 16 → (IsTrue b ↔ All P words) → (IsTrue b ↔ ((i : ℕ) → has m i ≡ true → P (seen rows i k)))
column_iff P rows m words column k b e c r l h = each_iff P (λ i. seen rows i k) m rows.members words b
    (e ∙ ap (λ (x : ℕ). map (λ i. seen rows i x) (members_of m)) c) r l h

pub count_tagged : (p : ℕ → Bool) (m : ℕ)
    → length (members_of (mask_of (λ i. has m i && p i))) ≡ count_by p (members_of m)
unfolding members_of
count_tagged p m = count_below p m (mask_of (λ i. has m i && p i)) 16
    (λ i l. has_mask_of (λ j. has m j && p j) i ∙ grind (arith, l))

-- a mask with a member has a least one
pub somebody : (o : Option ℕ) (mask i : ℕ) → MatchOption o ((k : ℕ) → has mask k ≡ false) (masks.IsLeastOf mask)
    → has mask i ≡ true → IsSome o
somebody None mask i least there = absurd (cc (least i, there))
somebody (Some m) mask i least there = refl

-- the least member of a mask, as it is read
pub least_read : (mask p : ℕ) → slice_get (members_of mask) 0 ≡ Some p → p ≡ masks.least_of mask
unfolding masks.least_of
least_read mask p there = sym (get_or_from_slice_get (members_of mask) 0 p 0 there)

-- the members of both views
abbrev pub both_of : ℕ → ℕ → ℕ
both_of before after = mask_of (λ i. has before i && has after i)

both_has : (before after i : ℕ) → i < 16 → has (both_of before after) i ≡ (has before i && has after i)
both_has before after i l = has_mask_of (λ k. has before k && has after k) i ∙ grind (arith, l)

least_of_nobody : least_of 0 ≡ 0
unfolding least_of members_of members_below
least_of_nobody = refl

-- the least of them, or 0, is what the answer of the search for the welcomer tells
pub welcomer_is : (before after : ℕ) (o : Option ℕ) → after < 2 ^ 16
    → (o ≡ None → (i : ℕ) → has before i ≡ true → has after i ≡ false) → ((m : ℕ) → o ≡ Some m → (has before m ≡ true)
    × (has after m ≡ true)) → ((m i : ℕ) → o ≡ Some m → has before i ≡ true → has after i ≡ true → m ≤ i)
    → unwrap_or o 0 ≡ least_of (both_of before after)
welcomer_is before after None small none both least = sym (ap least_of
    (same_masks (both_of before after) 0 (λ i. nobody i (has (both_of before after) i) refl)) ∙ least_of_nobody)
  where
    nobody : (i : ℕ) (b : Bool) → has (both_of before after) i ≡ b → has (both_of before after) i ≡ has 0 i
    nobody i false e = e ∙ sym (has_zero i)
    nobody i true e =
        let low : i < 16 = has_within (both_of before after) 16 i (mask_of_small _) e in
        let two = and_parts (has before i) (has after i) (sym (both_has before after i low) ∙ e) in
        absurd (cc (two.1, none refl i two.0))
welcomer_is before after (Some m) small none both least =
    let there = both m refl in
    let low : m < 16 = has_within after 16 m small there.1 in
    let is = least_of_is (both_of before after) m (mask_of_small _)
    (both_has before after m low ∙ and_from _ _ there.0 there.1) in
    let two = and_parts (has before (least_of (both_of before after))) (has after (least_of (both_of before after)))
    (sym (both_has before after (least_of (both_of before after)) is.number) ∙ is.member) in
    omega (
      arith,
      is.least m (both_has before after m low ∙ and_from _ _ there.0 there.1),
      least m (least_of (both_of before after)) refl two.0 two.1,
    )

-- a mask that isn't 0 has a member
pub some_of : (mask n : ℕ) → IsInRoster n mask → n ≤ 16 → 0 < mask → 0 < length (members_of mask)
some_of mask n within few some = by (length (members_of mask)) refl
  where
    none : length (members_of mask) ≡ 0 → (i : ℕ) (b : Bool) → has mask i ≡ b → has mask i ≡ has 0 i
    none e i true t = absurd (omega (arith, e, some_member mask i (omega (arith, within i t, few)) t))
    none e i false t = t ∙ sym (has_zero i)

    by : (k : ℕ) → length (members_of mask) ≡ k → 0 < length (members_of mask)
    by zero e = absurd (omega (arith, some, same_masks mask 0 (λ i. none e i (has mask i) refl)))
    by (suc k) e = omega (arith, e)

-- a mask that is not 0 has some members of the roster alone where none is left without those
pub roster_decides : (all mask n : ℕ) → mask < 2 ^ 16 → all ≡ n → mask ≢ 0
    → Decides (without mask (2 ^ n - 1) == 0) (AreOfRoster all mask)
roster_decides all mask n small roster some = (
  λ t. record { some = omega (arith, some); within = λ s h. inside s h (zero_is t) },
  λ r. is_zero (same_masks (without mask (2 ^ n - 1)) 0 (λ i. none i r)),
)
  where
    zero_is : (without mask (2 ^ n - 1) == 0) ≡ true → without mask (2 ^ n - 1) ≡ 0
    zero_is t = grind (arith, t)

    is_zero : without mask (2 ^ n - 1) ≡ 0 → (without mask (2 ^ n - 1) == 0) ≡ true
    is_zero e = grind (arith, e)

    inside : (s : ℕ) → has mask s ≡ true → without mask (2 ^ n - 1) ≡ 0 → s < all
    inside s h e = grind (
      arith,
      h,
      has_without_mask mask (2 ^ n - 1) s small,
      ap (λ x. has x s) e,
      has_zero s,
      has_ones n s,
      roster,
    )

    none : (i : ℕ) → AreOfRoster all mask → has (without mask (2 ^ n - 1)) i ≡ has 0 i
    none i r = by (has mask i) refl
      where
        by : (b : Bool) → has mask i ≡ b → has (without mask (2 ^ n - 1)) i ≡ has 0 i
        by false e = grind (arith, e, has_without_mask mask (2 ^ n - 1) i small, has_zero i)
        by true e = grind (
          arith,
          e,
          r.within i e,
          roster,
          has_without_mask mask (2 ^ n - 1) i small,
          has_ones n i,
          has_zero i,
        )

-- all that are left of a mask where nobody is taken out
pub without-nobody : (test : ℕ → Bool) (mask : ℕ) → mask ≡ mask_of test → without mask 0 ≡ mask
without-nobody test mask is = subst (λ (m : ℕ). without m 0 ≡ m) (sym is)
    (same_masks (without (mask_of test) 0) (mask_of test) (λ i.
    has_mask_of (λ k. has (mask_of test) k && not (has 0 k)) i ∙ grind (arith, nat_tests, has_zero i, has_mask_of test i)))

-- the member at a place among them
pub member_below : (n mask k : ℕ) → 1 ≤ n → IsInRoster n mask → slice_index (members_of mask) k < n
member_below n mask k some roster = element_below n (members_of mask) k some
    (all_members (λ i. nat_lt i n) mask (λ i member. grind (arith, nat_tests, roster i member)))

-- the members of a mask are no more than those members of another that pass a test, where each is one
kept-below : (mask all next n : ℕ) → IsPartOf mask all → IsPartOf mask next
    → length (members_below mask n) ≤ length (filter (has next) (members_below all n))
unfolding members_below
kept-below mask all next zero part stay = omega arith
kept-below mask all next (suc n) part stay = omega (
  arith,
  length-members_below_suc mask n,
  kept-below mask all next n part stay,
  ap length (filter-append (has next) (members_below all n) (if has all n then n ∷ [] else [])),
  length-append (filter (has next) (members_below all n)) (filter (has next) (if has all n then n ∷ [] else [])),
  one (has mask n) (has all n) (has next n) refl (part n) (stay n),
)
  where
    one : (a b c : Bool) → has next n ≡ c → (a ≡ true → b ≡ true) → (a ≡ true → c ≡ true)
        → (if a then 1 else 0) ≤ length (filter (has next) (if b then n ∷ [] else []))
    one true true true e p q = rw e (omega arith)
    one true true false e p q = absurd (cc (q refl))
    one true false c e p q = absurd (cc (p refl))
    one false b c e p q = omega arith

pub kept-of : (mask all next : ℕ) → IsPartOf mask all → IsPartOf mask next
    → length (members_of mask) ≤ length (filter (has next) (members_of all))
unfolding members_of
kept-of mask all next part stay = kept-below mask all next 16 part stay

-- a mask with one member more
pub has-more : (mask n i : ℕ) → i < 16 → has mask i ≡ true → has (with_member mask n) i ≡ true
has-more mask n i small there = has_mask_of (λ i. i == n || has mask i) i ∙ grind (arith, nat_tests, small, there)

pub has-new : (mask n : ℕ) → n < 16 → has (with_member mask n) n ≡ true
has-new mask n small = has_mask_of (λ i. i == n || has mask i) n ∙ grind (arith, nat_tests, small)

pub has-old : (mask n i : ℕ) → i ≢ n → has (with_member mask n) i ≡ true → has mask i ≡ true
has-old mask n i d t = grind (arith, nat_tests, d, sym (has_mask_of (λ i. i == n || has mask i) i) ∙ t)

-- a mask with members below 16 alone has 16 bits
small-mask : (n mask : ℕ) → n ≤ 16 → ((m : ℕ) → has mask m ≡ true → m < n) → mask < 2 ^ 16
small-mask n mask most within = subst (λ k. k < 2 ^ 16) same (mask_of_small (has mask))
  where
    by : (i : ℕ) (b : Bool) → has mask i ≡ b → (nat_lt i 16 && has mask i) ≡ has mask i
    by i true e = let l : i < 16 = omega (arith, within i e, most) in grind (arith, e, l)
    by i false e = grind (arith, e)

    same : mask_of (has mask) ≡ mask
    same = same_masks (mask_of (has mask)) mask (λ i. has_mask_of (has mask) i ∙ by i (has mask i) refl)

-- of the roster
pub some-of : (n mask : ℕ) → n ≤ 16 → AreOfRoster n mask → AreSomeOf (λ m. m < n) mask
some-of n mask most of = record {
  small = small-mask n mask most of.within;
  some = λ e. omega (arith, of.some, e);
  within = of.within;
}

-- all of their own
pub some-own : (n mask : ℕ) → n ≤ 16 → AreOfRoster n mask → AreSomeOf (λ m. has mask m ≡ true) mask
some-own n mask most of = record {
  small = small-mask n mask most of.within;
  some = λ e. omega (arith, of.some, e);
  within = λ m there. there;
}

-- a mask that has none but members of the roster
pub in-roster : (n mask m : ℕ) → m < 16 → (without mask (2 ^ n - 1) == 0) ≡ true → has mask m ≡ true → m < n
in-roster n mask m l alone h = grind (
  arith,
  h,
  l,
  has_mask_of (λ j. has mask j && not (has (2 ^ n - 1) j)) m,
  ap (λ x. has x m) none,
  has_zero m,
  has_ones n m,
)
  where
    none : without mask (2 ^ n - 1) ≡ 0
    none = grind (arith, alone)

-- a mask with members below a number alone has none but those
pub of-roster-alone : (n mask : ℕ) → ((i : ℕ) → has mask i ≡ true → i < n) → without mask (2 ^ n - 1) ≡ 0
of-roster-alone n mask within = same_masks (without mask (2 ^ n - 1)) 0 (λ i. by i (has mask i) refl)
  where
    by : (i : ℕ) (b : Bool) → has mask i ≡ b → has (without mask (2 ^ n - 1)) i ≡ has 0 i
    by i false e = grind (arith, e, has_mask_of (λ j. has mask j && not (has (2 ^ n - 1) j)) i, has_zero i)
    by i true e = grind (
      arith,
      e,
      within i e,
      has_mask_of (λ j. has mask j && not (has (2 ^ n - 1) j)) i,
      has_ones n i,
      has_zero i,
    )

-- a mask has all members of another exactly where it has all its bits
part_of_bits : (old new : ℕ) → bit_and old new ≡ old → IsPartOf old new
part_of_bits old new same n has_it = grind (
  arith,
  has_it,
  sym (bit_at_and old new n) ∙ ap (λ m. bit_at m n) same,
  bit_at-lt old n,
  bit_at-lt new n,
)

bits_of_part : (old new : ℕ) → IsPartOf old new → bit_and old new ≡ old
bits_of_part old new part = same_from_bits (bit_and old new) old (λ i. bit_at_and old new i ∙ by i (cases_Bool (has old i)))
  where
    by : (i : ℕ) → (has old i ≡ true) ⊎ (has old i ≡ false) → min (bit_at old i) (bit_at new i) ≡ bit_at old i
    by i (inl h) = grind (arith, h, part i h, bit_at-lt old i, bit_at-lt new i)
    by i (inr h) = grind (arith, h, bit_at-lt old i, bit_at-lt new i)

pub mask_growth : (n old new : ℕ) → IsGrowthTest n 1 old new (nat_le old new && (bit_and old new == old))
mask_growth n old new = (
  λ t. let p = and_parts (nat_le old new) (bit_and old new == old) t in record {
    number = leb-true old new p.0;
    suspected = λ e. part_of_bits old new (eqb-true (bit_and old new) old p.1);
    final = λ s l e f. absurd (omega arith);
  },
  λ g. and_from (nat_le old new) (bit_and old new == old) (le-leb old new g.number)
      (eq-eqb (bit_and old new) old (bits_of_part old new (g.suspected refl))),
)
