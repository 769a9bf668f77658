-- The least word of a column over the rows of a view.
use Rattle.std.specs.Prelude.{IfNone, IfSome}
use Rattle.std.proofs.Common.{◌≡◌, sym, subst, ℕ, zero, suc, ◌-◌, ◌^◌, ◌<◌, ◌≤◌, not, true, min, fold, List, length, map, slice_index, arith, le_refl, le_trans, ◌+◌, nat_lt, Bool, ◌≢◌, refl, le_of_eq, false, ◌∙◌, Option, None, Some}
use Rattle.std.proofs.{Math.Nat.mul-le-mul, lemmas.Bool.{and_parts, ltb-true, true≢false, Decides.nat_tests}}
use Rattle.std.proofs.lemmas.{List.{get_or_read, length-map}, Option.slice_get-get_or}
use Rattle.dr_entry.proofs.{ListFacts.{fold_max_within, at_most, rises_each}, ListPlaces.{at_most_each, above_each}}
use Rattle.dr_history.{specs.{Members.{has, members_below, members_of}, Places.front_of}, proofs.Fronts.front_within}
use Rattle.dr_history.proofs.MemberLemmas.{length_members_below, has-member, member-has}
use Rattle.dr_program.specs.{Form.HasForm, Replica.{Replica, count, least_seen, members_in_view, may_deliver, acted}}
use Rattle.dr_program.proofs.Received.{few_members}
use Rattle.dr_rows.{specs.Words.{seen, with_own}, proofs.Grids.with_word-column}
use Rattle.dr_words.specs.{Grown.Grown, declared.column.TheConstants.{RECEIVED_COLUMN, BEAT_COLUMN}}
use Rattle.dr_machine.specs.Effects.{one_more}
use Rattle.dr_program.specs.Replica as replica

-- ---- the least word

-- it fits 64 bits
pub least_fits : (r : Replica) (c : ℕ) → least_seen r c ≤ 2 ^ 64 - 1
least_fits r c = at_most (2 ^ 64 - 1) (map (λ i. seen r.rows i c) (members_in_view r))

-- it is no more than the word of any member of the view
pub least_of : (r : Replica) (c i : ℕ) → i < 16 → has r.members i ≡ true → least_seen r c ≤ seen r.rows i c
least_of r c i few member =
    let there = has-member r.members i member few in
    let here : slice_index (members_in_view r) there.0 ≡ i =
    sym (get_or_read (members_in_view r) there.0 i there.1 (sym there.2) 0) in
    subst (λ k. least_seen r c ≤ seen r.rows k c) here
    (at_most_each (λ k. seen r.rows k c) (members_in_view r) (2 ^ 64 - 1) there.0 there.1)

-- what is less than the words of all members of the view is less than it
pub below_least_seen : (r : Replica) (c x : ℕ) → x < 2 ^ 64 - 1
    → ((i : ℕ) → has r.members i ≡ true → x < seen r.rows i c) → x < least_seen r c
below_least_seen r c x l each = above_each x (2 ^ 64 - 1) (λ i. seen r.rows i c) (members_in_view r) l
    (λ i below. each (slice_index (members_in_view r) i)
    (member-has r.members i (slice_index (members_in_view r) i) (slice_get-get_or (members_in_view r) i 0 below)))

-- it rises with the words
pub least_rises : (r q : Replica) (c : ℕ) → q.members ≡ r.members
    → ((i : ℕ) → seen r.rows i c ≤ seen q.rows i c) → least_seen r c ≤ least_seen q c
least_rises r q c same rise = subst (λ (mask : ℕ). fold min
    (2 ^ 64 - 1) (map (λ i. seen r.rows i c) (members_of r.members))
    ≤ fold min (2 ^ 64 - 1) (map (λ i. seen q.rows i c) (members_of mask))) (sym same) (rises_each (2 ^ 64 - 1)
    (2 ^ 64 - 1) (λ i. seen r.rows i c) (λ i. seen q.rows i c) (members_of r.members) (le_refl (2 ^ 64 - 1)) rise)

-- ---- the received word

-- the front of all items has a small number
pub received_small : (r : Replica) → ((s : ℕ) → count r s ≤ 4096)
    → front_of (map (slice_index r.counts) (members_in_view r)) ≤ 65536
unfolding members_of
received_small r bounded =
    let counts : List ℕ = map (slice_index r.counts) (members_below r.members 16) in
    let len : length counts ≤ 16 =
    rw (length-map (members_below r.members 16) (slice_index r.counts)) (length_members_below r.members 16) in
    le_trans (front_within counts) (mul-le-mul len
    (fold_max_within (slice_index r.counts) (members_below r.members 16) 0 4096 (omega arith) bounded))

-- a place that may be delivered is before the own front
pub next_held : (r : Replica) → HasForm r → replica.is_inside r ≡ true → may_deliver r ≡ true
    → (r.next < front_of (map (slice_index r.counts) (replica.members_in_view r))) × (r.next + 1 < 2 ^ 64)
next_held r f inside may =
    let seen_by_all : r.next < least_seen r RECEIVED_COLUMN = ltb-true r.next (least_seen r RECEIVED_COLUMN)
    (and_parts (nat_lt r.next (least_seen r RECEIVED_COLUMN)) (nat_lt (length r.history) r.room)
    (and_parts (not (replica.is_wedged r)) _ may).1).0 in
    let mine = least_of r RECEIVED_COLUMN (replica.me r) (omega (arith, f.rows.present, f.rows.few)) inside
    in (omega (arith, seen_by_all, mine, f.received), omega (arith, seen_by_all, least_fits r RECEIVED_COLUMN))

-- where no word falls, it doesn't
pub grown_received : (r q : Replica) (old new : List Bool) → q.members ≡ r.members
    → Grown r.roster r.rows.words q.rows.words old new → least_seen r RECEIVED_COLUMN ≤ least_seen q RECEIVED_COLUMN
grown_received r q old new same grown =
    least_rises r q RECEIVED_COLUMN same (λ i. (grown.words i RECEIVED_COLUMN).number)

-- nor by an own word of another column
pub other_received : (r : Replica) (c word : ℕ) → RECEIVED_COLUMN ≢ c
    → least_seen r RECEIVED_COLUMN ≤ least_seen (record r { rows = with_own r.rows c word }) RECEIVED_COLUMN
other_received r c word apart = least_rises r (record r { rows = with_own r.rows c word }) RECEIVED_COLUMN refl
    (λ i. le_of_eq (sym (with_word-column r.rows.words r.rows.me c word i RECEIVED_COLUMN apart)))

-- a stamp doesn't raise it
pub unstamped : (r : Replica) → least_seen (acted r) RECEIVED_COLUMN ≤ least_seen r RECEIVED_COLUMN
unstamped r = least_rises (acted r) r RECEIVED_COLUMN refl
    (λ i. le_of_eq (with_word-column r.rows.words r.rows.me BEAT_COLUMN (one_more 64 r.acts) i RECEIVED_COLUMN
    (λ e. absurd (omega arith))))

-- no least word is above the greatest number of 64 bits
pub none_above : (r : Replica) (c x : ℕ) → 2 ^ 64 - 1 ≤ x → nat_lt x (least_seen r c) ≡ false
none_above r c x high = let least = least_fits r c in grind (arith, nat_tests, high, least)

-- the least word of the view's members is the least that is seen
pub least_by : (r : Replica) (c : ℕ) (o : Option ℕ) (x : ℕ) → HasForm r
    → IfSome o (λ least. (i : ℕ) → has r.members i ≡ true → least ≤ seen r.rows i c)
    → IfSome o (λ least. (i : ℕ) × (has r.members i ≡ true) × (least ≡ seen r.rows i c))
    → IfNone o ((i : ℕ) → has r.members i ≡ false) → (o ≡ None → x ≡ 2 ^ 64 - 1)
    → ((least : ℕ) → o ≡ Some least → (x ≡ least) × (least < 2 ^ 64)) → x ≡ least_seen r c
least_by r c None x form below among none greatest is =
    let low = below_least_seen r c (2 ^ 64 - 2) (omega arith) (λ i member. absurd (true≢false (sym member ∙ none i))) in
    omega (arith, greatest refl, low, least_fits r c)
least_by r c (Some zero) x form below among none greatest is =
    let high = least_of r c among.0 (few_members r among.0 form among.1) among.1 in
    omega (arith, (is zero refl).0, high, among.2)
least_by r c (Some (suc least)) x form below among none greatest is =
    let high = least_of r c among.0 (few_members r among.0 form among.1) among.1 in
    let low = below_least_seen r c least (omega (arith, (is (suc least) refl).1))
    (λ i member. omega (arith, below i member)) in
    omega (arith, (is (suc least) refl).0, high, among.2, low)
