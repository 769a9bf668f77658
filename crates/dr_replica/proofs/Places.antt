-- The items by place, and their front.
use Rattle.std.proofs.Common.{◌≡◌, ℕ, ◌+◌, ◌*◌, ◌/◌, ◌%◌, ◌<◌, ◌≤◌, inl, inr, true, nat_lt, List, length, replicate, map, get_or, set, slice_index, slice_index_or, sym, ap, subst, ◌∙◌, arith, le_refl, le_trans}
use Rattle.std.proofs.lemmas.{Bool.{cases_lt, ltb-true}, Nat.{mod_below, mul-le, mul-add-lt}}
use Rattle.std.proofs.lemmas.List.{get_or-map, get_or-replicate, get_or_past, get_or_read, length-map, length-replicate}
use Rattle.dr_entry.{specs.declared.entry.Item.{Item, TheVariants.Null}, proofs.Items.all_null}
use Rattle.dr_entry.proofs.{ListFacts.counts_rise, ListPlaces.greatest_within}
use Rattle.dr_history.{specs.{Members.members_of, Places.{place_of, is_held, AllHeldBelow}}, proofs.Fronts.front_is}
use Rattle.dr_history.proofs.{MemberLemmas.few_members, Places.{front_of_none, held_item}}
use Rattle.dr_words.{specs.Masks.IsInRoster, proofs.Ranks.roster_members}
use Rattle.dr_program.{specs.Replica.greatest, proofs.Replicas.greatest_most}
use Rattle.dr_replica.specs.Inside.{AreItems, held_of}
use Rattle.dr_replica.specs.Items.{Held, IsHeld, counts_of, front, none_held, sender_held_at, item_held_at}
use Rattle.dr_replica.specs.{Rests.AreWithin, Spots.{IsSpot, first_spot}, declared.items.Items.TheInside.Inside}
use Rattle.dr_replica.{specs.declared.spot.Spot.Spot, proofs.Spots.{first_is_spot, spot_number, spot_rank}}

-- a place that trims take has its item
pub trims_held : (h : Held) (trims : List ℕ) (p : ℕ) → AreWithin h trims → is_held trims p ≡ true
    → is_held (counts_of h) p ≡ true
trims_held h trims p within held =
    let long : length trims ≡ length (counts_of h) =
    within.ranks ∙ sym (length-map h.members (slice_index h.counts)) in
    let there : p / length trims < get_or trims (p % length trims) 0 = ltb-true _ _ held in
    let here : p / length (counts_of h) < get_or trims (p % length (counts_of h)) 0 =
    subst (λ (n : ℕ). p / n < get_or trims (p % n) 0) long there in
    grind (arith, here, within.taken (p % length (counts_of h)))

-- the item at a spot is held exactly where its number is below its member's count
pub held_read : (counts members : List ℕ) (s : Spot) (m c : ℕ) → IsSpot (length members) s → m
    ≡ get_or members s.rank 0 → c ≡ get_or counts m 0
    → nat_lt s.number c ≡ is_held (map (slice_index counts) members) s.place
held_read counts members s m c is at count =
    let number = spot_number (length members) s is in
    let rank = spot_rank (length members) s is in
    let which = get_or-map (slice_index counts) members s.rank 0 0 is.rank in
    let test : nat_lt s.number c ≡ nat_lt (s.place / length members)
    (get_or (map (slice_index counts) members) (s.place % length members) 0) = cc in
    subst (λ (n : ℕ). nat_lt s.number c ≡ nat_lt (s.place / n)
    (get_or (map (slice_index counts) members) (s.place % n) 0)) (sym (length-map members (slice_index counts))) test

-- an item that is held has its place
item_within : (h : Held) (p : ℕ) → IsHeld h → is_held (counts_of h) p ≡ true
    → p / length h.members * h.roster + sender_held_at h p < length h.items
item_within h p is held =
    let n : ℕ = length h.members in
    let item = held_item h.counts h.members p is.some held in
    let most = is.bounded (sender_held_at h p) in
    let sender = is.members (p % n) (mod_below p n is.some) in
    let place = mul-add-lt (p / n) h.roster (sender_held_at h p) h.most (omega (arith, item, most)) sender in
    omega (arith, place, is.items)

few_items : (h : Held) → IsHeld h → length h.items ≤ 65536
few_items h is = let product = mul-le h.most h.roster 4096 16 is.most is.roster in
    omega (arith, product, is.items)

-- the item that was read there is the one of the place
pub item_number : (a : Inside) (now : Held) (s : Spot) → held_of a ≡ now
    → IsSpot (length now.members) s → s.number ≡ s.place / length a.members.items
item_number a now s same is = subst (λ (h : Held). s.number ≡ s.place / length h.members) (sym same)
    (spot_number (length now.members) s is)

-- an item that is held has a place in the list
pub item_place : (a : Inside) (now : Held) (p k r s : ℕ) → held_of a ≡ now → AreItems a
    → is_held (counts_of now) p ≡ true → k ≡ p / length a.members.items → r ≡ a.roster → s ≡ sender_held_at now p
    → (k * r + s < length a.items.items) × (length a.items.items ≤ 65536)
item_place a now p k r s same are before number roster sender =
    let there = item_within (held_of a) p are.form (ap (λ (h : Held). is_held (counts_of h) p) same ∙ before) in (
      rw (number, roster, sender ∙ ap (λ (h : Held). sender_held_at h p) (sym same)) there,
      few_items (held_of a) are.form,
    )

-- the item read at its place in the list is the one at that place
pub item_read : (a : Inside) (now : Held) (p k r s : ℕ) (x : Item) → held_of a ≡ now → AreItems a
    → is_held (counts_of now) p ≡ true → k ≡ p / length a.members.items → r ≡ a.roster
    → s ≡ sender_held_at now p → x ≡ slice_index_or a.items.items (k * r + s) x → x ≡ item_held_at now p
item_read a now p k r s x same are before number roster sender read =
    let there = item_place a now p k r s same are before number roster sender in
    let here : x ≡ slice_index_or a.items.items (k * r + s) Null =
    get_or_read a.items.items (k * r + s) x there.0 read Null in
    here ∙ ap (λ (i : ℕ). slice_index_or a.items.items i Null)
    (ap (λ (m : ℕ). m * r + s) number ∙ ap (λ (m : ℕ). p / length a.members.items * m + s) roster
    ∙ ap (λ (m : ℕ). p / length a.members.items * a.roster + m)
    (sender ∙ ap (λ (h : Held). sender_held_at h p) (sym same))) ∙ ap (λ (h : Held). item_held_at h p) same

-- the places up to that of the greatest count are there, and from it on there are nulls
pub used_within : (a : Inside) → AreItems a → greatest a.counts.items * a.roster ≤ length a.items.items
used_within a are =
    let few = greatest_within a.counts.items 0 a.most (omega arith) are.form.bounded in
    omega (arith, are.form.items, mul-le (greatest a.counts.items) a.roster a.most a.roster few (le_refl a.roster))

pub nulls_past : (a : Inside) (k : ℕ) → AreItems a → greatest a.counts.items * a.roster ≤ k
    → slice_index_or a.items.items k Null ≡ Null
nulls_past a k are past = are.nulls k (λ s. le_trans
    (mul-le (get_or a.counts.items s 0) a.roster (greatest a.counts.items) a.roster
    (greatest_most a.counts.items s) (le_refl a.roster)) past)

-- the counts stay above the old front
still_held : (h : Held) (s : ℕ) → IsHeld h → s < h.roster
    → AllHeldBelow (map (slice_index (set h.counts s (get_or h.counts s 0 + 1))) h.members) (front h)
still_held h s is sender =
    let counts : List ℕ = set h.counts s (get_or h.counts s 0 + 1) in
    let old = length-map h.members (slice_index h.counts) in
    let new = length-map h.members (slice_index counts) in
    let held = (front_is (counts_of h) (omega (arith, old, is.some))).held in
    λ rank k within below.
    let lt : rank < length h.members = omega (arith, within, new) in
    let place : place_of (length (counts_of h)) rank k
    < front h = subst (λ (n : ℕ). place_of n rank k < front h) (new ∙ sym old) below in
    let before = held rank k (omega (arith, lt, old)) place in
    omega (
      arith,
      before,
      get_or-map (slice_index h.counts) h.members rank 0 0 lt,
      get_or-map (slice_index counts) h.members rank 0 0 lt,
      counts_rise h.counts s (get_or h.counts s 0 + 1) (get_or h.members rank 0)
          (omega (arith, sender, is.counts)) (omega arith),
    )

-- ---- the fields of the items

-- the fields where no item is held of the members of a view
pub record AreNone (a : Inside) (view n k : ℕ) : Type 0 where
  pub members : a.members.items ≡ members_of view
  pub roster : a.roster ≡ n
  pub most : a.most ≡ k
  pub counts : a.counts.items ≡ replicate n 0
  pub items : a.items.items ≡ replicate (k * n) Null

-- contracts see them as no items
pub none_is : (a : Inside) (view n most : ℕ) → AreNone a view n most → held_of a ≡ none_held view n most
none_is a view n most e =
    let members = e.members in let roster = e.roster in let top = e.most in let counts = e.counts in
    let items = e.items in cc

-- so they are where others were made so
pub renewed_none : (old new : Inside) (view : ℕ) → AreItems old → new.members.items ≡ members_of view
    → new.roster ≡ old.roster → new.most ≡ old.most → new.counts.items ≡ replicate (length old.counts.items) 0
    → length new.items.items ≡ length old.items.items
    → ((k : ℕ) → k < length old.items.items → slice_index_or new.items.items k Null ≡ Null)
    → AreNone new view old.roster old.most
renewed_none old new view are members roster most counts long nulls = record {
  members = members;
  roster = roster;
  most = most;
  counts = counts ∙ ap (λ (n : ℕ). replicate n 0) are.form.counts;
  items = all_null new.items.items (old.most * old.roster) (long ∙ are.form.items)
      (λ k l. nulls k (omega (arith, l, are.form.items)));
}

-- and they are in good order
pub begun_items : (a : Inside) (view n most : ℕ) → AreNone a view n most → a.front ≡ first_spot
    → n ≤ 16 → IsInRoster n view → 0 < length (members_of view) → most ≤ 4096 → AreItems a
begun_items a view n most e zero few members some small = record {
  form = subst IsHeld (sym (none_is a view n most e)) record {
    roster = few;
    some = some;
    few = few_members view;
    members = λ i l. roster_members view n members i l;
    most = small;
    counts = length-replicate n 0;
    bounded = λ s. omega (arith, none n s);
    items = length-replicate (most * n) _;
  };
  front = rw (zero, e.counts) (sym (front_of_none n a.members.items));
  nulls = λ k l. rw e.items (all_nulls (most * n) k);
  spot = rw (zero, e.members) (first_is_spot (length (members_of view)) some);
}
  where
    all_nulls : (long k : ℕ) → get_or (replicate long Null) k Null ≡ Null
    all_nulls long k = elim (cases_lt k long) [
      | inl within ↦ get_or-replicate {A = Item} long k Null Null within
      | inr past ↦ get_or_past (replicate {A = Item} long Null) k Null
          (omega (arith, length-replicate {A = Item} long Null))
    ]

    none : (n i : ℕ) → get_or (replicate n 0) i 0 ≤ 0
    none n i = elim (cases_lt i n) [
      | inl within ↦ omega (arith, get_or-replicate {A = ℕ} n i 0 0 within)
      | inr past ↦ omega (
        arith,
        get_or_past (replicate {A = ℕ} n 0) i 0 (omega (arith, length-replicate {A = ℕ} n 0)),
      )
    ]

-- the new counts are above the old front
pub taken_above : (a : Inside) (now : Held) (members counts : List ℕ) (s e f x : ℕ) → held_of a ≡ now
    → AreItems a → s < now.roster → e ≡ s → f ≡ s → x ≡ slice_index_or a.counts.items e x → members ≡ a.members.items
    → counts ≡ set a.counts.items f (x + 1) → AllHeldBelow (map (slice_index counts) members) a.front.place
taken_above a now members counts s e f x same are within from at read who new =
    let mine : s < a.roster = subst (λ (h : Held). s < h.roster) (sym same) within in
    let here : x ≡ get_or a.counts.items s 0 =
    subst (λ (i : ℕ). x ≡ slice_index_or a.counts.items i x → x ≡ get_or a.counts.items s 0)
    (sym from) (λ r. get_or_read a.counts.items s x (omega (arith, mine, are.form.counts)) r 0) read in
    let counts_are : counts ≡ set a.counts.items s (get_or a.counts.items s 0 + 1) = new
    ∙ ap (λ (i : ℕ). set a.counts.items i (x + 1)) at ∙ ap (λ (n : ℕ). set a.counts.items s (n + 1)) here in
    rw (counts_are, who, are.front) (still_held (held_of a) s are.form mine)
