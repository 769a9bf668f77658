-- Whoever has committed a value by which it stays may end its view with it: a bank is left for the next
-- view, and all items that the value takes are there.
use Rattle.std.proofs.Common.{suc, zero, ℕ, ◌-◌, ◌^◌, ◌<◌, ◌≡◌, arith, refl, true, ◌∙◌, ◌&&◌, not, ap, sym, ◌+◌, length, ◌*◌, Bool, ◌⊎◌, inl, inr, false, ◌≤◌, nat_lt, Contains, Some, slice_index, subst, ◌≢◌}
use Rattle.std.proofs.lemmas.{List.FromFn.length-range_with_len, Option.slice_get-get_or}
use Rattle.dr_entry.{specs.declared.record.Value.Value, proofs.BoolFacts.{no-more, leaves-less, early-or-late}}
use Rattle.dr_entry.proofs.NumberFacts.{one}
use Rattle.dr_history.{specs.{Members.{has, members_of}, Order.IsNewIn}, proofs.Bits.has_ones}
use Rattle.dr_history.proofs.{MemberLemmas.{members_of-ones, member-has}, Ranks.{falls-less, sums}}
use Rattle.dr_words.specs.{Columns.recv_column, Masks.{without, next_members, IsMajorityOf, IsPartOf}}
use Rattle.dr_words.{specs.Packing.is_final, proofs.Masks.{without_small, has_without_mask}}
use Rattle.dr_machine.specs.{Group.{Group, late_members, IsGroup, banks, roster}, Guards.CanFinish, World.World}
use Rattle.dr_machine.proofs.Groups.{present-small}
use Rattle.dr_faithful.specs.{Chosen.{Values, views_by, AreChosen}, Faithful.Faithful, Tells.Views}
use Rattle.dr_faithful.proofs.Beside.{in_view}
use Rattle.dr_faithful.proofs.ChosenViews.{Changes, named-there, named-within, views-cases, views-comes, views-leaves, views-first, views-within, views-come}

-- the late members that are in no view up to one
unfoldable pub new_in : Group → Values → ℕ → ℕ
new_in g values zero = late_members g
new_in g values (suc v) = without (new_in g values v) (views_by g values (suc v))

new-small : (g : Group) (values : Values) (v : ℕ) → new_in g values v < 2 ^ 16
unfolding new_in
new-small g values zero = without_small g.opening.present g.opening.members
new-small g values (suc v) = without_small (new_in g values v) (views_by g values (suc v))

is-new : (g : Group) (values : Values) (v i : ℕ) → IsGroup g → IsNewIn g.opening (views_by g values) v i
    → has (new_in g values v) i ≡ true
unfolding new_in
is-new g values zero i is new = has_without_mask g.opening.present g.opening.members i (present-small g is)
    ∙ rw (new.late.0, new.late.1) refl
is-new g values (suc v) i is new =
    let before = is-new g values v i is
    (record { late = new.late; absent = λ u l. new.absent u (omega (arith, l)) }) in
    has_without_mask (new_in g values v) (views_by g values (suc v)) i (new-small g values v)
    ∙ rw (before, new.absent (suc v) (omega arith)) refl

new-next : (g : Group) (values : Values) (v i : ℕ) → has (new_in g values (v + 1)) i
    ≡ (has (new_in g values v) i && not (has (views_by g values (v + 1)) i))
unfolding new_in
new-next g values v i =
    let next : v + 1 ≡ suc v = omega arith in
    ap (λ n. has (new_in g values n) i) next ∙ has_without_mask (new_in g values v) (views_by g values (suc v)) i
    (new-small g values v) ∙ ap (λ n. has (new_in g values v) i && not (has (views_by g values n) i)) (sym next)

-- a member of a view counts once, and a late one that is in no view so far twice: each view is worth less than
-- the one before
abbrev worth : Group → Values → ℕ → ℕ
worth g values v = length (members_of (views_by g values v)) + 2 * length (members_of (new_in g values v))

pub worth-falls : (g : Group) (values : Values) (v : ℕ) → IsGroup g → Changes g values v
    → worth g values (v + 1) < worth g values v
unfolding members_of
worth-falls g values v is c = falls-less (views_by g values (v + 1)) (new_in g values (v + 1))
    (views_by g values v) (new_in g values v) i 16 each less small
  where
    i : ℕ
    i = c.named.0

    came : (k : ℕ) → has (views_by g values (v + 1)) k ≡ true
        → (has (views_by g values v) k ≡ true) ⊎ (has (new_in g values v) k ≡ true)
    came k h = by (views-cases g values v k h)
      where
        newer : (has (views_by g values v) k ≡ true) ⊎ IsNewIn g.opening (views_by g values) v k
            → (has (views_by g values v) k ≡ true) ⊎ (has (new_in g values v) k ≡ true)
        newer (inl there) = inl there
        newer (inr new) = inr (is-new g values v k is new)

        by : ((has (views_by g values v) k ≡ true) × (has (values v).leavers k ≡ false))
            ⊎ ((has (views_by g values v) k ≡ false) × (has (values v).leavers k ≡ true))
            → (has (views_by g values v) k ≡ true) ⊎ (has (new_in g values v) k ≡ true)
        by (inl t) = inl t.0
        by (inr t) = newer (c.newcomers k t.1)

    each : (k : ℕ) → one (has (views_by g values (v + 1)) k) + 2 * one (has (new_in g values (v + 1)) k)
        ≤ one (has (views_by g values v) k) + 2 * one (has (new_in g values v) k)
    each k = rw (new-next g values v k) (no-more (has (views_by g values (v + 1)) k)
        (has (views_by g values v) k) (has (new_in g values v) k) (came k))

    small : i < 16
    small = omega (arith, named-within g values v i is c c.named.1, is.most_members)

    less : one (has (views_by g values (v + 1)) i) + 2 * one (has (new_in g values (v + 1)) i)
        < one (has (views_by g values v) i) + 2 * one (has (new_in g values v) i)
    less = by (has (views_by g values v) i) refl
      where
        by : (b : Bool) → has (views_by g values v) i ≡ b
            → one (has (views_by g values (v + 1)) i) + 2 * one (has (new_in g values (v + 1)) i)
            < one (has (views_by g values v) i) + 2 * one (has (new_in g values v) i)
        by true here = rw (new-next g values v i, views-leaves g values v i here c.named.1, here)
            (leaves-less (has (new_in g values v) i))
        by false out = newer out (c.newcomers i c.named.1)
          where
            newer : has (views_by g values v) i ≡ false
                → (has (views_by g values v) i ≡ true) ⊎ IsNewIn g.opening (views_by g values) v i
                → one (has (views_by g values (v + 1)) i) + 2 * one (has (new_in g values (v + 1)) i)
                < one (has (views_by g values v) i) + 2 * one (has (new_in g values v) i)
            newer out (inl there) = absurd (cc (out, there))
            newer out (inr new) = rw (
              new-next g values v i,
              views-comes g values v i is (named-there g values v i is c c.named.1) out c.named.1,
              out,
              is-new g values v i is new,
            ) (omega arith)

worth-first : (g : Group) (values : Values) → IsGroup g → worth g values 0 ≤ banks g
unfolding new_in members_of
worth-first g values is = omega (
  arith,
  ap (λ mask. length (members_of mask)) (views-first g values),
  sums g.opening.members (late_members g) (2 ^ roster g - 1) 16 each,
  ap length (members_of-ones (roster g) is.most_members),
  length-range_with_len 0 (roster g),
)
  where
    below : (k : ℕ) → has g.opening.present k ≡ true → nat_lt k (roster g) ≡ true
    below k h = grind (arith, is.sound.present k h)

    each : (k : ℕ) → one (has g.opening.members k) + one (has (late_members g) k) ≤ one (has (2 ^ roster g - 1) k)
    each k = rw (has_without_mask g.opening.present g.opening.members k (present-small g is), has_ones (roster g) k)
        (early-or-late (has g.opening.members k) (has g.opening.present k) (nat_lt k (roster g))
        (is.sound.part k) (below k))

-- so there are no more views than banks
pub views-few : (g : Group) (values : Values) (v : ℕ) → IsGroup g → ((u : ℕ) → u < v → Changes g values u)
    → worth g values v + v ≤ banks g
views-few g values zero is left = omega (arith, worth-first g values is)
views-few g values (suc v) is left =
    let next : v + 1 ≡ suc v = omega arith in
    omega (
      arith,
      views-few g values v is (λ u l. left u (omega (arith, l))),
      worth-falls g values v is (left v (omega arith)),
      ap (worth g values) next,
    )

-- a member of a view is of the roster
pub of_roster : (g : Group) (values : Values) (v s : ℕ) → IsGroup g
    → Contains (members_of (views_by g values v)) s → s < roster g
of_roster g values v s is member = views-within g values v s is (member-has (views_by g values v) member.0 s
    (slice_get-get_or (members_of (views_by g values v)) member.0 s member.1 ∙ ap Some member.2))

-- a value with which m may end its view: m is wedged, more than half of the view stay, each other one that it
-- names is new, and it names somebody; of each member it takes no less than some member has received for good,
-- and no more than each that stays has received
pub record IsSafe (g : Group) (V : Views) (w : World) (m : ℕ) (value : Value) : Type 0 where
  pub wedged : w.suspects m ≢ 0
  pub mask : ℕ
  pub part : IsPartOf mask (V (w.past.view m))
  pub majority : IsMajorityOf mask (V (w.past.view m))
  pub stay : (i : ℕ) → has mask i ≡ true → has value.leavers i ≡ false
  pub newcomers : (i : ℕ) → has value.leavers i ≡ true
      → (has (V (w.past.view m)) i ≡ true) ⊎ IsNewIn g.opening V (w.past.view m) i
  pub named : (i : ℕ) × (has value.leavers i ≡ true)
  pub least : (s : ℕ) → has (w.members m) s ≡ true → (j : ℕ) × (has (w.members m) j ≡ true)
      × (is_final (w.past.own j (w.past.view m) (recv_column s)) ≡ true)
      × (w.past.count j (w.past.view m) s ≤ slice_index value.trim s)
  pub covered : (i s : ℕ) → has (w.members m) i ≡ true → has value.leavers i ≡ false
      → has (w.members m) s ≡ true → slice_index value.trim s ≤ w.past.count i (w.past.view m) s

-- what is known of a member that may end its view with a value
pub record Finishes (g : Group) (values : Values) (w : World) (m : ℕ) (x : Value) : Type 0 where
  pub within : m < roster g
  pub inside : has (views_by g values (w.past.view m)) m ≡ true
  pub chosen : x ≡ values (w.past.view m)
  pub stays : has (values (w.past.view m)).leavers m ≡ false
  pub bank : w.past.view m + 1 < banks g
  pub safe : IsSafe g (views_by g values) w m x
  pub items : (s : ℕ) → has (views_by g values (w.past.view m)) s ≡ true
      → slice_index (values (w.past.view m)).trim s ≤ w.past.count m (w.past.view m) s

pub finishes : (g : Group) (values : Values) (w : World) (m : ℕ) → IsGroup g
    → Faithful g (views_by g values) w → AreChosen values w → (can : CanFinish g w m)
    → IsSafe g (views_by g values) w m can.value → Finishes g values w m can.value
finishes g values w m is f chosen can safe = record {
  within = f.views.within (w.past.view m) m inside;
  inside = inside;
  chosen = one;
  stays = subst (λ (y : Value). has y.leavers m ≡ false) one can.stays;
  bank = can.bank;
  safe = safe;
  items = λ s member. subst (λ (y : Value). slice_index y.trim s ≤ w.past.count m (w.past.view m) s) one
      (can.items s (ap (λ k. has k s) (f.views.own m) ∙ member));
}
  where
    one : can.value ≡ values (w.past.view m)
    one = chosen m can.value can.committed

    inside : has (views_by g values (w.past.view m)) m ≡ true
    inside = in_view g (views_by g values) w m f can.may.inside

-- a value that is safe changes the view as it should
pub changes : (g : Group) (values : Values) (w : World) (m : ℕ) (x : Value)
    → x ≡ values (w.past.view m) → IsSafe g (views_by g values) w m x → Changes g values (w.past.view m)
changes g values w m x chosen safe = record {
  mask = safe.mask;
  part = safe.part;
  majority = safe.majority;
  stay = λ i h. subst (λ (y : Value). has y.leavers i ≡ false) chosen (safe.stay i h);
  newcomers = λ i h. safe.newcomers i (subst (λ (y : Value). has y.leavers i ≡ true) (sym chosen) h);
  named = (safe.named.0, subst (λ (y : Value). has y.leavers safe.named.0 ≡ true) chosen safe.named.1);
}

-- the members that come of it are those of the next view
pub next-is : (g : Group) (values : Values) (w : World) (m : ℕ) (x : Value) → IsGroup g
    → Faithful g (views_by g values) w → Finishes g values w m x
    → next_members (w.members m) x.leavers ≡ views_by g values (w.past.view m + 1)
next-is g values w m x is f y = ap (λ (z : Value). next_members (w.members m) z.leavers) y.chosen
    ∙ ap (λ mask. next_members mask (values (w.past.view m)).leavers) (f.views.own m)
    ∙ sym (views-come g values (w.past.view m) is (changes g values w m x y.chosen y.safe))
