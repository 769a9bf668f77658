-- The views of an age, each of which ends with a value: their members, how one follows another, and what
-- stays of a view that was left.
use Rattle.std.{specs.Prelude.option_and_then, proofs.lemmas.Bool.{and_parts, cases_lt, cases_eq}}
use Rattle.std.proofs.Common.{false, true, ℕ, ◌≡◌, ◌⊎◌, sym, ◌∙◌, List, ◌∷◌, inr, refl, ap, arith, suc, zero, ◌+◌, ◌≤◌, ◌^◌, ◌<◌, ◌&&◌, not, nat_lt, if◌then◌else◌, subst, Bool, inl, Contains, Some, filter, length, ◌*◌, map, slice_index, [], ◌++◌, append-nil, Option, All, option_to_list, ◌≢◌, unwrap_or, slice_get, None, ◌/◌, ◌%◌}
use Rattle.std.proofs.lemmas.List.{get_or-map, length-map, nil_from_length, Elements.{All-cons, All-nil, All-append}}
use Rattle.std.proofs.lemmas.Option.{none-some, slice_get-get_or, get_or_from_slice_get, same_Some, slice_get_within}
use Rattle.dr_entry.specs.{declared.{end.SentItem.SentItem, entry.Entry.Entry}, declared.record.Value.Value}
use Rattle.dr_entry.proofs.{BoolFacts.named_or, Entries.Letters, ListFacts.top_place}
use Rattle.dr_entry.proofs.{ListPlaces.{some_of, slice_get-some}, NumberFacts.come_in}
use Rattle.dr_history.specs.History.{IsPrefixOf, Sent, last_view, GroupView, item_at, merge, entry_of, messages_in, messages_of}
use Rattle.dr_history.specs.{Members.{has, members_of}, Order.{IsNewIn, ContinuesAge, AreOfRoster, messages_from}}
use Rattle.dr_history.specs.{Places.{AllHeldBelow, front_of, place_of}, declared.opening.Opening.Opening}
use Rattle.dr_history.proofs.{Cutting.cut, Fronts.front_is, Indices.item_at-parts, Letters.IsKept, Ranks.some_member}
use Rattle.dr_history.proofs.{Masks.{same_masks, some_number, none_above}, MemberLemmas.{has-member, member-has}}
use Rattle.dr_history_laws.specs.{Courses.{view_in, counts_taken, head_of}, Laid.{SentMore, laid, entry_at}}
use Rattle.dr_history_laws.{specs.Remaining.{to_send, messages_left}, proofs.Courses.{members-first, members-next}}
use Rattle.dr_history_laws.proofs.{Cutting.cut_merge, Heads.head_view, LaidLemmas.{laid-next, laid-none}}
use Rattle.dr_history_laws.proofs.Wholes.{left_at, left_past}
use Rattle.dr_rows.specs.Words.{seen}
use Rattle.dr_words.specs.{Columns.recv_column, Masks.{IsMajorityOf, IsPartOf, next_members}}
use Rattle.dr_words.proofs.Masks.{in_roster_small, mask_of_small, has_mask_of, has_next_members, next_members_small, kept-of}
use Rattle.dr_machine.specs.{Acts.{CanTake, effect_of}, Effects.joins, Group.{Group, IsGroup, IsPresent, roster}}
use Rattle.dr_machine.specs.{Guards.{CanFinish, CanJoin}, Run.{HaveArrived, with_table, Way}, Sending.IsPut}
use Rattle.dr_machine.specs.{World.{World, Table, Past}, Writes.{at, at₂, at₃}, declared.step.Step.Step}
use Rattle.dr_machine.proofs.{Events.{letters, standing_after}, Groups.{IsOfScript, HasLeft}}
use Rattle.dr_machine.proofs.{Letters.{kept-on, given-on}, Messages.place_of_script, Passed.{AreBefore, AreIdle}}
use Rattle.dr_machine.proofs.{Presence.in_roster, Sending.null_behind, Writes.{at_other, at₂_case}}
use Rattle.dr_faithful.specs.Chosen.{Values, views_by, AreChosen, endings_by, members_by, come_of}
use Rattle.dr_faithful.{specs.{Faithful.{HaveStayed, Faithful}, Tells.Views}, proofs.Beside.none_outside}

-- what is known of the value by which a view ends: more than half of the view stay, each other one that it
-- names is new, and it names somebody
pub record Changes (g : Group) (values : Values) (v : ℕ) : Type 0 where
  pub mask : ℕ
  pub part : IsPartOf mask (views_by g values v)
  pub majority : IsMajorityOf mask (views_by g values v)
  pub stay : (i : ℕ) → has mask i ≡ true → has (values v).leavers i ≡ false
  pub newcomers : (i : ℕ) → has (values v).leavers i ≡ true
      → (has (views_by g values v) i ≡ true) ⊎ IsNewIn g.opening (views_by g values) v i
  pub named : (i : ℕ) × (has (values v).leavers i ≡ true)

-- the value of such a view may be any one
pub value_free : (w : World) (values : Values) (v : ℕ) (x : Value) → AreBefore w v → AreChosen values w
    → AreChosen (at values v x) w
value_free w values v x before chosen k y e = chosen k y e ∙ sym (at_other values v x (w.past.view k)
    (λ same. absurd (none-some y (sym ((before k).none same) ∙ e))))

-- in a world that is reached, and in each world on the way, whoever has committed a value has committed the
-- chosen one of its view
pub record IsReachedBy (g : Group) (values : Values) (us : List World) (w : World) : Type 0 where
  pub way : Way g us w
  pub before : All (AreChosen values) us
  pub now : AreChosen values w

-- so every world that is reached is reached by values
abbrev pub IsReachedSo : Group → List World → World → Type 0
IsReachedSo g us w = ((values : Values) × IsReachedBy g values us w) × AreIdle g w

pub arrived_so : (g : Group) (us : List World) (w : World) (table : Table) → HaveArrived (w ∷ us) w table
    → IsReachedSo g us w → IsReachedSo g (w ∷ us) (with_table w table)
arrived_so g us w table come (r, idle) = (
  (
    r.0,
    record {
      way = (r.1.way, inr (table, come, refl));
      before = All-cons (AreChosen r.0) w us r.1.now r.1.before;
      now = r.1.now;
    },
  ),
  idle,
)

-- the members of the first view, and of a later one
pub views-first : (g : Group) (values : Values) → views_by g values 0 ≡ g.opening.members
views-first g values = members-first g.opening (endings_by g.opening values)

views-are : (g : Group) (values : Values) (v : ℕ) → views_by g values v ≡ members_by g.opening values v
unfolding members_by
views-are g values zero = views-first g values
views-are g values (suc v) =
    let next : suc v ≡ v + 1 = omega arith in
    ap (views_by g values) next ∙ members-next g.opening (endings_by g.opening values) v

pub views-next : (g : Group) (values : Values) (v : ℕ) → views_by g values (v + 1)
    ≡ come_of g.opening (views_by g values v) (values v).leavers
unfolding members_by
views-next g values v = members-next g.opening (endings_by g.opening values) v
    ∙ ap (λ mask. come_of g.opening mask (values v).leavers) (sym (views-are g values v))

-- the members of a view are as the values of the views before it have them
pub members_stay : (g : Group) (values : Values) (v : ℕ) (x : Value) (u : ℕ) → u ≤ v
    → views_by g (at values v x) u ≡ views_by g values u
members_stay g values v x zero l = views-first g (at values v x) ∙ sym (views-first g values)
members_stay g values v x (suc u) l =
    let next : u + 1 ≡ suc u = omega arith in
    rw (← next) (views-next g (at values v x) u ∙ ap (λ mask. come_of g.opening mask (at values v x u).leavers)
    (members_stay g values v x u (omega (arith, l)))
    ∙ ap (λ (y : Value). come_of g.opening (views_by g values u) y.leavers)
    (at_other values v x u (λ same. omega (arith, same, l))) ∙ sym (views-next g values u))

-- what comes of a view is what the ending says
pub ending-next : (g : Group) (values : Values) (v : ℕ)
    → (endings_by g.opening values v).next ≡ views_by g values (v + 1)
ending-next g values v = sym (members-next g.opening (endings_by g.opening values) v)

-- each is a mask
pub views-small : (g : Group) (values : Values) (v : ℕ) → IsGroup g → views_by g values v < 2 ^ 16
views-small g values zero is = rw (views-first g values) (in_roster_small 16 g.opening.members
    (λ i h. omega (arith, is.sound.members.within i h, is.most_members)))
views-small g values (suc v) is =
    let next : suc v ≡ v + 1 = omega arith in rw (next, views-next g values v) (mask_of_small _)

-- who is in a later view is there, and was in the one before and isn't named, or is named and was not
views-are_come : (g : Group) (values : Values) (v i : ℕ) → has (views_by g values (v + 1)) i
    ≡ (nat_lt i 16 && (has g.opening.present i
    && (if has (values v).leavers i then not (has (views_by g values v) i) else has (views_by g values v) i)))
views-are_come g values v i = ap (λ k. has k i) (views-next g values v) ∙ has_mask_of _ i

pub views-cases : (g : Group) (values : Values) (v i : ℕ) → has (views_by g values (v + 1)) i ≡ true
    → ((has (views_by g values v) i ≡ true) × (has (values v).leavers i ≡ false))
    ⊎ ((has (views_by g values v) i ≡ false) × (has (values v).leavers i ≡ true))
views-cases g values v i h =
    let p = and_parts _ _ (sym (views-are_come g values v i) ∙ h) in
    named_or (has (views_by g values v) i) (has (values v).leavers i) (and_parts _ _ p.1).1

-- each is of members that are there
pub views-there : (g : Group) (values : Values) (v i : ℕ) → IsGroup g → has (views_by g values v) i ≡ true
    → IsPresent g i
views-there g values zero i is h = is.sound.part i (sym (ap (λ k. has k i) (views-first g values)) ∙ h)
views-there g values (suc v) i is h =
    let next : suc v ≡ v + 1 = omega arith in
    let p = and_parts _ _ (sym (views-are_come g values v i)
    ∙ subst (λ n. has (views_by g values n) i ≡ true) next h) in
    (and_parts _ _ p.1).0

-- so each is of the roster
pub views-within : (g : Group) (values : Values) (v i : ℕ) → IsGroup g → has (views_by g values v) i ≡ true
    → i < roster g
views-within g values v i is h = in_roster g i is (views-there g values v i is h)

-- who doesn't leave is in the next one, and so is who comes
pub views-stays : (g : Group) (values : Values) (v i : ℕ) → IsGroup g → has (views_by g values v) i ≡ true
    → has (values v).leavers i ≡ false → has (views_by g values (v + 1)) i ≡ true
views-stays g values v i is there stays =
    let l = views-within g values v i is there in
    views-are_come g values v i
    ∙ come_in i (has g.opening.present i) (has (views_by g values v) i) (has (values v).leavers i)
    (omega (arith, l, is.most_members)) (views-there g values v i is there) (rw (stays, there) refl)

pub views-comes : (g : Group) (values : Values) (v i : ℕ) → IsGroup g → IsPresent g i
    → has (views_by g values v) i ≡ false → has (values v).leavers i ≡ true → has (views_by g values (v + 1)) i ≡ true
views-comes g values v i is here out named = views-are_come g values v i
    ∙ come_in i (has g.opening.present i) (has (views_by g values v) i) (has (values v).leavers i)
    (omega (arith, in_roster g i is here, is.most_members)) here (rw (named, out) refl)

-- and who leaves is not
pub views-leaves : (g : Group) (values : Values) (v i : ℕ) → has (views_by g values v) i ≡ true
    → has (values v).leavers i ≡ true → has (views_by g values (v + 1)) i ≡ false
views-leaves g values v i there leaves = by (has (views_by g values (v + 1)) i) refl
  where
    none : ((has (views_by g values v) i ≡ true) × (has (values v).leavers i ≡ false))
        ⊎ ((has (views_by g values v) i ≡ false) × (has (values v).leavers i ≡ true)) → ⊥
    none (inl t) = absurd (cc (leaves, t.1))
    none (inr t) = absurd (cc (there, t.0))

    by : (b : Bool) → has (views_by g values (v + 1)) i ≡ b → has (views_by g values (v + 1)) i ≡ false
    by true e = absurd (none (views-cases g values v i e))
    by false e = e

-- whom it names is there
pub named-there : (g : Group) (values : Values) (v i : ℕ) → IsGroup g → Changes g values v
    → has (values v).leavers i ≡ true → IsPresent g i
named-there g values v i is c h = by (c.newcomers i h)
  where
    by : (has (views_by g values v) i ≡ true) ⊎ IsNewIn g.opening (views_by g values) v i → IsPresent g i
    by (inl there) = views-there g values v i is there
    by (inr new) = new.late.0

-- and so of the roster
pub named-within : (g : Group) (values : Values) (v i : ℕ) → IsGroup g → Changes g values v
    → has (values v).leavers i ≡ true → i < roster g
named-within g values v i is c h = in_roster g i is (named-there g values v i is c h)

-- so what comes of the view by it is the next one
pub views-come : (g : Group) (values : Values) (v : ℕ) → IsGroup g → Changes g values v
    → views_by g values (v + 1) ≡ next_members (views_by g values v) (values v).leavers
views-come g values v is c = same_masks (views_by g values (v + 1))
    (next_members (views_by g values v) (values v).leavers) (λ i. by i (cases_lt i 16) (has g.opening.present i) refl)
  where
    out : (i : ℕ) → has g.opening.present i ≡ false → (b : Bool) → has (values v).leavers i ≡ b → b ≡ false
    out i away true e = absurd (cc (away, named-there g values v i is c e))
    out i away false e = refl

    gone : (i : ℕ) → has g.opening.present i ≡ false → (b : Bool) → has (views_by g values v) i ≡ b → b ≡ false
    gone i away true e = absurd (cc (away, views-there g values v i is e))
    gone i away false e = refl

    within : (i : ℕ) (p x : Bool) → i < 16 → p ≡ true → (nat_lt i 16 && (p && x)) ≡ x
    within i p x small here = rw here (grind (arith, small))

    beyond : (i : ℕ) (p x : Bool) → p ≡ false → (nat_lt i 16 && (p && x)) ≡ false
    beyond i p x away = rw away (grind arith)

    by : (i : ℕ) → (i < 16) ⊎ (16 ≤ i) → (p : Bool) → has g.opening.present i ≡ p
        → has (views_by g values (v + 1)) i ≡ has (next_members (views_by g values v) (values v).leavers) i
    by i (inl small) true here = views-are_come g values v i ∙ within i (has g.opening.present i) _ small here
        ∙ sym (has_next_members (views_by g values v) (values v).leavers i small)
    by i (inl small) false away = views-are_come g values v i ∙ beyond i (has g.opening.present i) _ away
        ∙ sym (has_next_members (views_by g values v) (values v).leavers i small
        ∙ rw (out i away (has (values v).leavers i) refl, gone i away (has (views_by g values v) i) refl) refl)
    by i (inr above) p e = none_above (views_by g values (v + 1)) i (views-small g values (v + 1) is) above
        ∙ sym (none_above (next_members (views_by g values v) (values v).leavers) i
        (next_members_small (views_by g values v) (values v).leavers) above)

-- it may follow, with a number that is small, and more than half of the view are in it
pub next-follows : (g : Group) (values : Values) (v : ℕ) → IsGroup g → Changes g values v → v + 1 < 256
    → ContinuesAge (view_in g.opening (endings_by g.opening values) v) g.opening.age (v + 1)
    (endings_by g.opening values v).next
next-follows g values v is c small = record {
  same_age = refl;
  next_number = refl;
  numbers = (small, rw (ending-next g values v) (views-small g values (v + 1) is));
  other = λ same. other c.named.0 c.named.1 (has (views_by g values v) c.named.0) refl
      (ap members_of (sym (ending-next g values v)) ∙ same);
}
  where
    there : (a b i : ℕ) → members_of a ≡ members_of b → has a i ≡ true → i < 16 → has b i ≡ true
    there a b i same h l =
        let c = subst (λ xs. Contains xs i) same (has-member a i h l) in
        member-has b c.0 i (slice_get-get_or (members_of b) c.0 i c.1 ∙ ap Some c.2)

    other : (i : ℕ) → has (values v).leavers i ≡ true → (b : Bool) → has (views_by g values v) i ≡ b
        → members_of (views_by g values (v + 1)) ≡ members_of (views_by g values v) → ⊥
    other i named true here same =
        let l = views-within g values v i is here in
        absurd (cc (
          views-leaves g values v i here named,
          there (views_by g values v) (views_by g values (v + 1)) i (sym same) here
              (omega (arith, l, is.most_members)),
        ))
    other i named false out same =
        let l = named-within g values v i is c named in
        absurd (cc (
          out,
          there (views_by g values (v + 1)) (views_by g values v) i same (views-comes g values v i is
              (named-there g values v i is c named) out named) (omega (arith, l, is.most_members)),
        ))

pub next-majority : (g : Group) (values : Values) (v : ℕ) → IsGroup g → Changes g values v
    → length (members_of (views_by g values v))
    < 2 * length (filter (has (endings_by g.opening values v).next) (members_of (views_by g values v)))
next-majority g values v is c = omega (
  arith,
  c.majority,
  kept-of c.mask (views_by g values v) (endings_by g.opening values v).next c.part
      (λ i h. ap (λ k. has k i) (ending-next g values v) ∙ views-stays g values v i is (c.part i h) (c.stay i h)),
)

pub somebody-stays : (g : Group) (values : Values) (v : ℕ) → Changes g values v
    → (i : ℕ) × (has (views_by g values v) i ≡ true) × (has (values v).leavers i ≡ false)
somebody-stays g values v c =
    let x = some_of (members_of c.mask) (omega (arith, c.majority)) in
    let h = member-has c.mask 0 x.0 x.1 in (x.0, c.part x.0 h, c.stay x.0 h)

pub next-roster : (g : Group) (values : Values) (v : ℕ) → IsGroup g → Changes g values v
    → AreOfRoster (roster g) (endings_by g.opening values v).next
next-roster g values v is c = subst (AreOfRoster (roster g)) (sym (ending-next g values v)) (record {
  some = some_number (views_by g values (v + 1)) s.0 (views-stays g values v s.0 is s.1 s.2);
  within = λ i h. views-within g values (v + 1) i is h;
})
  where
    s : (i : ℕ) × (has (views_by g values v) i ≡ true) × (has (values v).leavers i ≡ false)
    s = somebody-stays g values v c

-- and each other one in it is new
pub next-newcomers : (g : Group) (values : Values) (v s : ℕ) → IsGroup g → Changes g values v
    → has (endings_by g.opening values v).next s ≡ true
    → Contains (members_of (views_by g values v)) s ⊎ IsNewIn g.opening (views_by g values) v s
next-newcomers g values v s is c h =
    by (views-cases g values v s (sym (ap (λ k. has k s) (ending-next g values v)) ∙ h))
  where
    named : (has (views_by g values v) s ≡ true) ⊎ IsNewIn g.opening (views_by g values) v s
        → Contains (members_of (views_by g values v)) s ⊎ IsNewIn g.opening (views_by g values) v s
    named (inl there) = inl (has-member (views_by g values v) s there
        (omega (arith, views-within g values v s is there, is.most_members)))
    named (inr new) = inr new

    by : ((has (views_by g values v) s ≡ true) × (has (values v).leavers s ≡ false))
        ⊎ ((has (views_by g values v) s ≡ false) × (has (values v).leavers s ≡ true))
        → Contains (members_of (views_by g values v)) s ⊎ IsNewIn g.opening (views_by g values) v s
    by (inl t) = named (inl t.0)
    by (inr t) = named (c.newcomers s t.1)

-- so who is in it and not late was in the view
pub next-stayed : (g : Group) (values : Values) (v : ℕ) → Changes g values v
    → HaveStayed g (views_by g values) v (v + 1)
next-stayed g values v c i h early = by (views-cases g values v i h)
  where
    named : (has (views_by g values v) i ≡ true) ⊎ IsNewIn g.opening (views_by g values) v i
        → has (views_by g values v) i ≡ true
    named (inl there) = there
    named (inr new) = absurd (cc (new.late.1, early))

    by : ((has (views_by g values v) i ≡ true) × (has (values v).leavers i ≡ false))
        ⊎ ((has (views_by g values v) i ≡ false) × (has (values v).leavers i ≡ true))
        → has (views_by g values v) i ≡ true
    by (inl t) = t.0
    by (inr t) = named (c.newcomers i t.1)

place-kept_in : (g : Group) (values : Values) (w : World) (m : ℕ) → IsGroup g → Faithful g (views_by g values) w
    → has (views_by g values (w.past.view m)) m ≡ true → ((s : ℕ) → has (views_by g values (w.past.view m)) s ≡ true
    → (j : ℕ) × (has (views_by g values (w.past.view m)) j ≡ true)
    × (w.past.count j (w.past.view m) s ≤ slice_index (values (w.past.view m)).trim s))
    → w.next m ≤ front_of (counts_taken g.opening (endings_by g.opening values) (w.past.view m))
place-kept_in g values w m is f here least = (front_is (map taken ms) some).greatest (w.next m) held
  where
    v : ℕ
    v = w.past.view m

    ms : List ℕ
    ms = members_of (views_by g values (w.past.view m))

    taken : ℕ → ℕ
    taken s = slice_index (values (w.past.view m)).trim s

    l : m < roster g
    l = f.views.within (w.past.view m) m here

    some : 0 < length (map taken (members_of (views_by g values (w.past.view m))))
    some = omega (
      arith,
      length-map ms taken,
      some_member (views_by g values v) m (omega (arith, l, is.most_members)) here,
    )

    few : (j : ℕ) → 0 < length (map (w.past.count j (w.past.view m)) (members_of (views_by g values (w.past.view m))))
    few j = omega (arith, some, length-map ms taken, length-map ms (w.past.count j v))

    held : AllHeldBelow (map taken (members_of (views_by g values (w.past.view m)))) (w.next m)
    held rank k within below =
        let inside : rank < length ms = omega (arith, within, length-map ms taken) in
        let s = slice_get-some ms rank inside in
        let j = least s.0 (member-has (views_by g values v) rank s.0 s.1) in
        let front = front_is (map (w.past.count j.0 v) ms) (few j.0) in
        let read : slice_index (map (w.past.count j.0 v) ms) rank ≡ w.past.count j.0 v s.0 =
        get_or-map (w.past.count j.0 v) ms rank 0 0 inside
        ∙ ap (w.past.count j.0 v) (get_or_from_slice_get ms rank s.0 0 s.1) in
        let cut : slice_index (map taken ms) rank ≡ taken s.0 =
        get_or-map taken ms rank 0 0 inside ∙ ap taken (get_or_from_slice_get ms rank s.0 0 s.1) in
        let same : length (map taken ms) ≡ length (map (w.past.count j.0 v) ms) =
        length-map ms taken ∙ sym (length-map ms (w.past.count j.0 v)) in
        let place : place_of (length (map (w.past.count j.0 v) ms)) rank k < w.next m =
        subst (λ n. place_of n rank k < w.next m) same below in
        let has_it = front.held rank k (omega (arith, within, same))
        (omega (arith, place, f.delivered.held m j.0 j.1, f.counts.received j.0 v)) in
        omega (arith, has_it, read, cut, j.2)

-- nobody has delivered a place of it that is cut off
pub place-kept : (g : Group) (values : Values) (w : World) (m : ℕ) → IsGroup g → Faithful g (views_by g values) w
    → ((s : ℕ) → has (views_by g values (w.past.view m)) s ≡ true
    → (j : ℕ) × (has (views_by g values (w.past.view m)) j ≡ true)
    × (w.past.count j (w.past.view m) s ≤ slice_index (values (w.past.view m)).trim s))
    → w.next m ≤ front_of (counts_taken g.opening (endings_by g.opening values) (w.past.view m))
place-kept g values w m is f least = by (has (views_by g values (w.past.view m)) m) refl
  where
    by : (b : Bool) → has (views_by g values (w.past.view m)) m ≡ b
        → w.next m ≤ front_of (counts_taken g.opening (endings_by g.opening values) (w.past.view m))
    by true here = place-kept_in g values w m is f here least
    by false none = let zero = f.delivered.none m none in omega (arith, zero)

-- one item more is sent
pub sent_more : (sent : Sent) (m v : ℕ) (name : SentItem) → SentMore sent (at₂ sent m v (sent m v ++ name ∷ []))
sent_more sent m v name = at₂_case (λ s n xs. IsPrefixOf (sent s n) xs) sent m v
    (sent m v ++ name ∷ []) (λ s n. ([], append-nil (sent s n))) (name ∷ [], refl)

-- the letter for member j is the head of a view that somebody has come to, the first one that j is in
pub record IsLetter (g : Group) (values : Values) (past : Past) (j : ℕ) (letter : List Entry) : Type 0 where
  pub view : ℕ
  pub giver : ℕ
  pub within : giver < roster g
  pub come : view ≤ past.view giver
  pub is : letter ≡ head_of g.opening past.sent (endings_by g.opening values) view
  pub member : has (views_by g values view) j ≡ true
  pub new : (u : ℕ) → u < view → has (views_by g values u) j ≡ false
  -- and the least of those that stayed gave it
  pub from : ℕ
  pub next : view ≡ from + 1
  pub was : has (views_by g values from) giver ≡ true
  pub stays : has (views_by g values view) giver ≡ true
  pub least : (i : ℕ) → has (views_by g values from) i ≡ true → has (views_by g values view) i ≡ true → giver ≤ i

-- the last View of the letter is that of the view
pub letter-view : (g : Group) (values : Values) (w : World) (j : ℕ) (l : List Entry)
    → (t : IsLetter g values w.past j l) → last_view (0, 0) l ≡ (t.view, views_by g values t.view)
letter-view g values w j l t = ap (last_view (0, 0)) t.is
    ∙ head_view g.opening w.past.sent (endings_by g.opening values) t.view (0, 0)

pub letter-number : (g : Group) (values : Values) (w : World) (j : ℕ) (l : List Entry)
    → (t : IsLetter g values w.past j l) → (last_view (0, 0) l).0 ≡ t.view
letter-number g values w j l t = ap (λ x. x.0) (letter-view g values w j l t)

-- and it has put nothing
pub outside-sent : (g : Group) (V : Views) (w : World) (m : ℕ) → Faithful g V w → m < roster g
    → has (w.members m) m ≡ false → w.past.sent m (w.past.view m) ≡ []
outside-sent g V w m f l outside = nil_from_length (w.past.sent m (w.past.view m)) (omega (
  arith,
  f.sent.all m (w.past.view m),
  f.counts.recv m (w.past.view m) m l,
  none_outside g V w m (w.past.view m) (recv_column m) f (ap (λ k. has k m) (sym (f.views.own m)) ∙ outside)
      (omega arith),
))

-- so are these letters
abbrev pub AreHeads : Group → Values → Past → (ℕ → Option (List Entry)) → Type 0
AreHeads g values past letter = (j : ℕ) (l : List Entry) → letter j ≡ Some l → IsLetter g values past j l

-- each letter is the head of such a view, and its giver keeps that it has given it; and who has given one has
-- not lost it
pub record AreGiven (g : Group) (values : Values) (past : Past) (p : Letters) : Type 0 where
  pub letters : (j : ℕ) (l : List Entry) → p.letter j ≡ Some l
      → (t : IsLetter g values past j l) × IsKept p.view p.given t.giver t.view j
  pub given : (m j : ℕ) → has (p.given m) j ≡ true → (l : List Entry) × (p.letter j ≡ Some l)

pub are-heads : (g : Group) (values : Values) (past : Past) (p : Letters) → AreGiven g values past p
    → AreHeads g values past p.letter
are-heads g values past p y j l e = (y.letters j l e).0

pub goes : (g : Group) (values : Values) (w : World) (m to : ℕ) → w.past.view m < to
    → AreGiven g values w.past (letters w)
    → AreGiven g values w.past (record { view = at w.past.view m to; given = at w.given m 0; letter = w.letter })
goes g values w m to later old = record {
  letters = λ j l e. let t = old.letters j l e in
      (t.0, kept-on w.past.view w.given m to t.0.giver t.0.view j later t.0.come t.1);
  given = given-on w.given w.letter m old.given;
}

-- and each entry that is laid
pub laid_of_script : (g : Group) (sent : Sent) (v : GroupView) (p : ℕ) → All (IsOfScript g) (laid g.opening sent v p)
laid_of_script g sent v zero = subst (All (IsOfScript g)) (sym (laid-none g.opening sent v)) (All-nil (IsOfScript g))
laid_of_script g sent v (suc p) =
    let next : suc p ≡ p + 1 = omega arith in
    subst (All (IsOfScript g)) (sym (ap (laid g.opening sent v) next ∙ laid-next g.opening sent v p))
    (All-append (IsOfScript g) (laid g.opening sent v p) (option_to_list (entry_at g.opening sent v p))
    (laid_of_script g sent v p) (place_of_script g (item_at sent v p)))

-- and each of a merge
pub merged_of_script : (g : Group) (sent : Sent) (v : GroupView) (taken : ℕ → ℕ)
    → All (IsOfScript g) (merge g.opening sent v (map taken v.members))
merged_of_script g sent v taken = subst (All (IsOfScript g)) (sym (cut_merge g.opening sent v taken))
    (laid_of_script g (cut sent v taken) v (top_place (map taken v.members)))

-- a view that is left after a step was left before it, or is the one that the step ends
pub left_or_ended : (g : Group) (values : Values) (w : World) (m : ℕ) (s : Step) (k v : ℕ)
    → AreHeads g values w.past w.letter → CanTake g w m s
    → v < (effect_of g w m s).past.view k → HasLeft g w v k ⊎ (CanFinish g w k × (v ≡ w.past.view k))
left_or_ended g values w m s k v letters can = standing_after g w m s
    (λ x. v < x.view k → HasLeft g w v k ⊎ (CanFinish g w k × (v ≡ w.past.view k))) can (record {
      goes_on = λ can l. moved can l (cases_eq k m);
      joins = λ can l. came can l (cases_eq k m);
      chooses = λ can l. before l;
      wedges = λ j can l. before l;
      stops = λ end alive why l. before l;
      stays = λ l. before l;
    })
  where
    before : v < w.past.view k → HasLeft g w v k ⊎ (CanFinish g w k × (v ≡ w.past.view k))
    before l = inl (inl l)

    here : (view : ℕ → ℕ) (m v : ℕ) → v < at view m (view m + 1) m → (v < view m) ⊎ (v ≡ view m)
    here view m v l = grind (arith, l)

    other : (view : ℕ → ℕ) (m k v : ℕ) → k ≢ m → v < at view m (view m + 1) k → v < view k
    other view m k v d l = grind (arith, d, l)

    ended : CanFinish g w m → (v < w.past.view m) ⊎ (v ≡ w.past.view m)
        → HasLeft g w v m ⊎ (CanFinish g w m × (v ≡ w.past.view m))
    ended can (inl less) = inl (inl less)
    ended can (inr same) = inr (can, same)

    moved : CanFinish g w m → v < at w.past.view m (w.past.view m + 1) k → (k ≡ m) ⊎ (k ≢ m)
        → HasLeft g w v k ⊎ (CanFinish g w k × (v ≡ w.past.view k))
    moved can l (inl same) = subst (λ i. HasLeft g w v i ⊎ (CanFinish g w i × (v ≡ w.past.view i))) (sym same)
        (ended can (here w.past.view m v (subst (λ i. v < at w.past.view m (w.past.view m + 1) i) same l)))
    moved can l (inr d) = before (other w.past.view m k v d l)

    -- whoever joins comes into a view that the giver of its letter has come to
    elsewhere : (view : ℕ → ℕ) (m k v to : ℕ) → k ≢ m → v < at view m to k → v < view k
    elsewhere view m k v to d l = grind (arith, d, l)

    there : (view : ℕ → ℕ) (m v to : ℕ) → v < at view m to m → v < to
    there view m v to l = grind (arith, l)

    came : CanJoin g w m → v < (joins w m).past.view k → (k ≡ m) ⊎ (k ≢ m)
        → HasLeft g w v k ⊎ (CanFinish g w k × (v ≡ w.past.view k))
    came can l (inl same) =
        let t = letters m can.letter can.given in
        let to : ℕ = (last_view (0, 0) can.letter).0 in
        let less : v < to = there w.past.view m v to (subst (λ i. v < at w.past.view m to i) same
        (subst (λ r. v < at w.past.view m (last_view (0, 0) (unwrap_or r [])).0 k) can.given l)) in
        inl (inr (t.giver, t.within, omega (arith, less, t.come, letter-number g values w m can.letter t)))
    came can l (inr d) = before (elsewhere w.past.view m k v (last_view (0, 0) (unwrap_or (w.letter m) [])).0 d l)

-- each item that a member has put adds the entry of the message that is left in its place, if there is one
pub same_entry : (o : Opening) (s v k : ℕ) (items : List SentItem) (item : SentItem)
    → IsPut (length (messages_from s o.start)) (length (messages_of o s)) items → slice_get items k ≡ Some item
    → entry_of o s item ≡ option_and_then (entry_of o s) (slice_get (to_send o s v) k)
same_entry o s v k items item put e = by (cases_lt k (messages_in items))
  where
    by : (k < messages_in items) ⊎ (messages_in items ≤ k)
        → entry_of o s item ≡ option_and_then (entry_of o s) (slice_get (to_send o s v) k)
    by (inl early) = ap (entry_of o s) (same_Some item _ (sym e ∙ put.index k early))
        ∙ sym (ap (option_and_then (entry_of o s)) (left_at o s v k (omega (arith, early, put.left))))
    by (inr late) =
        let full = put.nulls (omega (arith, late, slice_get_within items k item e)) in
        ap (entry_of o s) (null_behind _ _ items k item put late e)
        ∙ sym (ap (option_and_then (entry_of o s)) (left_past o s v k (omega (arith, late, full))))

-- a place that holds an item adds the entry that stands there among what is left
pub same_place : (o : Opening) (sent : Sent) (v : GroupView) (p s : ℕ) (item : SentItem)
    → IsPut (length (messages_from s o.start)) (length (messages_of o s)) (sent s v.number)
    → item_at sent v p ≡ Some (s, item) → entry_at o (to_send o) v p ≡ entry_at o sent v p
same_place o sent v p s item put e = by (slice_get (to_send o s v.number) k) refl ∙ sym (same_entry o s v.number k
    (sent s v.number) item put parts.1) ∙ sym (ap (option_and_then (λ t. entry_of o t.0 t.1)) e)
  where
    k : ℕ
    k = p / length v.members

    parts : (slice_get v.members (p % length v.members) ≡ Some s)
        × (slice_get (sent s v.number) (p / length v.members) ≡ Some item)
    parts = item_at-parts sent v p s item e

    by : (z : Option SentItem) → slice_get (to_send o s v.number) (p / length v.members) ≡ z
        → entry_at o (to_send o) v p
        ≡ option_and_then (entry_of o s) (slice_get (to_send o s v.number) (p / length v.members))
    by None is = rw (parts.0, is) refl
    by (Some x) is = rw (parts.0, is) refl

pub seen_other : (seen : ℕ → ℕ → ℕ → ℕ) (m j c x i d : ℕ) → i ≢ j → at₃ seen m j c x m i d ≡ seen m i d
seen_other seen m j c x i d other = grind (arith, other)

-- all messages that the start leaves stand at places before the next one of the member
abbrev pub IsPastAll : Group → World → ℕ → Type 0
IsPastAll g w m = (s k : ℕ) → s < roster g → k < messages_left g.opening s → k * roster g + s < w.next m

-- each member has put as many items as it has messages left
abbrev pub PutAll : Group → World → Type 0
PutAll g w = (s : ℕ) → s < roster g → messages_left g.opening s ≤ length (w.past.sent s 0)
