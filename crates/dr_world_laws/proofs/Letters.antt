-- The letters of late members: each is the head of the first view that its member is in.
use Rattle.std.proofs.Common.{List, [], ◌∷◌, ◌++◌, None, Option, Some, append-nil, length, length-append, refl, ◌≡◌, ◌⊎◌, Contains, ap, arith, false, inl, inr, subst, sym, true, ℕ, ◌+◌, ◌<◌, ◌∙◌, ◌≤◌}
use Rattle.std.proofs.lemmas.{Bool.cases_lt, Option.{same_Some, slice_get-get_or}}
use Rattle.dr_entry.specs.declared.entry.Entry.{Entry}
use Rattle.dr_history.specs.{History.{IsPrefixOf, last_view, up_to_view}, Members.{has, members_of}, Order.IsNewIn}
use Rattle.dr_history.proofs.{Letters.IsKept, MemberLemmas.member-has}
use Rattle.dr_history_laws.{specs.Courses.ViewHasEnded, proofs.Courses.{course-head, head-steady}}
use Rattle.dr_history_laws.proofs.Heads.{course_up_to, head_view}
use Rattle.dr_machine.specs.{Acts.{CanTake, effect_of}, Effects.welcomes, Group.{Group, IsGroup, roster}}
use Rattle.dr_machine.specs.{Guards.CanWelcome, Run.PastGrew, World.World, Writes.at, declared.step.Step.Step}
use Rattle.dr_machine.proofs.{Events.{given_after, letters}, Letters.{kept-more, given-more}, Presence.in_roster}
use Rattle.dr_machine.proofs.{Worlds.joined_is, Writes.{at_case, at_same}}
use Rattle.dr_words.{specs.Masks.with_member, proofs.Masks.has-new}
use Rattle.dr_faithful.specs.{Chosen.{Values, endings_by, views_by}, Faithful.{AllGoOn, Faithful}}
use Rattle.dr_faithful.proofs.ChosenViews.{ending-next, IsLetter, AreGiven, goes}
use Rattle.dr_world_laws.{specs.Historic.{AreLaid, head_by}, proofs.Holding.head-later}

-- its View stands behind all that every history begins with
pub letter-behind : (g : Group) (values : Values) (w : World) (j : ℕ) (letter : List Entry)
    → IsLetter g values w.past j letter → length (head_by g values w 0) < length (up_to_view letter)
letter-behind g values w j letter t = rw whole (by begins.0 begins.1)
  where
    begins : IsPrefixOf (head_by g values w 0) letter
    begins = subst (IsPrefixOf (head_by g values w 0)) (sym t.is)
        (head-later g values w 0 t.view (omega (arith, t.next)))

    whole : up_to_view letter ≡ letter
    whole = ap up_to_view (t.is ∙ sym (course-head g.opening w.past.sent (endings_by g.opening values) t.view))
        ∙ course_up_to g.opening w.past.sent (endings_by g.opening values) t.view 0 ∙ sym t.is

    last : (v : ℕ) → (last_view (0, 0) (head_by g values w v)).0 ≡ v
    last v = ap (λ x. x.0) (head_view g.opening w.past.sent (endings_by g.opening values) v (0, 0))

    number : head_by g values w 0 ≡ letter → 0 ≡ t.view
    number same = sym (last 0) ∙ ap (λ es. (last_view (0, 0) es).0) (same ∙ t.is) ∙ last t.view

    by : (rest : List Entry) → head_by g values w 0 ++ rest ≡ letter → length (head_by g values w 0) < length letter
    by [] same = absurd (omega (arith, t.next, number (sym (append-nil (head_by g values w 0)) ∙ same)))
    by (e ∷ rest) more = omega (arith, ap length more, length-append (head_by g values w 0) (e ∷ rest))

-- a letter stays so
letter-on : (g : Group) (values : Values) (w after : World) (j : ℕ) (l : List Entry) → AreLaid g values w
    → PastGrew w.past after.past → IsLetter g values w.past j l → IsLetter g values after.past j l
letter-on g values w after j l laid grew t = record {
  view = t.view;
  giver = t.giver;
  within = t.within;
  come = omega (arith, t.come, grew.view t.giver);
  is = t.is ∙ sym (head-steady g.opening w.past.sent after.past.sent (endings_by g.opening values) t.view
      grew.sent (λ u less. (laid.left t.giver u t.within (omega (arith, less, t.come))).ended));
  member = t.member;
  new = t.new;
  from = t.from;
  next = t.next;
  was = t.was;
  stays = t.stays;
  least = t.least;
}

-- who comes into the view with m, which was in the one before, is in no view before
comes-new : (g : Group) (values : Values) (w : World) (m j : ℕ) → IsGroup g → Faithful g (views_by g values) w
    → AreLaid g values w → CanWelcome g w m j → (u : ℕ) → u < w.past.view m → has (views_by g values u) j ≡ false
comes-new g values w m j is f laid can u less = (fresh (ended.newcomers j next)).absent u (omega (arith, less, was.1))
  where
    l : m < roster g
    l = in_roster g m is can.may.alive.present

    there : has (views_by g values (w.past.view m)) j ≡ true
    there = ap (λ k. has k j) (sym (f.views.own m)) ∙ can.newcomer

    was : (u : ℕ) × (w.past.view m ≡ u + 1) × (w.came_from m ≡ views_by g values u)
    was = f.views.came m can.welcomer

    ended : ViewHasEnded g.opening w.past.sent (endings_by g.opening values) was.0
    ended = (laid.left m was.0 l (omega (arith, was.1))).ended

    next : has (endings_by g.opening values was.0).next j ≡ true
    next = ap (λ k. has k j) (ending-next g values was.0)
        ∙ subst (λ v. has (views_by g values v) j ≡ true) was.1 there

    fresh : Contains (members_of (views_by g values was.0)) j ⊎ IsNewIn g.opening (views_by g values) was.0 j
        → IsNewIn g.opening (views_by g values) was.0 j
    fresh (inl c) =
        let there : has (views_by g values was.0) j ≡ true = member-has (views_by g values was.0) c.0 j
        (slice_get-get_or (members_of (views_by g values was.0)) c.0 j c.1 ∙ ap Some c.2) in
        absurd (cc (there, ap (λ k. has k j) (sym was.2) ∙ can.new))
    fresh (inr new) = new

-- what m gives is one
given-letter : (g : Group) (values : Values) (w : World) (m j : ℕ) → IsGroup g → Faithful g (views_by g values) w
    → AreLaid g values w → CanWelcome g w m j → IsLetter g values w.past j (up_to_view (w.past.history m))
given-letter g values w m j is f laid can = record {
  view = w.past.view m;
  giver = m;
  within = l;
  come = omega arith;
  is = ap up_to_view (laid.historic.history m l)
      ∙ course_up_to g.opening w.past.sent (endings_by g.opening values) (w.past.view m) (w.next m);
  member = ap (λ k. has k j) (sym (f.views.own m)) ∙ can.newcomer;
  new = comes-new g values w m j is f laid can;
  from = was.0;
  next = was.1;
  was = ap (λ k. has k m) (sym was.2) ∙ can.welcomer;
  stays = ap (λ k. has k m) (sym (f.views.own m)) ∙ can.may.inside;
  least = λ i there stays. can.least i (ap (λ k. has k i) was.2 ∙ there) (ap (λ k. has k i) (f.views.own m) ∙ stays);
}
  where
    l : m < roster g
    l = in_roster g m is can.may.alive.present

    was : (u : ℕ) × (w.past.view m ≡ u + 1) × (w.came_from m ≡ views_by g values u)
    was = f.views.came m can.welcomer

-- ---- who has given it

-- so it stays
gives : (g : Group) (values : Values) (w : World) (m i : ℕ) → IsGroup g → Faithful g (views_by g values) w
    → AreLaid g values w → CanWelcome g w m i → AreGiven g values w.past (letters w)
    → AreGiven g values w.past (letters (welcomes w m i))
unfolding given-letter
gives g values w m i is f laid can old = record {
  letters = at_case (λ k (r : Option (List Entry)). (l : List Entry) → r ≡ Some l
      → (t : IsLetter g values w.past k l) × IsKept w.past.view more t.giver t.view k) w.letter i
      (Some (up_to_view (w.past.history m))) (λ k d l e. let t = old.letters k l e in (
        t.0,
        kept-more w.past.view w.given m i t.0.giver t.0.view k (small t.0.view k t.0.member) t.1,
      ))
      (λ l e. subst (λ es. (t : IsLetter g values w.past i es) × IsKept w.past.view more t.giver t.view i)
      (same_Some (up_to_view (w.past.history m)) l e) (
        given-letter g values w m i is f laid can,
        inl (ap (λ x. has x i) (at_same w.given m (with_member (w.given m) i)) ∙ has-new (w.given m) i
            (small (w.past.view m) i (ap (λ k. has k i) (sym (f.views.own m)) ∙ can.newcomer))),
      ));
  given = given-more w.given w.letter m i (up_to_view (w.past.history m)) old.given;
}
  where
    more : ℕ → ℕ
    more = at w.given m (with_member (w.given m) i)

    small : (v k : ℕ) → has (views_by g values v) k ≡ true → k < 16
    small v k there = omega (arith, f.views.within v k there, is.most_members)

-- and the letters are such after each step
pub letters-stay : (g : Group) (values : Values) (w : World) (m : ℕ) (s : Step) → IsGroup g
    → Faithful g (views_by g values) w → AllGoOn g (views_by g values) w → AreLaid g values w
    → PastGrew w.past (effect_of g w m s).past → CanTake g w m s → AreGiven g values w.past (letters w)
    → AreGiven g values (effect_of g w m s).past (letters (effect_of g w m s))
unfolding letter-on
letters-stay g values w m s is f well laid grew can old = record {
  letters = λ j l e. let t = now.letters j l e in
      (letter-on g values w (effect_of g w m s) j l laid grew t.0, t.1);
  given = now.given;
}
  where
    now : AreGiven g values w.past (letters (effect_of g w m s))
    now = given_after g w m s (AreGiven g values w.past) can (record {
      gives = λ i may. gives g values w m i is f laid may old;
      goes_on = λ may. goes g values w m (w.past.view m + 1) (omega arith) old;
      joins = λ may. joined_is w m may.letter (λ u. AreGiven g values w.past (letters u)) may.given
          (goes g values w m (last_view (0, 0) may.letter).0 (well.join m may).later old);
      stays = old;
    })

-- a member gives no second letter, nor does another
pub gives-once : (g : Group) (values : Values) (w : World) (m j : ℕ) → IsGroup g → Faithful g (views_by g values) w
    → AreLaid g values w → AreGiven g values w.past (letters w) → CanWelcome g w m j → w.letter j ≡ None
gives-once g values w m j is f laid y can = by (w.letter j) refl
  where
    was : (u : ℕ) × (w.past.view m ≡ u + 1) × (w.came_from m ≡ views_by g values u)
    was = f.views.came m can.welcomer

    there : has (views_by g values (w.past.view m)) j ≡ true
    there = ap (λ k. has k j) (sym (f.views.own m)) ∙ can.newcomer

    -- it is the same view
    same-view : (l : List Entry) (t : IsLetter g values w.past j l) → (t.view < w.past.view m)
        ⊎ (w.past.view m ≤ t.view) → (w.past.view m < t.view) ⊎ (t.view ≤ w.past.view m) → t.view ≡ w.past.view m
    same-view l t (inl less) b = absurd (cc (t.member, comes-new g values w m j is f laid can t.view less))
    same-view l t (inr a) (inl less) = absurd (cc (there, t.new (w.past.view m) less))
    same-view l t (inr a) (inr b) = omega (arith, a, b)

    by : (r : Option (List Entry)) → w.letter j ≡ r → w.letter j ≡ None
    by None e = e
    by (Some l) e =
        let y = y.letters j l e in
        let t = y.0 in
        let view : t.view ≡ w.past.view m = same-view l t (cases_lt t.view (w.past.view m))
        (cases_lt (w.past.view m) t.view) in
        let from : t.from ≡ was.0 = omega (arith, view, t.next, was.1) in
        let low : t.giver ≤ m = t.least m (subst (λ u. has (views_by g values u) m ≡ true)
        (sym from) (ap (λ k. has k m) (sym was.2) ∙ can.welcomer)) (subst (λ u. has (views_by g values u) m ≡ true)
        (sym view) (ap (λ k. has k m) (sym (f.views.own m)) ∙ can.may.inside)) in
        let high : m ≤ t.giver = can.least t.giver (ap (λ k. has k t.giver) was.2
        ∙ subst (λ u. has (views_by g values u) t.giver ≡ true) from t.was) (ap (λ k. has k t.giver) (f.views.own m)
        ∙ subst (λ u. has (views_by g values u) t.giver ≡ true) view t.stays) in
        let one : t.giver ≡ m = omega (arith, low, high) in
        elim y.1 [
          | inl given ↦ absurd (cc (ap (λ k. has (w.given k) j) (sym one) ∙ given, can.none))
          | inr less ↦ absurd (omega (arith, less, view, ap w.past.view one))
        ]
