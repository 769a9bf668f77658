-- What follows where every clause is kept.
use Rattle.std.specs.Prelude.{IfSome, IsSomeAnd, Option}
use Rattle.std.proofs.Common.{◌≡◌, ◌≢◌, ◌⊎◌, inl, inr, refl, sym, ap, ◌∙◌, subst, ℕ, zero, suc, ◌+◌, ◌-◌, ◌<◌, ◌≤◌, arith, List, [], ◌∷◌, ◌++◌, length, take, drop, All, None, Some, slice_get, append-nil, take-append-drop}
use Rattle.std.proofs.lemmas.{Bool.{cases_lt, false≢true}, List.take_all, Option.{none-some, same_Some}}
use Rattle.dr_entry.{specs.declared.entry.Entry.{Entry, TheVariants.{View, Msg}}, proofs.ListParts.each_at}
use Rattle.dr_entry.proofs.ListPlaces.{all_from_places, at_any, at_behind, slice_get-some, slice_get-take, take-next}
use Rattle.dr_entry.proofs.OptionFacts.{IsSomeAnd-at}
use Rattle.dr_history.specs.{Agreement.SamePast, History.{GroupView, IsPrefixOf, view_of}, Members.members_of}
use Rattle.dr_history.specs.{Order.messages_from, Restarting.AreAlong, declared.opening.Opening.Opening}
use Rattle.dr_history.proofs.{Histories.turned_past, Lists.{slice_get-prefix, take-prefix, SamePast-prefix, along}}
use Rattle.dr_history.proofs.{NumberedLemmas.messages_from-View, Pushing.numbered-push}
use Rattle.dr_history.proofs.ViewLemmas.{IsLater, ViewsRise}
use Rattle.dr_script.specs.declared.script.Script.{Script}
use Rattle.dr_text.specs.declared.last.Clause.{Clause}
use Rattle.dr_text.specs.declared.last.Clause.TheVariants as clauses
use Rattle.dr_check.specs.Agreeing.{AreAgreed, HasPart, IsKeptBy, IsOnLogs, IsOrdered, scripted_messages}
use Rattle.dr_check.specs.Clauses.{AreLogged, Continues, EntryItself, HasDelivered, HasSame, IsDurableView, IsFirstView, IsKeptIn, KeepsAge, KeepsBytes, KeepsDurable, KeepsIndex, KeepsSender, KeepsStart, KeepsView, MayComeNext, MayStart, MemberItself, TakesPart, logged_by}
use Rattle.dr_check.specs.{Flaws.IsRight, Grammar.{HasStart, IsWholeAge}, declared.report.Report.Report}
use Rattle.dr_check.specs.declared.report.{ReportAge.ReportAge, ReportMember.ReportMember}

-- an opening with the script's messages
abbrev opened : Script → Opening
opened script = record { age = 0; members = 0; present = 0; start = []; messages = script.messages }

-- one age of a right report
module _ (script : Script) (r : Report) (right : IsRight script r) (nth : ℕ) (a : ReportAge)
    (at : slice_get r.ages nth ≡ Some a) (whole : IsWholeAge script.members a) where
  starts_well : KeepsStart script a
  starts_well = (right clauses.Start nth a at).0

  -- one member of it
  module _ (n : ℕ) (m : ReportMember) (there : HasPart a n m) where
    itself : (c : Clause) → MemberItself c a m
    itself c = ((right c nth a at).1 n m there.0 there.1).0

    entry : (c : Clause) (i : ℕ) (e : Entry) → length a.start ≤ i → slice_get m.history i ≡ Some e
        → EntryItself c script a n m i e
    entry c i e most spot =
        let k = i - length a.start in
        let place : length a.start + k ≡ i = omega (arith, most) in
        subst (λ (j : ℕ). EntryItself c script a n m j e) place (((right c nth a at).1 n m there.0 there.1).1 k e
        (at_behind (length a.start) m.history k ∙ (ap (slice_get m.history) place ∙ spot)))

    front : IsPrefixOf a.start m.history
    front = by (each_at (HasStart a.start) a.members n m whole.1 there.0)
      where
        by : HasStart a.start m → IsPrefixOf a.start m.history
        by (inl has) = has.1
        by (inr gone) = absurd (false≢true (sym gone.0 ∙ there.1))

    -- what precedes an entry of the start
    before : (i : ℕ) → i ≤ length a.start → take i m.history ≡ take i a.start
    before i within = take-prefix a.start m.history i front within

    -- an entry in the start may stand there
    started : (i : ℕ) (e : Entry) → i < length a.start → slice_get m.history i ≡ Some e
        → MayStart script (take i m.history) e
    started i e less spot =
        let f = slice_get-some a.start i less in
        let same : f.0 ≡ e = same_Some f.0 e (sym (slice_get-prefix a.start m.history i f.0 front f.1) ∙ spot) in
        subst (λ (es : List Entry). MayStart script es e) (sym (before i (omega (arith, less))))
        (subst (λ (x : Entry). MayStart script (take i a.start) x) same (starts_well.entries i f.0 f.1))

    message : (i s k : ℕ) (b : List ℕ) → slice_get m.history i ≡ Some (Msg s k b)
        → KeepsSender (take i m.history) (Msg s k b) × KeepsIndex (take i m.history) (Msg s k b)
        × KeepsBytes script (Msg s k b)
    message i s k b spot = by (cases_lt i (length a.start))
      where
        by : (i < length a.start) ⊎ (length a.start ≤ i) → KeepsSender (take i m.history) (Msg s k b)
            × KeepsIndex (take i m.history) (Msg s k b) × KeepsBytes script (Msg s k b)
        by (inl less) = started i (Msg s k b) less spot
        by (inr most) = (
          entry clauses.Sender i (Msg s k b) most spot,
          entry clauses.Index i (Msg s k b) most spot,
          entry clauses.Bytes i (Msg s k b) most spot,
        )

    first : (mask : ℕ) × All (TakesPart a) (members_of mask) × (slice_get m.history (length a.start)
        ≡ Some (View a.age 0 mask))
    first = by e.0 e.1 (entry-view e.0 e.1)
      where
        e : (e : Entry) × (slice_get m.history (length a.start) ≡ Some e)
        e = slice_get-some m.history (length a.start) (itself clauses.View)

        entry-view : (x : Entry) → slice_get m.history (length a.start) ≡ Some x → IsFirstView a x
        entry-view x spot = first_of (entry clauses.View (length a.start) x (omega arith) spot)
          where
            first_of : KeepsView script a m (length a.start) x → IsFirstView a x
            first_of view = view.first refl

        by : (x : Entry) → slice_get m.history (length a.start) ≡ Some x → IsFirstView a x → (mask : ℕ)
            × All (TakesPart a) (members_of mask) × (slice_get m.history (length a.start) ≡ Some (View a.age 0 mask))
        by (View g k mask) spot is = (
          mask,
          is.2,
          spot ∙ (ap (λ (i : ℕ). Some (View i k mask)) is.0 ∙ ap (λ (i : ℕ). Some (View a.age i mask)) is.1),
        )
        by (Msg s k b) spot is = absurd is

    numbered : (s i : ℕ) → i ≤ length m.history
        → IsPrefixOf (messages_from s (take i m.history)) (scripted_messages script s)
    numbered s zero within = (scripted_messages script s, refl)
    numbered s (suc i) within =
        by (slice_get-some m.history i (omega (arith, within))) (numbered s i (omega (arith, within)))
      where
        next : i + 1 ≡ suc i
        next = omega arith

        more : (e : Entry) → slice_get m.history i ≡ Some e → take i m.history ++ e ∷ [] ≡ take (suc i) m.history
        more e spot = sym (take-next m.history i e spot) ∙ ap (λ k. take k m.history) next

        by : (e : Entry) × (slice_get m.history i ≡ Some e)
            → IsPrefixOf (messages_from s (take i m.history)) (scripted_messages script s)
            → IsPrefixOf (messages_from s (take (suc i) m.history)) (scripted_messages script s)
        by (View g k mask, spot) pre = subst (λ ms. IsPrefixOf ms (scripted_messages script s))
            (sym (messages_from-View s (take i m.history) g k mask)
            ∙ ap (messages_from s) (more (View g k mask) spot)) pre
        by (Msg t k b, spot) pre =
            let keeps = message i t k b spot in
            subst (λ es. IsPrefixOf (messages_from s es) (scripted_messages script s)) (more (Msg t k b) spot)
            (numbered-push (opened script) s t (take i m.history) k b pre keeps.1 keeps.2)

    ordered : IsOrdered script a m
    ordered = record {
      begins = (
        first.0,
        first.1,
        (
          drop (length a.start + 1) m.history,
          ap (λ xs. xs ++ drop (length a.start + 1) m.history) (ap (λ xs. xs ++ View a.age 0 first.0 ∷ [])
              (sym (before (length a.start) (omega arith) ∙ take_all (length a.start) a.start (omega arith)))
              ∙ sym (take-next m.history (length a.start) (View a.age 0 first.0) first.2))
              ∙ take-append-drop (length a.start + 1) m.history,
        ),
      );
      views = λ i age number mask less spot. (entry clauses.View i (View age number mask)
          (omega (arith, less)) spot).later less;
      senders = λ i s index bytes spot. (message i s index bytes spot).0;
      numbered = λ s. subst (λ (es : List Entry). IsPrefixOf (messages_from s es) (scripted_messages script s))
          (take_all (length m.history) m.history (omega arith)) (numbered s (length m.history) (omega arith));
    }

    rise : ViewsRise 0 m.history
    rise i age number mask from spot u is = by (cases_lt i (length a.start))
      where
        in_start : Continues (view_of (take i m.history)) age number mask → IsLater u age number
        in_start (inl opens) = inl (opens.1 u is)
        in_start (inr goes) =
            let at_u = IsSomeAnd-at (view_of (take i m.history))
            (λ v. (age ≡ v.age) × (number ≡ v.number + 1) × (members_of mask ≢ v.members)) u is goes in
            inr (sym at_u.0, omega (arith, at_u.1))

        at_first : i ≡ length a.start → IsLater u age number
        at_first same =
            let here : View a.age 0 first.0 ≡ View age number mask =
            same_Some _ _ (sym first.2 ∙ (ap (slice_get m.history) (sym same) ∙ spot)) in
            let of_age : a.age ≡ age = cc in
            let start : view_of a.start ≡ Some u = ap view_of (sym (take_all (length a.start) a.start (omega arith))
            ∙ (sym (before (length a.start) (omega arith)) ∙ ap (λ k. take k m.history) (sym same))) ∙ is in
            let older : u.age < a.age = starts_well.later u start in inl (omega (arith, older, of_age))

        behind : length a.start < i → IsLater u age number
        behind less =
            let comes = IsSomeAnd-at (view_of (take i m.history))
            (λ v. MayComeNext script a m i v age number mask) u is (ordered.views i age number mask less spot) in
            inr (sym comes.same_age, omega (arith, comes.next_number))

        from_start : (length a.start < i) ⊎ (i ≤ length a.start) → length a.start ≤ i → IsLater u age number
        from_start (inl less) most = behind less
        from_start (inr few) most = at_first (omega (arith, few, most))

        by : (i < length a.start) ⊎ (length a.start ≤ i) → IsLater u age number
        by (inl less) = in_start (started i (View age number mask) less spot).2
        by (inr most) = from_start (cases_lt (length a.start) i) most

    durable : KeepsDurable a m
    durable = itself clauses.Durable

    on_logs : IsOnLogs a m
    on_logs = record { some = by some.0 some.1 some.2 some.3; last = λ nobody. last_of (durable.last nobody) }
      where
        some : (i : ℕ) × (e : Entry) × (slice_get m.history i ≡ Some e) × IsDurableView a m e
        some = at_any (IsDurableView a m) m.history durable.some

        by : (i : ℕ) (e : Entry) → slice_get m.history i ≡ Some e → IsDurableView a m e
            → (i : ℕ) × (number : ℕ) × (mask : ℕ) × (slice_get m.history i ≡ Some (View a.age number mask))
            × All (λ s. m.durable ≤ logged_by a s) (members_of mask)
        by i (View g k mask) spot is = (i, k, mask, spot ∙ ap (λ (x : ℕ). Some (View x k mask)) is.0, is.1)
        by i (Msg s k b) spot is = absurd is

        last_of : IsSomeAnd (view_of m.history) (λ v. (v.age ≡ a.age) × AreLogged a m v.members)
            → IsSomeAnd (view_of m.history) (λ v. All (λ s. m.durable ≤ logged_by a s) v.members)
        last_of is = more (view_of m.history) is
          where
            more : (z : Option GroupView) → IsSomeAnd z (λ (v : GroupView). (v.age ≡ a.age) × AreLogged a m v.members)
                → IsSomeAnd z (λ (v : GroupView). All (λ s. m.durable ≤ logged_by a s) v.members)
            more None is = absurd is
            more (Some v) is = is.1

  -- the histories of two members, the first before the second
  same_at : (i j : ℕ) (m o : ReportMember) → HasPart a i m → HasPart a j o → i < j → (k : ℕ) (x y : Entry)
      → slice_get m.history k ≡ Some x → slice_get o.history k ≡ Some y → x ≡ y
  same_at i j m o here there less k x y in_m in_o = by (cases_lt k (length a.start))
    where
      by : (k < length a.start) ⊎ (length a.start ≤ k) → x ≡ y
      by (inl below) =
          let f = slice_get-some a.start k below in
          same_Some x y (sym in_m ∙ (slice_get-prefix a.start m.history k f.0 (front i m here) f.1
          ∙ (sym (slice_get-prefix a.start o.history k f.0 (front j o there) f.1) ∙ in_o)))
      by (inr most) =
          let keeps = entry j o there clauses.Prefix k y most in_o in
          let has : HasSame k y m = earlier keeps in same (slice_get m.history k) in_m (has here.1)
        where
          earlier : All (HasSame k y) (take j a.members) → HasSame k y m
          earlier all = each_at (HasSame k y) (take j a.members) i m all (slice_get-take j a.members i less ∙ here.0)

          same : (z : Option Entry) → z ≡ Some x → IfSome z (λ w. w ≡ y) → x ≡ y
          same None is w = absurd (none-some x is)
          same (Some w) is e = sym (same_Some w x is) ∙ e

  two_along : (i j : ℕ) (m o : ReportMember) → HasPart a i m → HasPart a j o → AreAlong m.history o.history
  two_along i j m o here there = by (cases_lt i j)
    where
      turned : AreAlong o.history m.history → AreAlong m.history o.history
      turned (inl p) = inr p
      turned (inr p) = inl p

      equal : i ≡ j → AreAlong m.history o.history
      equal same =
          let one : m ≡ o = same_Some m o (sym here.0 ∙ (ap (slice_get a.members) same ∙ there.0)) in
          subst (λ (q : ReportMember). AreAlong m.history q.history) one (inl ([], append-nil m.history))

      other : (j < i) ⊎ (i ≤ j) → j ≤ i → AreAlong m.history o.history
      other (inl more) most = turned (along o.history m.history (same_at j i o m there here more))
      other (inr few) most = equal (omega (arith, few, most))

      by : (i < j) ⊎ (j ≤ i) → AreAlong m.history o.history
      by (inl less) = along m.history o.history (same_at i j m o here there less)
      by (inr most) = other (cases_lt j i) most

  pub agreed : AreAgreed script a
  agreed = record {
    prefix = two_along;
    ordered = ordered;
    same_past = λ i j m o here there. past i j m o here there (two_along i j m o here there);
    logged = λ i m here. (durable i m here).told;
    durable = on_logs;
  }
    where
      past : (i j : ℕ) (m o : ReportMember) → HasPart a i m → HasPart a j o → AreAlong m.history o.history
          → SamePast m.history o.history
      past i j m o here there (inl p) = SamePast-prefix m.history o.history (rise j o there) p
      past i j m o here there (inr p) =
          turned_past o.history m.history (SamePast-prefix o.history m.history (rise i m here) p)

pub all_agreed : (script : Script) (r : Report) → IsRight script r → All (IsWholeAge script.members) r.ages
    → All (AreAgreed script) r.ages
all_agreed script r right whole = all_from_places (AreAgreed script) r.ages
    (λ i a at. agreed script r right i a at (each_at (IsWholeAge script.members) r.ages i a whole at))

-- and each age keeps the one before it
pub keeps_before : (script : Script) (r : Report) → IsRight script r → (i : ℕ) (a next : ReportAge)
    → slice_get r.ages i ≡ Some a → slice_get r.ages (suc i) ≡ Some next → IsKeptBy a next
keeps_before script r right i a next at to =
    let keeps : KeepsAge a next = by (slice_get r.ages i) at ((right clauses.Kept (suc i) next to).0) in
    let some = at_any (HasDelivered next) a.members keeps.delivered in record {
      later = keeps.later;
      delivered = (some.0, some.1, (some.2, some.3.0), some.3.1);
      durable = λ j m there. each_at (IsKeptIn next) a.members j m keeps.durable there.0 there.1;
    }
  where
    by : (z : Option ReportAge) → z ≡ Some a → IfSome z (λ before. KeepsAge before next) → KeepsAge a next
    by None is keeps = absurd (none-some a is)
    by (Some b) is keeps = subst (λ (x : ReportAge). KeepsAge x next) (same_Some b a is) keeps
