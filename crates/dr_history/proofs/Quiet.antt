-- Who is not of a view has no more messages behind it, where it is not late: no later view of its age takes it
-- in again.
use Rattle.std.proofs.Common.{◌≡◌, Contains, List, ℕ, take, Some, ◌⊎◌, ap, inl, inr, ne_eqb, subst, ◌+◌, ◌<◌, ◌∙◌, ◌-◌, length, slice_get, arith, suc, sym, zero, ◌≤◌, refl}
use Rattle.std.proofs.lemmas.{List.take_all, Option.slice_get-get_or}
use Rattle.dr_entry.specs.declared.entry.Entry.{Entry, TheVariants.{View, Msg}}
use Rattle.dr_entry.proofs.{ListPlaces.{take-next, slice_get-some}, OptionFacts.IsSomeAnd-at}
use Rattle.dr_history.{specs.History.{GroupView, view_of, Sent}, proofs.ViewLemmas.{view_of-Msg, view_of-View}}
use Rattle.dr_history.{specs.{Members.members_of, declared.opening.Opening.Opening}, proofs.Standing.history-stands}
use Rattle.dr_history.specs.{Order.{messages_from, IsSucceededBy, InOrder, IsLateIn, MayJoin}, Soundness.Sound}
use Rattle.dr_history.proofs.{MemberLemmas.member-has, NumberedLemmas.{messages_from-View, messages_from-other}}

-- s is not of the last view of the first i entries, and these have the messages of s that are given
record IsQuiet (h : List Entry) (s i : ℕ) (given : List Entry) : Type 0 where
  view : GroupView
  is : view_of (take i h) ≡ Some view
  absent : Contains view.members s → ⊥
  same : messages_from s (take i h) ≡ given

-- one entry more
quiet-next : (o : Opening) (sent : Sent) (h : List Entry) (s i : ℕ) (given : List Entry) (e : Entry) → Sound o
    → ¬ IsLateIn o s → InOrder o sent h → length o.start < i → slice_get h i ≡ Some e → IsQuiet h s i given
    → IsQuiet h s (i + 1) given
quiet-next o sent h s i given (View a k m) sound early order l at q = record {
  view = record { age = a; number = k; members = members_of m };
  is = ap view_of (take-next h i (View a k m) at) ∙ view_of-View (take i h) a k m;
  absent = λ there. by ((IsSomeAnd-at (view_of (take i h)) (λ v. IsSucceededBy o (take i h) v a k m) q.view q.is
      (order.views i a k m l at)).newcomers s (member-has m there.0 s
      (slice_get-get_or (members_of m) there.0 s there.1 ∙ ap Some there.2)));
  same = ap (messages_from s) (take-next h i (View a k m) at) ∙ messages_from-View s (take i h) a k m ∙ q.same;
}
  where
    by : Contains q.view.members s ⊎ MayJoin o (take i h) s → ⊥
    by (inl there) = q.absent there
    by (inr new) = early new.0
quiet-next o sent h s i given (Msg t k b) sound early order l at q = record {
  view = q.view;
  is = ap view_of (take-next h i (Msg t k b) at) ∙ view_of-Msg (take i h) t k b ∙ q.is;
  absent = q.absent;
  same = ap (messages_from s) (take-next h i (Msg t k b) at) ∙ messages_from-other s (take i h) t k b
      (ne_eqb t s (λ here. q.absent (subst (Contains q.view.members) here
      (IsSomeAnd-at (view_of (take i h)) (λ v. Contains v.members t) q.view q.is
      (history-stands o sent h sound order i (Msg t k b) at).0)))) ∙ q.same;
}

quiet : (o : Opening) (sent : Sent) (h : List Entry) (s i d : ℕ) (given : List Entry) → Sound o → ¬ IsLateIn o s
    → InOrder o sent h → length o.start < i → i + d ≤ length h → IsQuiet h s i given → IsQuiet h s (i + d) given
quiet o sent h s i zero given sound early order l within q =
    let same : i + 0 ≡ i = omega arith in subst (λ j. IsQuiet h s j given) (sym same) q
quiet o sent h s i (suc d) given sound early order l within q =
    let next : i + suc d ≡ i + d + 1 = omega arith in
    let e = slice_get-some h (i + d) (omega (arith, within)) in
    subst (λ j. IsQuiet h s j given) (sym next) (quiet-next o sent h s (i + d) given e.0 sound early order
    (omega (arith, l)) e.1 (quiet o sent h s i d given sound early order l (omega (arith, within)) q))

-- behind a front part of a history, of whose view s is none, no message of s stands
pub no-more : (o : Opening) (sent : Sent) (h : List Entry) (s i : ℕ) (v : GroupView) → Sound o
    → ¬ IsLateIn o s → InOrder o sent h → length o.start < i → i ≤ length h → view_of (take i h) ≡ Some v
    → (Contains v.members s → ⊥) → messages_from s h ≡ messages_from s (take i h)
no-more o sent h s i v sound early order l within is absent =
    let place : i + (length h - i) ≡ length h = omega (arith, within) in
    let q = quiet o sent h s i (length h - i) (messages_from s (take i h)) sound early order l (omega (arith, place))
    (record { view = v; is = is; absent = absent; same = refl }) in
    ap (messages_from s) (sym (take_all (i + (length h - i)) h (omega (arith, place)))) ∙ q.same
