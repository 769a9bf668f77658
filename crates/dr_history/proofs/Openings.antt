-- What every history of an age begins with is a history in order.
use Rattle.std.{specs.List.range_with_len, proofs.lemmas.{List.take_all, Option.slice_get_within}}
use Rattle.std.proofs.Common.{◌≡◌, refl, ap, sym, ◌∙◌, subst, ℕ, zero, suc, ◌+◌, ◌≤◌, arith, List, [], ◌∷◌, ◌++◌, length, take, Some, slice_get, ◌<◌, length-append, append-nil}
use Rattle.dr_entry.specs.declared.entry.Entry.{Entry, TheVariants.{View, Msg}}
use Rattle.dr_entry.proofs.ListPlaces.{slice_get-some, take-next}
use Rattle.dr_history.specs.{History.{IsPrefixOf, Sent}, Members.members_of}
use Rattle.dr_history.specs.{Order.{messages_from, numbered_messages, first_entries, InOrder}, Restarting.AllStand}
use Rattle.dr_history.specs.{Soundness.{MayStand, Sound, whole_roster}, declared.opening.Opening.Opening}
use Rattle.dr_history.proofs.{Histories.place_at-within, MemberLemmas.members_of-ones}
use Rattle.dr_history.proofs.{NumberedLemmas.messages_from-View, Pushing.numbered-push}

-- the messages of a sender among the first of entries that may stand are its first ones
pub numbered_stood : (o : Opening) (es : List Entry) (s n : ℕ) → AllStand o es → n ≤ length es
    → IsPrefixOf (messages_from s (take n es)) (numbered_messages o s)
numbered_stood o es s zero stand l = (numbered_messages o s, refl)
numbered_stood o es s (suc n) stand l =
    by (slice_get-some es n (omega arith)) (numbered_stood o es s n stand (omega arith))
  where
    next : n + 1 ≡ suc n
    next = omega arith

    more : (e : Entry) → slice_get es n ≡ Some e → take n es ++ e ∷ [] ≡ take (suc n) es
    more e at = sym (take-next es n e at) ∙ ap (λ k. take k es) next

    by : (e : Entry) × (slice_get es n ≡ Some e) → IsPrefixOf (messages_from s (take n es)) (numbered_messages o s)
        → IsPrefixOf (messages_from s (take (suc n) es)) (numbered_messages o s)
    by (View a k m, at) pre = subst (λ ms. IsPrefixOf ms (numbered_messages o s))
        (sym (messages_from-View s (take n es) a k m) ∙ ap (messages_from s) (more (View a k m) at)) pre
    by (Msg t i b, at) pre =
        let stands : MayStand o (take n es) (Msg t i b) = stand n (Msg t i b) at in
        subst (λ fs. IsPrefixOf (messages_from s fs) (numbered_messages o s)) (more (Msg t i b) at)
        (numbered-push o s t (take n es) i b pre stands.1 stands.2)

-- and so with View 0
numbered_first : (o : Opening) (s : ℕ) → Sound o
    → IsPrefixOf (messages_from s (first_entries o)) (numbered_messages o s)
numbered_first o s sound = subst (λ es. IsPrefixOf es (numbered_messages o s)) (ap (messages_from s)
    (take_all (length o.start) o.start (omega arith)) ∙ sym (messages_from-View s o.start o.age 0 o.members))
    (numbered_stood o o.start s (length o.start) sound.entries (omega arith))

-- no entry stands behind View 0
first_within : (o : Opening) (i : ℕ) → i < length (first_entries o) → length o.start < i → ⊥
first_within o i within after = omega (arith, within, after, length-append o.start (View o.age 0 o.members ∷ []))

-- with a sound start the first entries are in order
pub InOrder-first : (o : Opening) (sent : Sent) → Sound o → InOrder o sent (first_entries o)
InOrder-first o sent sound = record {
  begins = ([], append-nil (first_entries o));
  views = λ i age number members after at. absurd
      (first_within o i (slice_get_within (first_entries o) i (View age number members) at) after);
  placed = λ i s index b after at. absurd
      (first_within o i (slice_get_within (first_entries o) i (Msg s index b) at) after);
  rising = λ i j p q after _ _ at _. absurd (first_within o i (place_at-within sent (first_entries o) i p at) after);
  numbered = λ s. numbered_first o s sound;
  whole = λ i p q v after _ _ at _. absurd (first_within o i (place_at-within sent (first_entries o) i p at) after);
}

-- whose members are all of the roster, where it opens with all
pub first-members : (o : Opening) → o.members ≡ whole_roster o → length o.messages ≤ 16
    → members_of o.members ≡ range_with_len 0 (length o.messages)
first-members o whole few = ap members_of whole ∙ members_of-ones (length o.messages) few
