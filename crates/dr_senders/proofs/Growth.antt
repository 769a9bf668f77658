-- Lists that have grown.
use Rattle.std.{specs.{List.enumerate_from, Prelude.slice_index_or}, proofs.lemmas.List.Elements.AllZip-push}
use Rattle.std.proofs.Common.{◌≡◌, refl, sym, ap, ◌∙◌, ℕ, zero, suc, ◌<◌, arith, List, [], ◌∷◌, ◌++◌, append-nil, get_or, length, map, set, Some, slice_get, subst, ◌+◌, ◌-◌, ◌≤◌, ◌⊎◌, inl, inr}
use Rattle.std.proofs.lemmas.{Bool.cases_lt, List.{map-append, get_or_past}, Option.{same_Some, slice_get-get_or}}
use Rattle.dr_entry.specs.declared.entry.Entry.{Entry, TheVariants.{Msg, View}}
use Rattle.dr_entry.proofs.ListFacts.{unmoved_set, numbered_on}
use Rattle.dr_history.specs.{History.{IsPrefixOf, messages_of}, Order.numbered_messages, Soundness.MayStand}
use Rattle.dr_history.{specs.declared.opening.Opening.Opening, proofs.Lists.{slice_get-prefix, prefix-trans}}
use Rattle.dr_senders.specs.{Pushing.given_by, Senders.{HaveGrown, Lists, given_in, taken_in}}
use Rattle.dr_senders.specs.declared.sender.Sender.{Sender}

pub grown_same : (lists : Lists) → HaveGrown lists lists
grown_same [] = tt
grown_same (x ∷ lists) = (([], append-nil x), grown_same lists)

pub grown_then : (a b c : Lists) → HaveGrown a b → HaveGrown b c → HaveGrown a c
grown_then [] [] [] first next = tt
grown_then [] [] (z ∷ c) first next = absurd next
grown_then [] (y ∷ b) c first next = absurd first
grown_then (x ∷ a) [] c first next = absurd first
grown_then (x ∷ a) (y ∷ b) [] first next = absurd next
grown_then (x ∷ a) (y ∷ b) (z ∷ c) first next = (prefix-trans x y z first.0 next.0, grown_then a b c first.1 next.1)

pub grown_length : (old new : Lists) → HaveGrown old new → length new ≡ length old
grown_length [] [] grown = refl
grown_length [] (y ∷ new) grown = absurd grown
grown_length (x ∷ old) [] grown = absurd grown
grown_length (x ∷ old) (y ∷ new) grown = ap suc (grown_length old new grown.1)

pub grown_at : (old new : Lists) (m : ℕ) (before after : List (List ℕ)) → HaveGrown old new
    → slice_get old m ≡ Some before → slice_get new m ≡ Some after → IsPrefixOf before after
grown_at [] new m before after grown at_old at_new = absurd (cc)
grown_at (x ∷ old) [] m before after grown at_old at_new = absurd grown
grown_at (x ∷ old) (y ∷ new) zero before after grown at_old at_new =
    rw (sym (same_Some x before at_old), sym (same_Some y after at_new)) grown.0
grown_at (x ∷ old) (y ∷ new) (suc m) before after grown at_old at_new =
    grown_at old new m before after grown.1 at_old at_new

-- one of them has grown
pub grown_set : {X : Type 0} (f : X → List (List ℕ)) (old : Lists) (xs : List X) (m : ℕ) (y d : X) → m < length xs
    → HaveGrown old (map f xs) → IsPrefixOf (f (get_or xs m d)) (f y) → HaveGrown old (map f (set xs m y))
grown_set f old [] m y d l grown more = absurd (omega (arith, l))
grown_set f [] (x ∷ xs) m y d l grown more = absurd grown
grown_set f (o ∷ old) (x ∷ xs) zero y d l grown more = (prefix-trans o (f x) (f y) grown.0 more, grown.1)
grown_set f (o ∷ old) (x ∷ xs) (suc m) y d l grown more =
    (grown.0, grown_set f old xs m y d (omega (arith, l)) grown.1 more)

-- one of the senders has taken more, and its app gives what it gave
pub given_set : {A : Type 0} (left : A → List (List ℕ)) (old xs : List (Sender A)) (m : ℕ) (y d : Sender A)
    → m < length xs → given_by left y.pushing ≡ given_by left (get_or xs m d).pushing
    → given_in left xs ≡ given_in left old → given_in left (set xs m y) ≡ given_in left old
given_set left old xs m y d l same before =
    unmoved_set (λ (s : Sender _). given_by left s.pushing) xs m y d l same ∙ before

pub taken_set : {A : Type 0} (old : Lists) (xs : List (Sender A)) (m : ℕ) (y d : Sender A) → m < length xs
    → IsPrefixOf (get_or xs m d).inbox.messages.items y.inbox.messages.items
    → HaveGrown old (taken_in xs) → HaveGrown old (taken_in (set xs m y))
taken_set old xs m y d l more grown = grown_set (λ (s : Sender _). s.inbox.messages.items) old xs m y d l grown more

-- one more sender
pub given_push : {A : Type 0} (left : A → List (List ℕ)) (xs : List (Sender A)) (s : Sender A) (given : Lists)
    (list : List (List ℕ)) → given_in left xs ≡ given → given_by left s.pushing ≡ list
    → given_in left (xs ++ s ∷ []) ≡ given ++ list ∷ []
given_push left xs s given list before same = map-append (λ (s : Sender _). given_by left s.pushing) xs (s ∷ []) ∙ cc

pub taken_push : {A : Type 0} (xs : List (Sender A)) (s : Sender A) (lists : Lists) (list : List (List ℕ))
    → HaveGrown (taken_in xs) lists → IsPrefixOf s.inbox.messages.items list
    → HaveGrown (taken_in (xs ++ s ∷ [])) (lists ++ list ∷ [])
taken_push xs s lists list grown more = subst (λ old. HaveGrown old (lists ++ list ∷ []))
    (sym (map-append (λ (s : Sender _). s.inbox.messages.items) xs (s ∷ [])))
    (AllZip-push (λ (before after : List (List ℕ)). IsPrefixOf before after) (taken_in xs) lists
    s.inbox.messages.items list grown more)

-- the messages of one sender
pub grown_list : (old new : Lists) (s : ℕ) → HaveGrown old new
    → IsPrefixOf (slice_index_or old s []) (slice_index_or new s [])
grown_list old new s grown = by (cases_lt s (length old))
  where
    by : (s < length old) ⊎ (length old ≤ s) → IsPrefixOf (slice_index_or old s []) (slice_index_or new s [])
    by (inl l) = grown_at old new s (slice_index_or old s []) (slice_index_or new s []) grown
        (slice_get-get_or old s [] l) (slice_get-get_or new s [] (omega (arith, l, grown_length old new grown)))
    by (inr past) = (
      slice_index_or new s [],
      ap (λ (l : List (List ℕ)). l ++ slice_index_or new s []) (get_or_past old s [] past),
    )

pub numbered_grown : (o other : Opening) (s : ℕ) → HaveGrown o.messages other.messages
    → IsPrefixOf (numbered_messages o s) (numbered_messages other s)
numbered_grown o other s grown =
    let entry : ℕ × List ℕ → Entry = λ t. Msg s t.0 t.1 in
    let p = grown_list o.messages other.messages s grown in
    let r = numbered_on 0 (messages_of o s) p.0 in (
      map entry r.0,
      sym (map-append entry (enumerate_from 0 (messages_of o s)) r.0)
          ∙ (ap (map entry) r.1 ∙ ap (λ (l : List (List ℕ)). map entry (enumerate_from 0 l)) p.1),
    )

pub stands_grown : (o other : Opening) (es : List Entry) (e : Entry) → HaveGrown o.messages other.messages
    → MayStand o es e → MayStand other es e
stands_grown o other es (View age number members) grown (of, stands) = (
  record {
    some = of.some;
    within = λ m there. omega (arith, of.within m there, grown_length o.messages other.messages grown);
  },
  stands,
)
stands_grown o other es (Msg s index bytes) grown is = (
  is.0,
  is.1,
  slice_get-prefix (messages_of o s) (messages_of other s) index bytes
      (grown_list o.messages other.messages s grown) is.2,
)
