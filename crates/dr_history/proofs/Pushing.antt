-- A history whose last view may have gaps stays in order when a next message of this view is put behind it.
use Rattle.std.proofs.Common.{◌≡◌, ap, sym, ◌∙◌, ℕ, ◌+◌, List, [], ◌∷◌, ◌++◌, length, take, drop, Some, slice_get, take-append-drop, refl, subst, ◌==◌, Bool, true, false, ◌<◌}
use Rattle.std.proofs.lemmas.{Bool.eqb-true, List.take_at}
use Rattle.dr_entry.{specs.declared.entry.Entry.{Entry, TheVariants.Msg}, proofs.ListPlaces.slice_get-seam}
use Rattle.dr_history.specs.History.{IsPrefixOf, messages_of, GroupView, Sent, view_of, place_at, place_in}
use Rattle.dr_history.specs.{Order.{messages_from, numbered_messages}, declared.opening.Opening.Opening}
use Rattle.dr_history.proofs.NumberedLemmas.{messages_from-Msg, numbered_messages-more, messages_from-other}

-- the first messages of a sender and its next one
numbered_own : (o : Opening) (s : ℕ) (h : List Entry) (i : ℕ) (b : List ℕ)
    → IsPrefixOf (messages_from s h) (numbered_messages o s)
    → i ≡ length (messages_from s h) → slice_get (messages_of o s) i ≡ Some b
    → IsPrefixOf (messages_from s (h ++ Msg s i b ∷ [])) (numbered_messages o s)
numbered_own o s h i b pre index bytes =
    let first : take i (numbered_messages o s) ≡ messages_from s h = ap (take i) (sym pre.1)
    ∙ take_at (messages_from s h) pre.0 i (sym index) in
    let is : messages_from s (h ++ Msg s i b ∷ []) ≡ take (i + 1) (numbered_messages o s) = messages_from-Msg s h i b
    ∙ (ap (λ es. es ++ Msg s i b ∷ []) (sym first) ∙ sym (numbered_messages-more o s i b bytes)) in (
      drop (i + 1) (numbered_messages o s),
      ap (λ es. es ++ drop (i + 1) (numbered_messages o s)) is ∙ take-append-drop (i + 1) (numbered_messages o s),
    )

-- for every sender
pub numbered-push : (o : Opening) (t s : ℕ) (h : List Entry) (i : ℕ) (b : List ℕ)
    → IsPrefixOf (messages_from t h) (numbered_messages o t)
    → i ≡ length (messages_from s h) → slice_get (messages_of o s) i ≡ Some b
    → IsPrefixOf (messages_from t (h ++ Msg s i b ∷ [])) (numbered_messages o t)
numbered-push o t s h i b pre index bytes = by (s == t) refl
  where
    by : (z : Bool) → (s == t) ≡ z → IsPrefixOf (messages_from t (h ++ Msg s i b ∷ [])) (numbered_messages o t)
    by false e = subst (λ es. IsPrefixOf es (numbered_messages o t)) (sym (messages_from-other t h s i b e)) pre
    by true e =
        let same : s ≡ t = eqb-true s t e in
        subst (λ u. IsPrefixOf (messages_from u (h ++ Msg s i b ∷ [])) (numbered_messages o u)) same
        (numbered_own o s h i b (subst (λ u. IsPrefixOf (messages_from u h) (numbered_messages o u))
        (sym same) pre) index bytes)

-- the entries delivered in the view after the start have places below p
abbrev pub PlacedBelow : Opening → Sent → GroupView → List Entry → ℕ → Type 0
PlacedBelow o sent v h p = (i q : ℕ) → length o.start < i → view_of (take i h) ≡ Some v
    → place_at sent h i ≡ Some q → q < p

-- message i of s, with the bytes b, is the next of a history in the view v, at place p
pub record IsNext (o : Opening) (sent : Sent) (v : GroupView) (h : List Entry) (p s i : ℕ) (b : List ℕ) : Type 0 where
  pub view : view_of h ≡ Some v
  pub place : place_in sent v s i ≡ Some p
  pub above : PlacedBelow o sent v h p
  pub index : i ≡ length (messages_from s h)
  pub bytes : slice_get (messages_of o s) i ≡ Some b

-- the place of the new entry
pub place_at-last : (sent : Sent) (v : GroupView) (h : List Entry) (s i : ℕ) (b : List ℕ) → view_of h ≡ Some v
    → place_at sent (h ++ Msg s i b ∷ []) (length h) ≡ place_in sent v s i
place_at-last sent v h s i b e =
    rw (take_at h (Msg s i b ∷ []) (length h) refl, slice_get-seam h (Msg s i b) [], e) refl
