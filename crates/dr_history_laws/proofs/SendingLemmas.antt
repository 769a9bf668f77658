-- What is sent next goes on from the history, and the places below the front of what was received hold items.
use Rattle.std.proofs.Common.{◌≡◌, ◌≢◌, ap, sym, ◌∙◌, ◌⊎◌, inl, inr, subst, ℕ, ◌+◌, ◌/◌, ◌%◌, ◌<◌, ◌≤◌, arith, List, [], ◌∷◌, ◌++◌, length, map, take, Contains, Some, slice_get, is_some, IsSome}
use Rattle.std.proofs.lemmas.{Bool.cases_eq, List.{take_at, take-append-le}, Option.none-some}
use Rattle.dr_entry.specs.declared.{end.SentItem.{SentItem, TheVariants.Index}, entry.Entry.Entry}
use Rattle.dr_entry.proofs.ListPlaces.{slice_get-push_cases, slice_get-some, Contains-slice_get}
use Rattle.dr_history.specs.{History.{GroupView, Sent, messages_in, messages_of, item_at}, Order.messages_from}
use Rattle.dr_history.{specs.{Places.front_of, declared.opening.Opening.Opening}, proofs.Fronts.front_held}
use Rattle.dr_history.proofs.{Indices.item_at-of_parts, Places.held_member}
use Rattle.dr_history_laws.specs.Laid.{GoesOn, HeldBelow, MayBeNext, SendsNext}

-- from a history anything goes on that was not sent
pub GoesOn-none : (o : Opening) (sent : Sent) (h : List Entry) (v : GroupView)
    → ((s : ℕ) → Contains v.members s → sent s v.number ≡ []) → GoesOn o sent h v
GoesOn-none o sent h v none = record {
  index = λ s k i member at. absurd (nothing s k i member at);
  scripted = λ s k i member at. absurd (nothing s k i member at);
}
  where
    nothing : (s k i : ℕ) → Contains v.members s → slice_get (sent s v.number) k ≡ Some (Index i) → ⊥
    nothing s k i member at = none-some (Index i) (sym (ap (λ items. slice_get items k) (none s member)) ∙ at)

-- item k of t, message i, was sent before, or it is the new item of s
abbrev IsOldOrNew : Sent → Sent → GroupView → ℕ → SentItem → ℕ → ℕ → ℕ → Type 0
IsOldOrNew sent now v s item t k i =
    ((slice_get (sent t v.number) k ≡ Some (Index i)) × (take k (now t v.number) ≡ take k (sent t v.number)))
    ⊎ ((t ≡ s) × (item ≡ Index i) × (take k (now t v.number) ≡ sent t v.number))

-- each message after one more item was sent is one of these
sent_cases : (o : Opening) (sent now : Sent) (h : List Entry) (v : GroupView) (s : ℕ) (item : SentItem) (t k i : ℕ)
    → SendsNext v s item sent now → slice_get (now t v.number) k ≡ Some (Index i) → IsOldOrNew sent now v s item t k i
sent_cases o sent now h v s item t k i sends at = by (cases_eq t s)
  where
    own : t ≡ s → now t v.number ≡ sent t v.number ++ item ∷ []
    own e = ap (λ u. now u v.number) e ∙ (sends.own ∙ ap (λ u. sent u v.number ++ item ∷ []) (sym e))

    by : (t ≡ s) ⊎ (t ≢ s) → IsOldOrNew sent now v s item t k i
    by (inr other) = inl (
      ap (λ items. slice_get items k) (sym (sends.others t other)) ∙ at,
      ap (take k) (sends.others t other),
    )
    by (inl e) = split (slice_get-push_cases (sent t v.number) item (Index i) k
        (ap (λ items. slice_get items k) (sym (own e)) ∙ at))
      where
        split : ((k < length (sent t v.number)) × (slice_get (sent t v.number) k ≡ Some (Index i))) ⊎
            ((k ≡ length (sent t v.number)) × (item ≡ Index i)) → IsOldOrNew sent now v s item t k i
        split (inl old) = inl (
          old.1,
          ap (take k) (own e) ∙ take-append-le k (sent t v.number) (item ∷ []) (omega (arith, old.0)),
        )
        split (inr new) = inr (e, new.1, ap (take k) (own e) ∙ take_at (sent t v.number) (item ∷ []) k (sym new.0))

-- a null, or the next message by the script, goes on
pub GoesOn-send : (o : Opening) (sent now : Sent) (h : List Entry) (v : GroupView) (s : ℕ) (item : SentItem)
    → GoesOn o sent h v → SendsNext v s item sent now → MayBeNext o sent h v s item → GoesOn o now h v
GoesOn-send o sent now h v s item goes sends next = record {
  index = λ t k i member at. indexed t k i member (sent_cases o sent now h v s item t k i sends at);
  scripted = λ t k i member at. scripted t k i member (sent_cases o sent now h v s item t k i sends at);
}
  where
    indexed : (t k i : ℕ) → Contains v.members t → IsOldOrNew sent now v s item t k i
        → i ≡ length (messages_from t h) + messages_in (take k (now t v.number))
    indexed t k i member (inl old) = goes.index t k i member old.0
        ∙ ap (λ items. length (messages_from t h) + messages_in items) (sym old.1)
    indexed t k i member (inr new) =
        next.index i new.1 ∙ (ap (λ u. length (messages_from u h) + messages_in (sent u v.number)) (sym new.0) ∙
        ap (λ items. length (messages_from t h) + messages_in items) (sym new.2))

    scripted : (t k i : ℕ) → Contains v.members t → IsOldOrNew sent now v s item t k i → i < length (messages_of o t)
    scripted t k i member (inl old) = goes.scripted t k i member old.0
    scripted t k i member (inr new) = subst (λ u. i < length (messages_of o u)) (sym new.0) (next.scripted i new.1)

-- where of each member no more items were received than it sent, the places below the front hold items
pub HeldBelow-front : (sent : Sent) (v : GroupView) (received : ℕ → ℕ) (p : ℕ)
    → ((s : ℕ) → Contains v.members s → received s ≤ length (sent s v.number)) → p ≤ front_of (map received v.members)
    → HeldBelow sent v p
HeldBelow-front sent v received p within below q l = by
    (held_member received v.members q (front_held (map received v.members) q (omega (arith, l, below))))
  where
    by : (s : ℕ) × (slice_get v.members (q % length v.members) ≡ Some s)
        × (q / length v.members < received s) → IsSome (item_at sent v q)
    by (s, member, less) = item (slice_get-some (sent s v.number) (q / length v.members)
        (omega (arith, less, within s (Contains-slice_get v.members (q % length v.members) s member))))
      where
        item : (z : SentItem) × (slice_get (sent s v.number) (q / length v.members) ≡ Some z)
            → IsSome (item_at sent v q)
        item (z, got) = ap is_some (item_at-of_parts sent v q s z member got)
