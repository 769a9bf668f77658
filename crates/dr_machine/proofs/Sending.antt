-- What a member puts in a view: what stands behind what it has put.
use Rattle.std.proofs.Common.{List, Some, [], ap, arith, inl, inr, length, slice_get, sym, ℕ, ◌++◌, ◌+◌, ◌<◌, ◌∙◌, ◌∷◌, ◌≡◌, ◌≢◌, ◌≤◌, ◌⊎◌, refl, ◌-◌}
use Rattle.std.proofs.lemmas.{Bool.{cases_eq, cases_lt}, List.length_push}
use Rattle.dr_entry.specs.declared.end.SentItem.{SentItem, TheVariants.{Index, Null}}
use Rattle.dr_entry.proofs.ListPlaces.{get_next, get_before}
use Rattle.dr_history.specs.History.{messages_in}
use Rattle.dr_history.proofs.Indices.{messages_in-le, messages_in-message, messages_within, messages_next, messages_null, first_messages, first-few}
use Rattle.dr_machine.specs.Sending.{IsPut}

-- where a message is left, nothing but messages was put
pub only_messages : (first total : ℕ) (items : List SentItem) → IsPut first total items
    → first + messages_in items < total → messages_in items ≡ length items
only_messages first total items put room = by (cases_lt (messages_in items) (length items))
  where
    by : (messages_in items < length items) ⊎ (length items ≤ messages_in items) → messages_in items ≡ length items
    by (inl null) = absurd (omega (arith, put.nulls null, room))
    by (inr all) = omega (arith, all, messages_within items)

-- what the member has put is in order with its next message
pub next_message : (first total : ℕ) (items : List SentItem) → IsPut first total items
    → first + messages_in items < total → IsPut first total (items ++ Index (first + messages_in items) ∷ [])
next_message first total items put room = record {
  index = λ k l. index k (rw (← messages_next items (first + messages_in items)) l) (cases_eq k (messages_in items));
  left = omega (arith, room, messages_next items (first + messages_in items));
  nulls = λ l. absurd (omega (
    arith,
    l,
    all,
    messages_next items (first + messages_in items),
    length_push items (Index (first + messages_in items)),
  ));
}
  where
    all : messages_in items ≡ length items
    all = only_messages first total items put room

    index : (k : ℕ) → k < messages_in items + 1 → (k ≡ messages_in items) ⊎ (k ≢ messages_in items)
        → slice_get (items ++ Index (first + messages_in items) ∷ []) k ≡ Some (Index (first + k))
    index k l (inl e) = get_next items (Index (first + messages_in items)) k (e ∙ all)
        ∙ ap (λ i. Some (Index (first + i))) (sym e)
    index k l (inr d) =
        let earlier : k < messages_in items = omega (arith, l, d) in
        get_before items (Index (first + messages_in items)) k (omega (arith, earlier, all)) ∙ put.index k earlier

-- and with a null, where no message is left
pub next_null : (first total : ℕ) (items : List SentItem) → IsPut first total items
    → total ≤ first + messages_in items → IsPut first total (items ++ Null ∷ [])
next_null first total items put none = record {
  index = λ k l.
      let before : k < messages_in items = omega (arith, l, messages_null items) in
      get_before items Null k (omega (arith, before, messages_within items)) ∙ put.index k before;
  left = omega (arith, put.left, messages_null items);
  nulls = λ l. omega (arith, put.left, none, messages_null items);
}

-- behind the messages that a member puts there are nulls
pub null_behind : (first total : ℕ) (items : List SentItem) (k : ℕ) (item : SentItem)
    → IsPut first total items → messages_in items ≤ k → slice_get items k ≡ Some item → item ≡ Null
null_behind first total items k Null put late e = refl
null_behind first total items k (Index i) put late e = absurd (omega (
  arith,
  messages_in-message items k i e,
  first-few items (k + 1),
  messages_in-le items (messages_in items) k late,
  first_messages items (messages_in items) (λ j l. (first + j, put.index j l)),
))

-- who has put as many items as it has messages left has put all of these
pub all_put : (first total : ℕ) (items : List SentItem) → IsPut first total items
    → total - first ≤ length items → total - first ≤ messages_in items
all_put first total items put enough = grind (arith, put.nulls, put.left, enough)
