-- The start, View 0, and the merge of what the start leaves have all messages, and an age that starts with
-- them leaves none.
use Rattle.std.specs.{List.range_with_len, Prelude.option_map}
use Rattle.std.proofs.Common.{Some, ap, length, slice_get, ℕ, ◌+◌, ◌-◌, ◌<◌, ◌∙◌, ◌≡◌, arith, sym, take, None, ◌≤◌, List, fold, lt_of_mul-lt-mul_right, map, max, suc, suc-mul, mul-le-mul_right, mul_comm, ◌*◌, length-append, ◌++◌, Contains, [], append-nil, slice_index_or, subst}
use Rattle.std.proofs.lemmas.List.{take_all, length-map, FromFn.length-map-range_with_len}
use Rattle.std.proofs.lemmas.Option.{slice_get-map, slice_get_within, same_Some, slice_get_past, slice_get-get_or}
use Rattle.dr_entry.{specs.declared.end.SentItem.{SentItem, TheVariants.Index}, proofs.Ends.index_is}
use Rattle.dr_entry.proofs.{ListFacts.top_place, ListPlaces.{range_at, count_max, count-rank}}
use Rattle.dr_history.specs.{History.{GroupView, messages_in, IsPrefixOf}, declared.opening.Opening.Opening}
use Rattle.dr_history.{specs.Members.members_of, proofs.{Indices.first_messages, Merging.CountsAll-sent}}
use Rattle.dr_history.{specs.Order.{messages_from, first_entries, numbered_messages}, proofs.Openings.numbered_stood}
use Rattle.dr_history.specs.Soundness.{Sound}
use Rattle.dr_history.proofs.NumberedLemmas.{start_messages, length-numbered_messages, messages_from-append}
use Rattle.dr_history_laws.{specs.Laid.{GoesOn, counts_sent, first_view, HoldsAll, laid}, proofs.LaidLemmas.laid-none}
use Rattle.dr_history_laws.{specs.Remaining.{messages_left, to_send, remaining}, proofs.Counting.{Counted, counted}}
use Rattle.dr_history_laws.proofs.{Merging.{merge-laid, laid-whole}, Ordered.{first-ends, view-distinct}}

-- the message with a number among those that the start leaves
pub left_at : (o : Opening) (s v k : ℕ) → k < messages_left o s
    → slice_get (to_send o s v) k ≡ Some (Index (length (messages_from s o.start) + k))
left_at o s v k l = slice_get-map Index (range_with_len (length (messages_from s o.start)) (messages_left o s)) k
    ∙ ap (option_map Index) (range_at (length (messages_from s o.start)) (messages_left o s) k l)

-- an item that is there is one of them
pub left_within : (o : Opening) (s v k : ℕ) (item : SentItem) → slice_get (to_send o s v) k ≡ Some item
    → k < messages_left o s
left_within o s v k item e = omega (
  arith,
  slice_get_within (to_send o s v) k item e,
  length-map-range_with_len Index (length (messages_from s o.start)) (messages_left o s),
)

-- the messages that the start leaves go on from the first entries
pub left-goes_on : (o : Opening) (v : GroupView) → GoesOn o (to_send o) (first_entries o) v
left-goes_on o v = record {
  index = λ s k i member e. named s k i e ∙ sym (before s k i e);
  scripted = λ s k i member e. omega (arith, named s k i e, left_within o s v.number k (Index i) e);
}
  where
    named : (s k i : ℕ) → slice_get (to_send o s v.number) k ≡ Some (Index i)
        → i ≡ length (messages_from s o.start) + k
    named s k i e = index_is i _ (same_Some (Index i) _
        (sym e ∙ left_at o s v.number k (left_within o s v.number k (Index i) e)))

    before : (s k i : ℕ) → slice_get (to_send o s v.number) k ≡ Some (Index i) → length (messages_from s
        (first_entries o)) + messages_in (take k (to_send o s v.number)) ≡ length (messages_from s o.start) + k
    before s k i e =
        let within = left_within o s v.number k (Index i) e in
        let some = first_messages (to_send o s v.number) k (λ j l. (
          length (messages_from s o.start) + j,
          left_at o s v.number j (omega (arith, l, within)),
        )) in
        omega (arith, some, start_messages o s)

-- there are no more
pub left_past : (o : Opening) (s v k : ℕ) → messages_left o s ≤ k → slice_get (to_send o s v) k ≡ None
left_past o s v k late = slice_get_past (to_send o s v) k (omega (
  arith,
  late,
  length-map-range_with_len Index (length (messages_from s o.start)) (messages_left o s),
))

-- the messages that the start leaves to a member are all of its items
left-messages : (o : Opening) (s c : ℕ) → messages_left o s ≤ c
    → messages_in (take c (to_send o s 0)) ≡ messages_left o s
left-messages o s c l = ap messages_in (take_all c items (omega (arith, l, long))
    ∙ sym (take_all (messages_left o s) items (omega (arith, long)))) ∙ first_messages items
    (messages_left o s) (λ k less. (length (messages_from s o.start) + k, left_at o s 0 k less))
  where
    items : List SentItem
    items = to_send o s 0

    long : length (to_send o s 0) ≡ messages_left o s
    long = length-map-range_with_len Index (length (messages_from s o.start)) (messages_left o s)

-- below the last place that the merge looks at lie all places of these items
all_lie : (o : Opening) (s rank : ℕ) → slice_get (first_view o).members rank ≡ Some s → (c : Counted o (to_send o)
    (first_view o) rank s (top_place (counts_sent (to_send o) (first_view o)))) × (messages_left o s ≤ c.0)
all_lie o s rank at = (c, omega (arith, lt_of_mul-lt-mul_right n {m = messages_left o s} {n = suc c.0} up))
  where
    ms : List ℕ
    ms = (first_view o).members

    n : ℕ
    n = length (first_view o).members

    sent : ℕ → ℕ
    sent t = length (to_send o t 0)

    most : ℕ
    most = fold max 0 (map (λ t. length (to_send o t 0)) (first_view o).members)

    c : Counted o (to_send o) (first_view o) rank s (top_place (counts_sent (to_send o) (first_view o)))
    c = counted o (to_send o) (first_entries o) (first_view o) rank s
        (top_place (counts_sent (to_send o) (first_view o))) (left-goes_on o (first_view o))
        (view-distinct (first_entries o) (first_view o) (first-ends o)) at

    few : messages_left o s ≤ most
    few = omega (
      arith,
      count_max (map sent ms) 0 rank (omega (arith, slice_get_within ms rank s at, length-map ms sent)),
      count-rank sent ms rank s at,
      length-map-range_with_len Index (length (messages_from s o.start)) (messages_left o s),
    )

    rounds : most * n ≤ c.0 * n + rank
    rounds = omega (arith, c.1.low, ap (λ k. k * most) (length-map ms sent), mul_comm n most)

    up : messages_left o s * n < suc c.0 * n
    up = omega (arith, rounds, slice_get_within ms rank s at, suc-mul c.0 n, mul-le-mul_right n few)

-- so the merge has them all
pub whole-holds : (o : Opening) → Sound o → HoldsAll o (first_view o) (first_entries o ++ remaining o)
whole-holds o sound s member = omega (
  arith,
  ap (λ es. length (messages_from s (first_entries o ++ es)))
      (merge-laid o (to_send o) v (λ t. length (to_send o t 0)) (CountsAll-sent (to_send o) v)),
  ap length (messages_from-append s (first_entries o) (laid o (to_send o) v top)),
  length-append (messages_from s (first_entries o)) (messages_from s (laid o (to_send o) v top)),
  start_messages o s,
  lie.0.2,
  left-messages o s lie.0.0 lie.1,
  ap (λ es. length (messages_from s es)) (take_all (length o.start) o.start (omega arith)),
  ap length numbered.1,
  length-append (messages_from s (take (length o.start) o.start)) numbered.0,
  length-numbered_messages o s,
)
  where
    v : GroupView
    v = first_view o

    top : ℕ
    top = top_place (counts_sent (to_send o) (first_view o))

    at : slice_get (first_view o).members member.0 ≡ Some s
    at = slice_get-get_or (first_view o).members member.0 s member.1 ∙ ap Some member.2

    lie : (c : Counted o (to_send o) (first_view o) member.0 s
        (top_place (counts_sent (to_send o) (first_view o)))) × (messages_left o s ≤ c.0)
    lie = all_lie o s member.0 at

    numbered : IsPrefixOf (messages_from s (take (length o.start) o.start)) (numbered_messages o s)
    numbered = numbered_stood o o.start s (length o.start) sound.entries (omega arith)

pub whole-leaves_none : (o next : Opening) → Sound o → next.members ≡ o.members
    → o.messages ≡ next.messages → next.start ≡ first_entries o ++ remaining o → remaining next ≡ []
whole-leaves_none o next sound mask same whole =
    sym (laid-whole next (to_send next) (first_entries next) (first_view next) 0 (left-goes_on next (first_view next))
    (view-distinct (first_entries next) (first_view next) (first-ends next)) all)
    ∙ laid-none next (to_send next) (first_view next)
  where
    all : HoldsAll next (first_view next) (first_entries next ++ laid next (to_send next) (first_view next) 0)
    all s member = ap (λ es. length (messages_from s (first_entries next ++ es)))
        (laid-none next (to_send next) (first_view next)) ∙ (ap (λ es. length (messages_from s es))
        (append-nil (first_entries next)) ∙ (start_messages next s ∙ (ap (λ es. length (messages_from s es)) whole
        ∙ (whole-holds o sound s (subst (λ m. Contains (members_of m) s) mask member)
        ∙ ap (λ (lists : List (List (List ℕ))). length (slice_index_or lists s [])) same))))
