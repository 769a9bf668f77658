-- A member that may end its view comes to the head of the next one, as everybody does who ends this view.
use Rattle.std.proofs.Common.{List, [], ◌∷◌, ◌++◌, ap, arith, fold, inl, inr, length, length-append, map, option_to_list, slice_get, slice_index, subst, sym, true, false, Some, ℕ, ◌/◌, ◌%◌, ◌+◌, ◌<◌, ◌∙◌, ◌≡◌, ◌≤◌, ◌⊎◌}
use Rattle.std.proofs.lemmas.{Bool.cases_lt, Option.{none-some, slice_get-get_or}}
use Rattle.dr_entry.specs.declared.{end.SentItem.{SentItem, TheVariants.Index}, entry.Entry.{Entry, TheVariants.View}}
use Rattle.dr_entry.{specs.declared.record.Value.Value, proofs.{ListFacts.no_members, ListPlaces.Contains-slice_get}}
use Rattle.dr_entry.proofs.OptionFacts.{below_or_last}
use Rattle.dr_history.specs.{History.{GroupView, item_at, merge, messages_of}, Members.{has, members_of}}
use Rattle.dr_history.{specs.{Order.messages_from, Places.{is_held, rest_places}}, proofs.Indices.item_at-parts}
use Rattle.dr_history.proofs.{MemberLemmas.member-has, NumberedLemmas.length-numbered_messages, Places.held_member}
use Rattle.dr_history_laws.specs.{Courses.{ViewHasEnded, counts_taken}, Laid.{GoesOn, entry_at, laid}}
use Rattle.dr_history_laws.proofs.{Courses.{InOrder-head, head-ends, head-next}, Ordered.view-distinct}
use Rattle.dr_history_laws.proofs.Resting.{rest-merged}
use Rattle.dr_words.specs.Masks.{next_members}
use Rattle.dr_machine.specs.{Effects.{counts_by, finished_history, with_place}, Group.{Group, IsGroup, roster}}
use Rattle.dr_machine.{specs.World.{World, view_members}, proofs.Groups.banks-small}
use Rattle.dr_faithful.specs.{Chosen.{Values, endings_by, views_by}, Faithful.{Faithful, GoesOnWell}}
use Rattle.dr_faithful.proofs.ChosenViews.{Changes, ending-next, next-follows, next-majority, next-newcomers, next-roster, next-stayed, place-kept, views-cases}
use Rattle.dr_faithful.proofs.Ending.{of_roster, Finishes, changes, next-is}
use Rattle.dr_world_laws.specs.Historic.{AreLaid, Historic, HasEndedSafely, head_by, view_numbered}
use Rattle.dr_world_laws.proofs.Items.{IsReceived, entries-next, item-here}

-- what is sent in any view goes on from its head: in one that its sender has not come to nothing is sent
pub goes-any : (g : Group) (values : Values) (w : World) (v : ℕ) → IsGroup g
    → Faithful g (views_by g values) w → Historic g values w
    → GoesOn g.opening w.past.sent (head_by g values w v) (view_numbered g (views_by g values) v)
goes-any g values w v is f h = record {
  index = λ s k i member at. (of_sender s k i at (of_roster g values v s is member)
      (cases_lt (w.past.view s) v)).index s k i member at;
  scripted = λ s k i member at. (of_sender s k i at (of_roster g values v s is member)
      (cases_lt (w.past.view s) v)).scripted s k i member at;
}
  where
    of_sender : (s k i : ℕ) → slice_get (w.past.sent s v) k ≡ Some (Index i) → s < roster g
        → (w.past.view s < v) ⊎ (v ≤ w.past.view s)
        → GoesOn g.opening w.past.sent (head_by g values w v) (view_numbered g (views_by g values) v)
    of_sender s k i at l (inl less) =
        let none : w.past.sent s v ≡ [] = no_members (w.past.sent s v) (f.sent.all s v ∙ f.fresh.empty s v s less) in
        absurd (none-some (Index i) (sym (ap (λ xs. slice_get xs k) none) ∙ at))
    of_sender s k i at l (inr come) = h.goes s v l come

-- the view that it ends
pub leaves : (g : Group) (values : Values) (w : World) (m : ℕ) (x : Value) → IsGroup g
    → Faithful g (views_by g values) w → Finishes g values w m x → HasEndedSafely g values w (w.past.view m)
leaves g values w m x is f y = record {
  ended = record {
    follows = next-follows g values v is c (omega (arith, y.bank, banks-small g is));
    roster = next-roster g values v is c;
    majority = next-majority g values v is c;
    newcomers = λ s h. next-newcomers g values v s is c h;
    given = λ s at.
        let there = member-has (views_by g values v) at.0 s
        (slice_get-get_or (members_of (views_by g values v)) at.0 s at.1 ∙ ap Some at.2) in
        omega (arith, y.items s there, f.items.counted m v s, f.sent.all s v);
  };
  least = λ s there.
      let t = y.safe.least s (sym (member s) ∙ there) in (
        t.0,
        member t.0 ∙ t.1,
        t.2,
        subst (λ (z : Value). w.past.count t.0 v s ≤ slice_index z.trim s) y.chosen t.3,
      );
  covered = λ i s was remains there. subst (λ (z : Value). slice_index z.trim s ≤ w.past.count i v s) y.chosen
      (y.safe.covered i s (sym (member i) ∙ was)
      (subst (λ (z : Value). has z.leavers i ≡ false) (sym y.chosen) (stay i was (views-cases g values v i remains)))
      (sym (member s) ∙ there));
}
  where
    v : ℕ
    v = w.past.view m

    c : Changes g values (w.past.view m)
    c = changes g values w m x y.chosen y.safe

    stay : (i : ℕ) → has (views_by g values (w.past.view m)) i ≡ true
        → ((has (views_by g values (w.past.view m)) i ≡ true) × (has (values (w.past.view m)).leavers i ≡ false))
        ⊎ ((has (views_by g values (w.past.view m)) i ≡ false)
        × (has (values (w.past.view m)).leavers i ≡ true)) → has (values (w.past.view m)).leavers i ≡ false
    stay i was (inl t) = t.1
    stay i was (inr t) = absurd (cc (was, t.0))

    member : (i : ℕ) → has (views_by g values (w.past.view m)) i ≡ has (w.members m) i
    member i = sym (ap (λ k. has k i) (f.views.own m))

-- a place of the merge adds its entry
rest-place : (g : Group) (values : Values) (w : World) (m : ℕ) (x : Value)
    → IsGroup g → Faithful g (views_by g values) w → Historic g values w → Finishes g values w m x → (q : ℕ)
    (history : List Entry) → is_held (counts_taken g.opening (endings_by g.opening values) (w.past.view m)) q ≡ true
    → ((s i : ℕ) → item_at w.past.sent (view_numbered g (views_by g values) (w.past.view m)) q
    ≡ Some (s, Index i) → i ≡ length (messages_from s history)) → with_place w m history q ≡ history
    ++ option_to_list (entry_at g.opening w.past.sent (view_numbered g (views_by g values) (w.past.view m)) q)
rest-place g values w m x is f h y q history held next = ap (λ es. history ++ es)
    (sym (entries-next g (views_by g values) w m q history r.sender r.name r.place r.sent r.has_it (λ i e. (
      next r.sender i (r.place ∙ ap (λ (n : SentItem). Some (r.sender, n)) e),
      scripted i (r.place ∙ ap (λ (n : SentItem). Some (r.sender, n)) e),
    ))))
  where
    v : ℕ
    v = w.past.view m

    ms : List ℕ
    ms = members_of (views_by g values (w.past.view m))

    at : (s : ℕ) × (slice_get (members_of (views_by g values (w.past.view m)))
        (q % length (members_of (views_by g values (w.past.view m)))) ≡ Some s)
        × (q / length (members_of (views_by g values (w.past.view m))) < slice_index (values (w.past.view m)).trim s)
    at = held_member (λ s. slice_index (values v).trim s) ms q held

    r : IsReceived g (views_by g values) w m q
    r = item-here g (views_by g values) w m q f (
      at.0,
      at.1,
      omega (arith, at.2, y.items at.0 (member-has (views_by g values v) (q % length ms) at.0 at.1)),
    )

    scripted : (i : ℕ) → item_at w.past.sent (view_numbered g (views_by g values) (w.past.view m)) q
        ≡ Some (r.sender, Index i) → i < length (messages_of g.opening r.sender)
    scripted i e =
        let view : GroupView = view_numbered g (views_by g values) v in
        let parts = item_at-parts w.past.sent view q r.sender (Index i) e in
        (goes-any g values w v is f h).scripted r.sender (q / length view.members) i
        (Contains-slice_get view.members (q % length view.members) r.sender parts.0) parts.1

-- the history of a member that ends its view is the head of the next one
pub finished-head : (g : Group) (values : Values) (w : World) (m : ℕ) (x : Value) → IsGroup g
    → Faithful g (views_by g values) w → Historic g values w → Finishes g values w m x
    → finished_history g w m x ≡ head_by g values w (w.past.view m + 1)
finished-head g values w m x is f h y = ap (λ cs. fold (with_place w m) (w.past.history m) (rest_places cs (w.next m))
    ++ last) counts ∙ ap (λ es. fold (with_place w m) es (rest_places taken (w.next m)) ++ last)
    (h.history m y.within) ∙ ap (λ es. es ++ last) (rest-merged g.opening w.past.sent (head_by g values w v) view
    (λ s. slice_index (values v).trim s) (w.next m) (with_place w m) (goes-any g values w v is f h)
    (view-distinct (head_by g values w v) view (head-ends g.opening w.past.sent (endings_by g.opening values) v))
    (place-kept g values w m is f least) (rest-place g values w m x is f h y))
    ∙ ap (λ mask. (head_by g values w v ++ merge g.opening w.past.sent view taken) ++ View g.opening.age (v + 1) mask
    ∷ []) remain ∙ sym (head-next g.opening w.past.sent (endings_by g.opening values) v)
  where
    v : ℕ
    v = w.past.view m

    view : GroupView
    view = view_numbered g (views_by g values) (w.past.view m)

    taken : List ℕ
    taken = counts_taken g.opening (endings_by g.opening values) (w.past.view m)

    last : List Entry
    last = View g.opening.age (w.past.view m + 1) (next_members (w.members m) x.leavers) ∷ []

    counts : counts_by w m x ≡ counts_taken g.opening (endings_by g.opening values) (w.past.view m)
    counts = ap (λ (z : Value). map (λ s. slice_index z.trim s) (view_members w m)) y.chosen
        ∙ ap (λ mask. map (λ s. slice_index (values v).trim s) (members_of mask)) (f.views.own m)

    remain : next_members (w.members m) x.leavers ≡ (endings_by g.opening values (w.past.view m)).next
    remain = next-is g values w m x is f y ∙ sym (ending-next g values v)

    least : (s : ℕ) → has (views_by g values (w.past.view m)) s ≡ true
        → (j : ℕ) × (has (views_by g values (w.past.view m)) j ≡ true)
        × (w.past.count j (w.past.view m) s ≤ slice_index (values (w.past.view m)).trim s)
    least s there = let t = (leaves g values w m x is f y).least s there in (t.0, t.1, t.3)

-- a head is in order, so it holds no more messages than the script
pub head-few : (g : Group) (values : Values) (w : World) (s v : ℕ) (history : List Entry) → IsGroup g
    → Faithful g (views_by g values) w → AreLaid g values w
    → ((u : ℕ) → u < v → ViewHasEnded g.opening w.past.sent (endings_by g.opening values) u)
    → history ≡ head_by g values w v → length (messages_from s history) ≤ length (messages_of g.opening s)
head-few g values w s v history is f laid ended same =
    let numbered = (InOrder-head g.opening w.past.sent (endings_by g.opening values) v is.sound
    (record { ended = ended; goes = λ u l. goes-any g values w u is f laid.historic })).numbered s in
    omega (
      arith,
      ap (λ es. length (messages_from s es)) same,
      ap length numbered.1,
      length-append (messages_from s (head_by g values w v)) numbered.0,
      length-numbered_messages g.opening s,
    )

-- and goes on well: the head is in order, so it holds no more messages than the script
pub goes-on_well : (g : Group) (values : Values) (w : World) (m : ℕ) (x : Value) → IsGroup g
    → Faithful g (views_by g values) w → AreLaid g values w
    → Finishes g values w m x → GoesOnWell g (views_by g values) w m x
goes-on_well g values w m x is f laid y = record {
  wedged = y.safe.wedged;
  next = sym (next-is g values w m x is f y);
  stayed = next-stayed g values v (changes g values w m x y.chosen y.safe);
  few = head-few g values w m (v + 1) (finished_history g w m x) is f laid
      (λ u l. ended u (below_or_last u v l)) (finished-head g values w m x is f laid.historic y);
}
  where
    v : ℕ
    v = w.past.view m

    ended : (u : ℕ) → (u < w.past.view m) ⊎ (u ≡ w.past.view m)
        → ViewHasEnded g.opening w.past.sent (endings_by g.opening values) u
    ended u (inl less) = (laid.left m u y.within less).ended
    ended u (inr same) = subst (ViewHasEnded g.opening w.past.sent (endings_by g.opening values)) (sym same)
        (leaves g values w m x is f y).ended
