-- What each event makes of the histories.
use Rattle.std.proofs.Common.{◌≡◌, ◌≢◌, ap, sym, ◌∙◌, ◌⊎◌, inl, inr, subst, ℕ, ◌+◌, ◌<◌, ◌≤◌, le_refl, arith, List, [], ◌∷◌, ◌++◌, length, option_to_list, append_assoc}
use Rattle.std.proofs.lemmas.Bool.{cases_eq}
use Rattle.dr_entry.specs.declared.{end.SentItem.{SentItem, TheVariants.{Index, Null}}, entry.Entry.Entry}
use Rattle.dr_history.specs.{History.{GroupView, Sent, last_view}, Order.messages_from}
use Rattle.dr_history_laws.specs.Courses.{ViewHasEnded, course, head_of}
use Rattle.dr_history_laws.specs.Laid.{laid, entry_at, GoesOn, HeldBelow, MayBeNext, SentMore}
use Rattle.dr_history_laws.proofs.{Courses.{course-head, course-steady, head-steady}, LaidLemmas.laid-next}
use Rattle.dr_history_laws.proofs.{Merging.goes_still, SendingLemmas.GoesOn-send}
use Rattle.dr_machine.{specs.Acts.{CanTake, Guard, effect, effect_of}, proofs.Worlds.{committed_is, joined_is, added}}
use Rattle.dr_machine.specs.{Effects.{delivers, enters, finished_history, finishes, joins}, declared.step.Step.Step}
use Rattle.dr_machine.specs.{Events.{member_of, step_of}, declared.event.Event.Event}
use Rattle.dr_machine.specs.{Group.{Group, roster, IsPresent}, Guards.{CanDeliver, CanFinish, CanJoin}, World.World}
use Rattle.dr_machine.{specs.Writes.at₂, proofs.Writes.{at_both, at_three, at₂_read, at₂_member, at₂_view}}
use Rattle.dr_machine.proofs.Events.{IsNextItem, Progress, progress, progress_after}
use Rattle.dr_faithful.{specs.{Chosen.{Values, endings_by, views_by}, Tells.Views}, proofs.ChosenViews.sent_more}
use Rattle.dr_world_laws.specs.Historic.{Historic, head_by, view_numbered}

-- the entry of the next place is what a delivery adds
abbrev pub AddsEntry : Group → Views → World → ℕ → Type 0
AddsEntry g V w m = option_to_list
    (entry_at g.opening w.past.sent (view_numbered g V (w.past.view m)) (w.next m)) ≡ added w m

-- every place below the next one of a member holds a sent item
abbrev pub AreHeld : Group → Views → World → Type 0
AreHeld g V w = (m : ℕ) → m < roster g → HeldBelow w.past.sent (view_numbered g V (w.past.view m)) (w.next m)

-- one place is delivered
deliver_keeps : (g : Group) (values : Values) (w : World) (m : ℕ) → AddsEntry g (views_by g values) w m
    → Historic g values w → Historic g values (delivers w m)
deliver_keeps g values w m adds h = record {
  history = at_both (λ k es p. k < roster g → es ≡ course g.opening w.past.sent (endings_by g.opening values)
      (w.past.view k) p) w.past.history w.next m (w.past.history m ++ added w m) (w.next m + 1) h.history here;
  goes = h.goes;
  based = h.based;
}
  where
    v : GroupView
    v = view_numbered g (views_by g values) (w.past.view m)

    head : List Entry
    head = head_by g values w (w.past.view m)

    so_far : List Entry
    so_far = laid g.opening w.past.sent (view_numbered g (views_by g values) (w.past.view m)) (w.next m)

    here : m < roster g → w.past.history m ++ added w m
        ≡ course g.opening w.past.sent (endings_by g.opening values) (w.past.view m) (w.next m + 1)
    here l = rw (laid-next g.opening w.past.sent v (w.next m), adds)
        (ap (λ es. es ++ added w m) (h.history m l) ∙ append_assoc head so_far (added w m))

-- the views before those that members are in have ended
abbrev pub HaveEnded : Group → Values → World → Type 0
HaveEnded g values w = (m v : ℕ) → m < roster g → v < w.past.view m
    → ViewHasEnded g.opening w.past.sent (endings_by g.opening values) v

-- the message that m may put is the next one, and a null may always be put
next_is : (g : Group) (values : Values) (w : World) (m : ℕ) (name : SentItem)
    → ((m : ℕ) → IsPresent g m → m < roster g) → Historic g values w → IsNextItem g w m name
    → MayBeNext g.opening w.past.sent (head_by g values w (w.past.view m))
    (view_numbered g (views_by g values) (w.past.view m)) m name
next_is g values w m (Index n) within h (can, is) = record {
  index = λ i e. let same : n ≡ i = cc in
      omega (arith, same, is, h.based m (within m can.may.alive.present));
  scripted = λ i e. let same : n ≡ i = cc in omega (arith, same, is, can.left);
}
next_is g values w m Null within h can = record { index = λ i e. absurd (cc); scripted = λ i e. absurd (cc) }

put_keeps : (g : Group) (values : Values) (w : World) (m : ℕ) (name : SentItem) → HaveEnded g values w
    → AreHeld g (views_by g values) w → MayBeNext g.opening w.past.sent (head_by g values w (w.past.view m))
    (view_numbered g (views_by g values) (w.past.view m)) m name → Historic g values w → Historic g values (record w {
      past = record w.past { sent = at₂ w.past.sent m (w.past.view m) (w.past.sent m (w.past.view m) ++ name ∷ []) };
    })
put_keeps g values w m name ended held next h = record {
  history = λ k l. h.history k l ∙ sym (course-steady g.opening w.past.sent now
      (endings_by g.opening values) (w.past.view k) (w.next k) more (λ u. ended k u l) (held k l));
  goes = λ k v l come. subst (λ es. GoesOn g.opening now es (view_numbered g (views_by g values) v))
      (sym (steady k v l come)) (goes k v l come (cases_eq v (w.past.view m)));
  based = λ k l. h.based k l
      ∙ ap (λ es. length (messages_from k es)) (sym (steady k (w.past.view k) l (le_refl (w.past.view k))));
}
  where
    u : ℕ
    u = w.past.view m

    items : List SentItem
    items = w.past.sent m (w.past.view m) ++ name ∷ []

    now : Sent
    now = at₂ w.past.sent m (w.past.view m) (w.past.sent m (w.past.view m) ++ name ∷ [])

    more : SentMore w.past.sent (at₂ w.past.sent m (w.past.view m) (w.past.sent m (w.past.view m) ++ name ∷ []))
    more = sent_more w.past.sent m (w.past.view m) name

    steady : (k v : ℕ) → k < roster g → v ≤ w.past.view k → head_of g.opening (at₂ w.past.sent m (w.past.view m)
        (w.past.sent m (w.past.view m) ++ name ∷ [])) (endings_by g.opening values) v ≡ head_by g values w v
    steady k v l come = head-steady g.opening w.past.sent now (endings_by g.opening values) v more
        (λ x less. ended k x l (omega (arith, less, come)))

    goes : (k v : ℕ) → k < roster g → v ≤ w.past.view k → (v ≡ w.past.view m) ⊎ (v ≢ w.past.view m) → GoesOn g.opening
        (at₂ w.past.sent m (w.past.view m) (w.past.sent m (w.past.view m) ++ name ∷ []))
        (head_by g values w v) (view_numbered g (views_by g values) v)
    goes k v l come (inl same) =
        subst (λ n. GoesOn g.opening now (head_by g values w n) (view_numbered g (views_by g values) n)) (sym same)
        (GoesOn-send g.opening w.past.sent now (head_by g values w u)
        (view_numbered g (views_by g values) u) m name (h.goes k u l (omega (arith, come, same)))
        (record { own = at₂_read w.past.sent m u items; others = λ t d. at₂_member w.past.sent m u items t d }) next)
    goes k v l come (inr other) = goes_still g.opening w.past.sent now (head_by g values w v)
        (view_numbered g (views_by g values) v) (λ s. at₂_view w.past.sent m u items s v other) (h.goes k v l come)

-- a member goes on in a view with its head
enter_keeps : (g : Group) (values : Values) (w : World) (m to members : ℕ) (history : List Entry)
    → history ≡ head_by g values w to → ((u : ℕ) → GoesOn g.opening w.past.sent (head_by g values w u)
    (view_numbered g (views_by g values) u)) → Historic g values w → Historic g values (enters w m to members history)
enter_keeps g values w m to members history is goes h = record {
  history = at_three (λ k es b p. k < roster g → es ≡ course g.opening w.past.sent (endings_by g.opening values) b p)
      w.past.history w.past.view w.next m history to 0 h.history
      (λ l. is ∙ sym (course-head g.opening w.past.sent (endings_by g.opening values) to));
  goes = λ k v l come. goes v;
  based = at_both (λ k base b. k < roster g → base ≡ length (messages_from k (head_by g values w b)))
      w.base w.past.view m (length (messages_from m history)) to h.based
      (λ l. ap (λ es. length (messages_from m es)) is);
}

-- what is known of the members before a step
pub record AreReady (g : Group) (values : Values) (w : World) : Type 0 where
  pub present : (m : ℕ) → IsPresent g m → m < roster g
  pub ended : HaveEnded g values w
  pub held : AreHeld g (views_by g values) w
  pub adds : (m : ℕ) → CanDeliver g w m → AddsEntry g (views_by g values) w m
  pub goes : (u : ℕ) → GoesOn g.opening w.past.sent (head_by g values w u) (view_numbered g (views_by g values) u)
  pub comes : (m : ℕ) → (can : CanFinish g w m) → finished_history g w m can.value
      ≡ head_by g values w (w.past.view m + 1)
  pub joins : (m : ℕ) → (can : CanJoin g w m) → can.letter ≡ head_by g values w (last_view (0, 0) can.letter).0

-- the world, but for what its members have put and delivered
abbrev with_progress : World → Progress → World
with_progress w x = record w {
  past = record w.past { view = x.view; sent = x.sent; history = x.history };
  next = x.next;
  base = x.base;
}

-- each step keeps what the histories are made of
step_keeps : (g : Group) (values : Values) (w : World) (m : ℕ) (s : Step) → AreReady g values w
    → CanTake g w m s → Historic g values w → Historic g values (effect_of g w m s)
step_keeps g values w m s r can h = record { history = after.history; goes = after.goes; based = after.based }
  where
    finish : CanFinish g w m → Historic g values (with_progress w (progress (finishes g w m)))
    finish can =
        let next : Historic g values (finishes g w m) = committed_is w m can.value (Historic g values) g
        can.committed (enter_keeps g values w m (w.past.view m + 1) _ (finished_history g w m can.value)
        (r.comes m can) r.goes h) in
        record { history = next.history; goes = next.goes; based = next.based }

    join : CanJoin g w m → Historic g values (with_progress w (progress (joins w m)))
    join can =
        let next : Historic g values (joins w m) = joined_is w m can.letter (Historic g values) can.given
        (enter_keeps g values w m (last_view (0, 0) can.letter).0 (last_view (0, 0) can.letter).1 can.letter
        (r.joins m can) r.goes h) in
        record { history = next.history; goes = next.goes; based = next.based }

    after : Historic g values (with_progress w (progress (effect_of g w m s)))
    after = progress_after g w m s (λ x. Historic g values (with_progress w x)) can (record {
      puts_item = λ name may.
          put_keeps g values w m name r.ended r.held (next_is g values w m name r.present h may) h;
      delivers_place = λ can. deliver_keeps g values w m (r.adds m can) h;
      knows_more = λ can. h;
      goes_on = finish;
      joins = join;
      stays = h;
    })

-- after an event too, histories are laid out by views and places
pub event_keeps : (g : Group) (values : Values) (w : World) (e : Event) → AreReady g values w
    → Guard g w e → Historic g values w → Historic g values (effect g w e)
event_keeps g values w e r can h = step_keeps g values w (member_of e) (step_of e) r can h
