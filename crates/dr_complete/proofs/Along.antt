-- How far a member has come after so many rounds, and that its next turn brings it on.
use Rattle.std.proofs.Common.{ap, arith, inl, inr, le_trans, length, length-append, map, subst, sym, ℕ, ◌%◌, ◌*◌, ◌+◌, ◌<◌, ◌∙◌, ◌≡◌, ◌≢◌, ◌≤◌, ◌⊎◌}
use Rattle.std.proofs.lemmas.{Bool.{cases_eq, cases_lt}, Nat.mod_below}
use Rattle.dr_entry.proofs.{NumberFacts.round_le, Rounds.{HasCome, Rests, come_more}}
use Rattle.dr_history.{specs.{Members.members_of, Places.front_of}, proofs.Fronts.front_past}
use Rattle.dr_words.specs.declared.column.TheConstants.{DONE_COLUMN, LOGGED_COLUMN, RECEIVED_COLUMN}
use Rattle.dr_ring.specs.Slots.{slot_column}
use Rattle.dr_machine.specs.{Group.{Group, roster}, Guards.HoldsAll, World.{World, items_received, own_word, shown}}
use Rattle.dr_machine.proofs.{Groups.members_first, Presence.is_present}
use Rattle.dr_program.proofs.Holdings.{held, IsAlong}
use Rattle.dr_faithful.specs.{Chosen.views_by, Faithful.Faithful}
use Rattle.dr_faithful.proofs.{ChosenViews.{views-first, IsPastAll, PutAll}, Shown.done_is_one}
use Rattle.dr_world_laws.proofs.{Firsts.{count_first, own_first, told, is_in_view, in_view_is}, Whole.holds_all}
use Rattle.dr_world_laws.proofs.Worlds.{holds-remaining}
use Rattle.dr_turn_laws.proofs.Acts.{nothing_left}
use Rattle.dr_turn_laws.proofs.Resting.{HasHadTurn, slot_is_free, is_left, fills, shows_own, has_logged}
use Rattle.dr_complete.{specs.Reached.SeesSlot, proofs.Takes.takes_all}
use Rattle.dr_history_laws.specs.Remaining.{messages_left}

-- ---- items

-- it sees the slots of the others as they stand
sees_slot : {g : Group} {w : World} {most r m : ℕ} → HasHadTurn g w most r m → (t : ℕ) → t < roster g → t ≢ m
    → SeesSlot g w m t
sees_slot {g = g} {w = w} {m = m} h t l other part small =
    let k : ℕ = items_received w m t in
    let column : ℕ = slot_column (roster g) g.window k + part in
    let slot : k % g.window < g.window = mod_below k g.window h.known.group.some_slot in
    h.sees t column l other (omega (arith, slot, small)) (λ e. omega (arith, e)) (λ e. absurd (omega (arith, e)))
    ∙ ap (λ v. w.past.own t v column) (sym (h.known.view m))

-- so it has all that they have put
has_taken : {g : Group} {w : World} {most r m : ℕ} → HasHadTurn g w most r m → (t : ℕ) → t < roster g → t ≢ m
    → w.past.count m 0 t ≡ w.past.count t 0 t
has_taken {g = g} {w = w} {m = m} h t l other =
    let member = is_in_view h.known m t l in
    sym (count_first h.known m t) ∙ takes_all g w m t h.known.group h.known.known.run
    (is_in_view h.known m m h.member) (record { member = member; other = other }) (sees_slot h t l other)
    (λ ready. (nothing_left h.rested).items t (record { member = member; other = other }, ready))
    ∙ ap (λ v. w.past.count t v t) (h.known.view m)

-- m has done all that there was to do for its items
rests : {g : Group} {w : World} {most r m : ℕ} → HasHadTurn g w most r m
    → Rests (roster g) g.window (messages_left g.opening) m (λ i. w.past.count i 0)
rests {g = g} {w = w} {m = m} h = record {
  taken = λ t l other. has_taken h t l other;
  sent = λ fewer room. (nothing_left h.rested).messages (is_left g w m h.known h.member fewer, slot_is_free h room);
  filled = λ enough room s l. fills h enough room s;
}

-- so it has come on by a round
has_come : {g : Group} {w : World} {most r m : ℕ} → HasHadTurn g w most r m
    → HasCome (roster g) (messages_left g.opening) (r + 1) m (w.past.count m 0)
has_come {g = g} {w = w} {r = r} {m = m} h = come_more (roster g) g.window (messages_left g.opening) r m
    (λ i. w.past.count i 0) h.known.group.some_slot h.member (rests h) (λ i l other. (h.others i l other).come)

-- ---- all messages

-- late enough everybody has the items of all up to the last message
has_items : {g : Group} {w : World} {most r m : ℕ} → HasHadTurn g w most r m → (i s t k : ℕ) → 3 * most ≤ r
    → i < roster g → s < roster g → t < roster g → k < messages_left g.opening s → k < w.past.count i 0 t
has_items {w = w} {m = m} h i s t k late l a b left = by (cases_eq i m)
  where
    by : (i ≡ m) ⊎ (i ≢ m) → k < w.past.count i 0 t
    by (inl same) = rw same ((has_come h).has s t k a b left (omega (arith, h.few s, left, late)))
    by (inr other) = (h.others i l other).come.has s t k a b left (omega (arith, h.few s, left, late))

-- and its received word says so
has_received : {g : Group} {w : World} {most r m : ℕ} → HasHadTurn g w most r m → (i s k : ℕ) → 3 * most ≤ r
    → i < roster g → s < roster g → k < messages_left g.opening s → k * roster g + s < w.past.own i 0 RECEIVED_COLUMN
has_received {g = g} {w = w} h i s k late l a left = subst (λ (z : ℕ). k * roster g + s < z)
    (sym ((told h.known).counts.received i 0
    ∙ ap (λ mask. front_of (map (w.past.count i 0) (members_of mask))) (views-first g h.known.known.values)
    ∙ ap (λ ms. front_of (map (w.past.count i 0) ms)) (members_first g h.known.group h.known.nobody h.known.whole)))
    (front_past (w.past.count i 0) (roster g) (k * roster g + s) h.known.group.some_member
    (λ j t b before. let less = round_le (roster g) j k s t a before in
    has_items h i s t j late l a b (omega (arith, less, left))))

-- so m, which has delivered all that it may, is past all messages
is_past_all : {g : Group} {w : World} {most r m : ℕ} → HasHadTurn g w most r m → 3 * most ≤ r → IsPastAll g w m
is_past_all {g = g} {w = w} {m = m} h late s k a left = by (cases_lt (k * roster g + s) (w.next m))
  where
    by : (k * roster g + s < w.next m) ⊎ (w.next m ≤ k * roster g + s) → k * roster g + s < w.next m
    by (inl past) = past
    by (inr short) = absurd ((nothing_left h.rested).places (λ i member.
        let l = in_view_is h.known m i member in
        omega (
          arith,
          short,
          has_received h i s k late l a left,
          shows_own h i RECEIVED_COLUMN l (omega arith) (λ e. omega (arith, e)) (λ e. absurd (omega (arith, e))),
        )))

-- everybody has put as many items as it had messages left
has_put_all : {g : Group} {w : World} {most r m : ℕ} → HasHadTurn g w most r m → 3 * most ≤ r → PutAll g w
has_put_all {g = g} {w = w} h late s l = by (cases_lt (length (w.past.sent s 0)) (messages_left g.opening s))
  where
    by : (length (w.past.sent s 0) < messages_left g.opening s)
        ⊎ (messages_left g.opening s ≤ length (w.past.sent s 0))
        → messages_left g.opening s ≤ length (w.past.sent s 0)
    by (inl fewer) = absurd (omega (
      arith,
      has_items h s s s (length (w.past.sent s 0)) late l l l fewer,
      (told h.known).sent.all s 0,
    ))
    by (inr enough) = enough

-- so m holds all messages
holds : {g : Group} {w : World} {most r m : ℕ} → HasHadTurn g w most r m → 3 * most ≤ r → HoldsAll g w m
holds {g = g} {w = w} {m = m} h late = holds_all g w m h.known h.member (is_past_all h late) (has_put_all h late)

-- ---- showing done

-- later still every row shows that the whole history is on its log
shows_logged : {g : Group} {w : World} {most r m : ℕ} → HasHadTurn g w most r m → (i : ℕ) → 3 * most + 1 ≤ r
    → i < roster g → length (w.past.history m) ≤ shown w m i LOGGED_COLUMN
shows_logged {g = g} {w = w} {m = m} h i late l = rw word (by (cases_eq i m))
  where
    word : shown w m i LOGGED_COLUMN ≡ w.past.own i 0 LOGGED_COLUMN
    word = shows_own h i LOGGED_COLUMN l (omega arith) (λ e. omega (arith, e)) (λ e. omega arith)

    by : (i ≡ m) ⊎ (i ≢ m) → length (w.past.history m) ≤ w.past.own i 0 LOGGED_COLUMN
    by (inl same) = rw same (has_logged g w m h.rested h.known)
    by (inr other) =
        let theirs = (h.others i l other).whole late in
        omega (
          arith,
          theirs.1,
          ap length (holds-remaining g w i h.known.group h.known.known l (h.known.view i) theirs.0),
          ap length (holds-remaining g w m h.known.group h.known.known h.member (h.known.view m)
              (holds h (omega (arith, late)))),
        )

-- so m knows its whole history to be durable
knows_durable : {g : Group} {w : World} {most r m : ℕ} → HasHadTurn g w most r m → 3 * most + 1 ≤ r
    → w.past.durable m ≡ length (w.past.history m)
knows_durable {g = g} {w = w} {m = m} h late = by (cases_lt (w.past.durable m) (length (w.past.history m)))
  where
    f : Faithful g (views_by g h.known.known.values) w
    f = told h.known

    by : (w.past.durable m < length (w.past.history m)) ⊎ (length (w.past.history m) ≤ w.past.durable m)
        → w.past.durable m ≡ length (w.past.history m)
    by (inl short) = absurd ((nothing_left h.rested).durable
        (λ i member. le_trans short (shows_logged h i late (in_view_is h.known m i member))))
    by (inr enough) = omega (
      arith,
      enough,
      (f.logs.safe m (is_present g m h.known.whole h.member)).own,
      length-append (w.past.log m) (f.logs.front m).0,
      ap length (f.logs.front m).1,
    )

-- and shows done
shows_done : {g : Group} {w : World} {most r m : ℕ} → HasHadTurn g w most r m → 3 * most + 1 ≤ r
    → w.past.own m 0 DONE_COLUMN ≡ 1
shows_done {g = g} {w = w} {m = m} h late =
    sym (own_first h.known m DONE_COLUMN) ∙ by (cases_lt 0 (own_word w m DONE_COLUMN))
  where
    by : (0 < own_word w m DONE_COLUMN) ⊎ (own_word w m DONE_COLUMN ≤ 0) → own_word w m DONE_COLUMN ≡ 1
    by (inl some) = done_is_one g (views_by g h.known.known.values) w m (w.past.view m) (told h.known) some
    by (inr none) = absurd ((nothing_left h.rested).mark (
      omega (arith, none),
      holds h (omega (arith, late)),
      knows_durable h late,
    ))

-- ---- a round more

-- a member that has had its turn has come on by a round
pub along_more : {g : Group} {w : World} {most r m : ℕ} → HasHadTurn g w most r m
    → IsAlong g most (r + 1) m (held w m)
along_more {g = g} {w = w} {m = m} h = record {
  come = has_come h;
  whole = λ late. (holds h (omega (arith, late)), has_logged g w m h.rested h.known);
  done = λ late. shows_done h (omega (arith, late));
}
