-- Each event keeps the members faithful and lets the words grow, so in every world that is reached they are.
use Rattle.std.proofs.Common.{ap, arith, inl, inr, length, refl, sym, true, ℕ, ◌%◌, ◌+◌, ◌<◌, ◌∙◌, ◌≡◌, ◌≤◌, ◌⊎◌, ◌≢◌}
use Rattle.std.proofs.lemmas.{Bool.cases_eq, Nat.mod_below, Option.none-some}
use Rattle.dr_entry.{specs.declared.end.SentItem.{SentItem, TheVariants.{Index, Null}}, proofs.NumberFacts.same_slot}
use Rattle.dr_history.specs.{History.last_view, Members.has}
use Rattle.dr_machine.specs.{Acts.{CanDo, CanTake, Guard, does, effect, effect_of}, Group.{Group, IsGroup, roster}}
use Rattle.dr_machine.specs.Effects.{appends, logs_vote, puts, stamped, stamped_in, welcomes}
use Rattle.dr_machine.{specs.{Events.{member_of, step_of}, declared.event.Act.Act}, proofs.Voting.vote_past}
use Rattle.dr_machine.specs.Guards.{IsInView, IsOther, IsRunning, next_index, unsuspected_of}
use Rattle.dr_machine.specs.{Run.{NoLaterItem, PastGrew, WordsGrew}, World.{World, items_received, shown}}
use Rattle.dr_machine.{specs.declared.event.Event.Event, proofs.Groups.{act_stays, step_alive, AreUncommitted}}
use Rattle.dr_machine.specs.declared.step.Step.{Step, TheVariants.{Do, Look, Push, Append, LogVote, Welcome, Join}}
use Rattle.dr_machine.proofs.Worlds.{append_past, deliver_past, enter_past, finish_past, joined_is, past_on, past_same, same_past, committed_is, shown_own, shown_seen}
use Rattle.dr_machine.specs.declared.event.Act.TheVariants as acts
use Rattle.dr_rows.specs.Words.{own, seen}
use Rattle.dr_faithful.specs.Faithful.{AllGoOn, Faithful, Numbers}
use Rattle.dr_faithful.{specs.Tells.{TellsPiece, Views, item_named, item_sent, part_column}, proofs.Begin.whole}
use Rattle.dr_faithful.proofs.Acts.{beside_letters, append_keeps, beat_keeps, deliver_keeps, end_keeps, mark_grew, mark_keeps, publish_grew, publish_keeps, report_keeps, report_past}
use Rattle.dr_faithful.proofs.{Beside.{beats_late, in_view}, Copies.{look_grew, look_keeps, push_grew, push_keeps}}
use Rattle.dr_faithful.proofs.Finishes.{enter_grew, finish_grew, finish_keeps, join_keeps}
use Rattle.dr_faithful.proofs.{Pieces.{sent_item, tag_of_piece}, Receipts.{receive_grew, receive_keeps, receive_past}}
use Rattle.dr_faithful.proofs.Puts.{may_message, may_null, put_grew, put_keeps, put_past}
use Rattle.dr_faithful.proofs.Stamps.{stamp_grew, stamp_keeps, stamp_past}
use Rattle.dr_faithful.proofs.Suspicions.{may_name, suspect_grew, suspect_keeps}
use Rattle.dr_faithful.proofs.Votes.{accept_grew, accept_keeps, commit_keeps, vote_keeps}
use Rattle.dr_words.specs.{Changes.{received, IsLeastReceived, MayPropose}, Columns.recv_column, Grown.HasGrown}
use Rattle.dr_words.specs.Packing.{ring_tag, is_final, recv_count}
use Rattle.dr_words.proofs.Order.{HasGrown_same, HasGrown_trans, HasGrown_refl}

-- each act keeps the members faithful
pub act_keeps : (g : Group) (V : Views) (w : World) (m : ℕ) (a : Act) → IsGroup g → AllGoOn g V w
    → CanDo g w m a → Faithful g V w → Faithful g V (does g w m a)
act_keeps g V w m acts.Beat is well can f = beat_keeps g V w m f
act_keeps g V w m (acts.Receive s) is well can f = receive_keeps g V w m s is can f
act_keeps g V w m acts.Send is well can f =
    put_keeps g V w m (Index (next_index w m)) is (may_message g V w m can f) f
act_keeps g V w m acts.Null is well can f = put_keeps g V w m Null is (may_null g V w m can f) f
act_keeps g V w m acts.Deliver is well can f = deliver_keeps g V w m can f
act_keeps g V w m acts.Publish is well can f = publish_keeps g V w m can.may.inside f
act_keeps g V w m acts.Report is well can f = report_keeps g V w m is can f
act_keeps g V w m acts.Mark is well can f = mark_keeps g V w m can f
act_keeps g V w m (acts.Suspect j) is well can f = suspect_keeps g V w m j is (may_name g V w m j well can) f
act_keeps g V w m acts.Propose is well can f = accept_keeps g V w m can.vote is can.inside can.waits f
act_keeps g V w m acts.Accept is well can f = accept_keeps g V w m can.vote is can.inside can.waits f
act_keeps g V w m acts.Commit is well can f = commit_keeps g V w m f
act_keeps g V w m acts.Finish is well can f = committed_is w m can.value (Faithful g V) g can.committed
    (finish_keeps g V w m can.value is can.may can.stays (well.finish m can) f)
act_keeps g V w m (acts.Halt end) is well can f = end_keeps g V w m end f
act_keeps g V w m (acts.Crash end) is well can f = end_keeps g V w m end f

pub step_keeps : (g : Group) (V : Views) (w : World) (m : ℕ) (s : Step) → IsGroup g → AllGoOn g V w
    → CanTake g w m s → Faithful g V w → Faithful g V (effect_of g w m s)
step_keeps g V w m (Do a) is well can f = stamp_keeps g V (does g w m a) m (w.past.view m) (act_stays g w m a)
    (beats_late g V w m f (step_alive g w m (Do a) can).present) (act_keeps g V w m a is well can f)
step_keeps g V w m (Look i c) is well can f = look_keeps g V w m i c f
step_keeps g V w m (Push j c) is well can f = push_keeps g V w m j c f
step_keeps g V w m Append is well can f = append_keeps g V w m f
step_keeps g V w m (LogVote v) is well can f = vote_keeps g V w m v is can f
step_keeps g V w m (Welcome j) is well can f = beside_letters g V w (welcomes w m j).given (welcomes w m j).letter f
step_keeps g V w m Join is well can f = joined_is w m can.letter (Faithful g V) can.given (join_keeps g V w m
    (last_view (0, 0) can.letter).0 (last_view (0, 0) can.letter).1 can.letter is can.may.idle (well.join m can) f)

-- the members are faithful after each event
pub faithful_keeps : (g : Group) (V : Views) (w : World) (e : Event) → IsGroup g → AllGoOn g V w
    → Guard g w e → Faithful g V w → Faithful g V (effect g w e)
faithful_keeps g V w e is well can f = step_keeps g V w (member_of e) (step_of e) is well can f

-- ---- growth

-- growth, and then growth again while members stay in their views
grew_on : (g : Group) (a b c : World) → ((m : ℕ) → c.past.view m ≡ b.past.view m)
    → WordsGrew g a b → WordsGrew g b c → WordsGrew g a c
grew_on g a b c stay p q = record {
  own = λ m v k. HasGrown_trans (roster g) k _ _ _ (p.own m v k) (q.own m v k);
  table = λ v j i k. HasGrown_trans (roster g) k _ _ _ (p.table v j i k) (q.table v j i k);
  seen = λ m i k e. HasGrown_trans (roster g) k _ _ _ (p.seen m i k (sym (stay m) ∙ e)) (q.seen m i k (stay m));
}

-- an act and its stamp
act_grew : (g : Group) (V : Views) (w u : World) (m v : ℕ) → WordsGrew g w u → Faithful g V u
    → WordsGrew g w (stamped_in u m v)
act_grew g V w u m v p f = grew_on g w u (stamped_in u m v) (λ i. refl) p (stamp_grew g V u m v f)

-- the words are the same ones
pub same_words : (g : Group) (w u : World) → u.past.own ≡ w.past.own → u.table ≡ w.table → u.seen
    ≡ w.seen → WordsGrew g w u
same_words g w u own table seen = record {
  own = λ m v k. HasGrown_same (roster g) k (w.past.own m v k) (u.past.own m v k) (ap (λ f. f m v k) own);
  table = λ v j i k. HasGrown_same (roster g) k (w.table v j i k) (u.table v j i k) (ap (λ f. f v j i k) table);
  seen = λ m i k e. HasGrown_same (roster g) k (w.seen m i k) (u.seen m i k) (ap (λ f. f m i k) seen);
}

-- the words grow in an act
pub does_grow : (g : Group) (V : Views) (w : World) (m : ℕ) (a : Act) → IsGroup g → AllGoOn g V w
    → CanDo g w m a → Faithful g V w → WordsGrew g w (does g w m a)
does_grow g V w m acts.Send is well can f = put_grew g V w m (Index (next_index w m)) is (may_message g V w m can f) f
does_grow g V w m acts.Null is well can f = put_grew g V w m Null is (may_null g V w m can f) f
does_grow g V w m (acts.Receive s) is well can f = receive_grew g V w m s is can f
does_grow g V w m acts.Publish is well can f = publish_grew g V w m f
does_grow g V w m acts.Mark is well can f = mark_grew g V w m f
does_grow g V w m (acts.Suspect j) is well can f = suspect_grew g V w m j is (may_name g V w m j well can) f
does_grow g V w m acts.Propose is well can f = accept_grew g V w m can.vote can.waits f
does_grow g V w m acts.Accept is well can f = accept_grew g V w m can.vote can.waits f
does_grow g V w m acts.Finish is well can f =
    committed_is w m can.value (WordsGrew g w) g can.committed (finish_grew g V w m can.value f)
does_grow g V w m a is well can f = same_words g w (does g w m a) refl refl refl

-- the words grow at every step
pub grew : (g : Group) (V : Views) (w : World) (m : ℕ) (s : Step) → IsGroup g → AllGoOn g V w
    → CanTake g w m s → Faithful g V w → WordsGrew g w (effect_of g w m s)
grew g V w m (Do a) is well can f = act_grew g V w
    (does g w m a) m (w.past.view m) (does_grow g V w m a is well can f) (act_keeps g V w m a is well can f)
grew g V w m (Look i c) is well can f = look_grew g V w m i c f can.row.other
grew g V w m (Push j c) is well can f = push_grew g V w m j c f
grew g V w m Append is well can f = same_words g w (appends w m) refl refl refl
grew g V w m (LogVote v) is well can f = same_words g w (logs_vote g w m v) refl refl refl
grew g V w m (Welcome j) is well can f = same_words g w (welcomes w m j) refl refl refl
grew g V w m Join is well can f = joined_is w m can.letter (WordsGrew g w) can.given (enter_grew g V w m
    (last_view (0, 0) can.letter).0 (last_view (0, 0) can.letter).1 can.letter (well.join m can).later f)

-- the words grow at every event
pub words_on : (g : Group) (V : Views) (w : World) (e : Event) → IsGroup g → AllGoOn g V w
    → Guard g w e → Faithful g V w → WordsGrew g w (effect g w e)
words_on g V w e is well can f = grew g V w (member_of e) (step_of e) is well can f

-- a step puts an item of some name, or leaves what is sent as it is
pub puts_or_leaves : (g : Group) (w : World) (m : ℕ) (s : Step) → CanTake g w m s
    → ((name : SentItem) × IsRunning g w m × (effect_of g w m s ≡ stamped (puts g w m name (item_named g m name)) m))
    ⊎ ((effect_of g w m s).past.sent ≡ w.past.sent)
puts_or_leaves g w m (Do acts.Send) can = inl (Index (next_index w m), can.may.alive, refl)
puts_or_leaves g w m (Do acts.Null) can = inl (Null, can.may.alive, refl)
puts_or_leaves g w m (Do a) can = inr refl
puts_or_leaves g w m s can = inr refl

-- what an act makes only grow
does_past : (g : Group) (V : Views) (w : World) (m : ℕ) (a : Act) → IsGroup g → CanDo g w m a
    → Faithful g V w → PastGrew w.past (does g w m a).past
does_past g V w m acts.Send is can f = put_past g V w m (Index (next_index w m)) is (may_message g V w m can f) f
does_past g V w m acts.Null is can f = put_past g V w m Null is (may_null g V w m can f) f
does_past g V w m (acts.Receive s) is can f = receive_past g V w m s is can f
does_past g V w m acts.Deliver is can f = deliver_past w m
does_past g V w m acts.Report is can f = report_past g V w m can f
does_past g V w m acts.Finish is can f =
    committed_is w m can.value (λ u. PastGrew w.past u.past) g can.committed (finish_past g w m can.value)
does_past g V w m a is can f = same_past w.past (does g w m a).past refl refl refl refl refl refl refl refl

pub step_past : (g : Group) (V : Views) (w : World) (m : ℕ) (s : Step) → IsGroup g → AllGoOn g V w
    → CanTake g w m s → Faithful g V w → PastGrew w.past (effect_of g w m s).past
step_past g V w m (Do a) is well can f = past_on w.past
    (does g w m a).past (stamped_in (does g w m a) m (w.past.view m)).past (does_past g V w m a is can f)
    (stamp_past g V (does g w m a) m (w.past.view m) (act_keeps g V w m a is well can f))
step_past g V w m (Look i c) is well can f = past_same w.past
step_past g V w m (Push j c) is well can f = past_same w.past
step_past g V w m Append is well can f = append_past w m
step_past g V w m (LogVote v) is well can f = vote_past g w m v
step_past g V w m (Welcome j) is well can f = past_same w.past
step_past g V w m Join is well can f = joined_is w m can.letter (λ u. PastGrew w.past u.past) can.given
    (enter_past w m (last_view (0, 0) can.letter).0 (last_view (0, 0) can.letter).1 can.letter
    (well.join m can).later (well.join m can).begins)

-- and so does all else that only grows
pub past_on_event : (g : Group) (V : Views) (w : World) (e : Event) → IsGroup g → AllGoOn g V w
    → Guard g w e → Faithful g V w → PastGrew w.past (effect g w e).past
past_on_event g V w e is well can f = step_past g V w (member_of e) (step_of e) is well can f

-- ---- no later item

-- a word of the slot of the item that m waits for is no later one's
later_tag : (g : Group) (V : Views) (w : World) (m s part word : ℕ) → IsGroup g → Faithful g V w
    → IsInView w m → IsOther w m s → TellsPiece g (length (w.past.sent s (w.past.view m))) (item_sent g w.past.sent s
    (w.past.view m)) (items_received w m s % g.window) part word → ring_tag word ≤ items_received w m s + 1
later_tag g V w m s part word is f l other (inl none) = omega arith
later_tag g V w m s part word is f l other (inr p) =
    let v : ℕ = w.past.view m in
    let tag = tag_of_piece g (length (w.past.sent s v)) (item_sent g w.past.sent s v)
    (items_received w m s % g.window) part word (λ i. sent_item g w.past.sent s v i is) p in
    let window = f.items.window m v s (in_view g V w m f l)
    (ap (λ k. has k s) (sym (f.views.own m)) ∙ other.member) in
    let earlier = same_slot g.window (items_received w m s) p.number is.some_slot p.place
    (omega (arith, p.put, window, f.sent.all s v)) in
    omega (arith, tag, earlier)

-- no later item stands in the slot of one that is waited for
pub none_later : (g : Group) (V : Views) (w : World) → IsGroup g → Faithful g V w → NoLaterItem g w
none_later g V w is f m s part l other p =
    let slot = mod_below (items_received w m s) g.window is.some_slot in
    let column : ℕ = part_column g (items_received w m s % g.window) part in (
      later_tag g V w m s part _ is f l other
          ((f.words.table (w.past.view m) m s column).ring (items_received w m s % g.window) part slot p refl),
      later_tag g V w m s part _ is f l other
          ((f.words.seen m s column).ring (items_received w m s % g.window) part slot p refl),
    )

-- own words have grown
abbrev pub OwnGrew : Group → Numbers → Numbers → Type 0
OwnGrew g own new = (i v c : ℕ) → HasGrown (roster g) c (own i v c) (new i v c)

-- a final count stays
received_same : (g : Group) (own new : Numbers) (i v s : ℕ) → OwnGrew g own new → s < roster g
    → is_final (own i v (recv_column s)) ≡ true → received (λ i c. new i v c) i s ≡ received (λ i c. own i v c) i s
received_same g own new i v s grew l final = ap recv_count ((grew i v (recv_column s)).final s l refl final)

-- the least counts of members whose counts are final stay
pub least_on : (g : Group) (V : Views) (own new : Numbers) (v mask s count : ℕ) → OwnGrew g own new
    → s < roster g → ((i : ℕ) → has mask i ≡ true → is_final (own i v (recv_column s)) ≡ true)
    → IsLeastReceived (λ i c. own i v c) mask s count → IsLeastReceived (λ i c. new i v c) mask s count
least_on g V own new v mask s count grew l final t = record {
  least = λ i h. rw (received_same g own new i v s grew l (final i h)) (t.least i h);
  found = (
    t.found.0,
    t.found.1,
    t.found.2 ∙ sym (received_same g own new t.found.0 v s grew l (final t.found.0 t.found.1)),
  );
}

-- the own words are as before
pub own_stays : (g : Group) (w : World) → OwnGrew g w.past.own w.past.own
own_stays g w i v c = HasGrown_refl (roster g) c (w.past.own i v c)

-- a word that is shown has grown into its owner's
pub shown_grown : (g : Group) (V : Views) (w : World) (m i c : ℕ) → Faithful g V w
    → HasGrown (roster g) c (shown w m i c) (w.past.own i (w.past.view m) c)
shown_grown g V w m i c f = by (cases_eq i m)
  where
    by : (i ≡ m) ⊎ (i ≢ m) → HasGrown (roster g) c (shown w m i c) (w.past.own i (w.past.view m) c)
    by (inl e) = rw (shown_own w m i c e) (HasGrown_refl (roster g) c (w.past.own i (w.past.view m) c))
    by (inr d) = rw (shown_seen w m i c d) (HasGrown_trans (roster g) c (w.seen m i c) (w.table (w.past.view m) m i c)
        (w.past.own i (w.past.view m) c) (f.old.in_seen m i c d) (f.old.in_table (w.past.view m) m i c))

-- a final count that is shown is the one that its owner has
pub final_count : (g : Group) (V : Views) (w : World) (m i s : ℕ)
    → MayPropose (roster g) (shown w m) (w.members m) (w.suspects m) m → Faithful g V w
    → has (unsuspected_of w m) i ≡ true → has (w.members m) s ≡ true
    → w.past.own i (w.past.view m) (recv_column s) ≡ shown w m i (recv_column s)
final_count g V w m i s may f h k = (shown_grown g V w m i (recv_column s) f).final s
    (f.views.within (w.past.view m) s (ap (λ z. has z s) (sym (f.views.own m)) ∙ k)) refl (may.final i s h k)

-- nobody may end its view or join
pub none_go_on : (g : Group) (w : World) → AreUncommitted g w → AllGoOn g (whole g) w
none_go_on g w u = record {
  finish = λ m can. absurd (none-some can.value (sym (u.none m) ∙ can.committed));
  join = λ m can. absurd (none-some can.letter (sym (u.unsent m) ∙ can.given));
  wish = λ m j there may. record { late = may.0; absent = λ n l. may.0.1 };
}

-- in another view its words are 0
pub unseen : (g : Group) (W : Views) (w : World) (v j i c : ℕ) → Faithful g W w → w.past.view i < v → w.table v j i c ≡ 0
unseen g W w v j i c f less = omega (arith, (f.old.in_table v j i c).number, f.fresh.unwritten i v c less)
