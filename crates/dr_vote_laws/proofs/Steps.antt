-- Each event keeps what is true of votes, each accept word one that its owner had, and whoever suspects nobody
-- without a vote that waits.
use Rattle.std.proofs.Common.{List, arith, refl, inl, inr, ℕ, ◌+◌, ◌∷◌, length, [], unwrap_or}
use Rattle.dr_entry.specs.declared.end.SentItem.{SentItem, TheVariants.{Index, Null}}
use Rattle.dr_machine.specs.{Acts.{CanDo, CanTake, Guard, does, effect, effect_of}, Group.{Group, IsGroup, roster}}
use Rattle.dr_machine.specs.{Effects.{finished_history, one_more, puts, receives}, Events.{member_of, step_of}}
use Rattle.dr_machine.specs.{Guards.next_index, World.{World, own_word}, declared.{event.Act.Act, step.Step.Step}}
use Rattle.dr_machine.specs.declared.{event.Event.Event, step.Step.TheVariants.{Do, Look, Push, LogVote, Join}}
use Rattle.dr_machine.proofs.{Worlds.{committed_is, joined_is}, Writes.{at_both, at₃_case, at₄_case}}
use Rattle.dr_machine.specs.declared.event.Act.TheVariants as acts
use Rattle.dr_history.specs.History.{last_view}
use Rattle.dr_words.specs.{Masks.next_members, declared.column.TheConstants.{BEAT_COLUMN, DONE_COLUMN, LOGGED_COLUMN}}
use Rattle.dr_words.proofs.Accepts.{accept_within}
use Rattle.dr_faithful.{specs.Faithful.{AllGoOn, Faithful}, proofs.Faithfulness.{act_keeps, does_grow}}
use Rattle.dr_faithful.{specs.Tells.{Views, item_named}, proofs.Suspicions.may_name}
use Rattle.dr_faithful.proofs.{Puts.{MayPut, may_message, may_null, put_accepts, put_grew}, Receipts.receive_accepts}
use Rattle.dr_vote_laws.specs.{Moments.AcceptsOfMoments, Voting.Voting}
use Rattle.dr_vote_laws.proofs.{Accepting.{accept_votes, commit_votes}, Frames.same_accepts, Logging.vote_votes}
use Rattle.dr_vote_laws.proofs.{Moments.{AreOfMoments, IsOfMoment, all_on, has_now, own_on}, Moving.enter_votes}
use Rattle.dr_vote_laws.proofs.{Plain.{look_votes, push_votes, stamp_votes, word_votes}, Suspecting.suspect_votes}

-- an item that is put
put_votes : (g : Group) (V : Views) (w : World) (m : ℕ) (x : SentItem) → IsGroup g → MayPut g w m x
    → Faithful g V w → Voting g V w → Voting g V (puts g w m x (item_named g m x))
put_votes g V w m x is can f old = same_accepts g V w.past.view w.tag w.value w.committed w.pending w.past.own
    (puts g w m x (item_named g m x)).past.own w.table w.table w.seen w.past.votes (λ v s h. f.views.within v s h)
    (put_grew g V w m x is can f).own (put_accepts g V w m x is can f) (λ v j i k b. refl) old

-- each act keeps what is true of votes: those that neither write own words nor vote leave it as it is
act_votes : (g : Group) (V : Views) (w : World) (m : ℕ) (a : Act) → IsGroup g → AllGoOn g V w
    → CanDo g w m a → Faithful g V w → Voting g V w → Voting g V (does g w m a)
act_votes g V w m
    (acts.Receive s) is well can f old = same_accepts g V w.past.view w.tag w.value w.committed w.pending w.past.own
    (receives g w m s).past.own w.table w.table w.seen w.past.votes (λ v k h. f.views.within v k h) (does_grow g V w m
    (acts.Receive s) is well can f).own (receive_accepts g V w m s is can f) (λ v j i k b. refl) old
act_votes g V w m acts.Send is well can f old =
    put_votes g V w m (Index (next_index w m)) is (may_message g V w m can f) f old
act_votes g V w m acts.Null is well can f old = put_votes g V w m Null is (may_null g V w m can f) f old
act_votes g V w m acts.Publish is well can f old = word_votes g V w m LOGGED_COLUMN
    (length (w.past.log m)) (omega arith) f (does_grow g V w m acts.Publish is well can f).own old
act_votes g V w m acts.Mark is well can f old =
    word_votes g V w m DONE_COLUMN 1 (omega arith) f (does_grow g V w m acts.Mark is well can f).own old
act_votes g V w m (acts.Suspect j) is well can f old = suspect_votes g V w m j is (may_name g V w m j well can) f old
act_votes g V w m acts.Propose is well can f old = accept_votes g V w m can.vote is can.waits f old
act_votes g V w m acts.Accept is well can f old = accept_votes g V w m can.vote is can.waits f old
act_votes g V w m acts.Commit is well can f old = commit_votes g V w m can f old
act_votes g V w m acts.Finish is well can f old = committed_is w m can.value (Voting g V) g can.committed
    (enter_votes g V w m (w.past.view m + 1) (next_members (w.members m) can.value.leavers)
    (finished_history g w m can.value) can.may.idle (omega arith) f old)
act_votes g V w m a is well can f old = old

-- and so does each step
step_votes : (g : Group) (V : Views) (w : World) (m : ℕ) (s : Step) → IsGroup g → AllGoOn g V w
    → CanTake g w m s → Faithful g V w → Voting g V w → Voting g V (effect_of g w m s)
step_votes g V w m (Do a) is well can f old = stamp_votes g V
    (does g w m a) m (w.past.view m) (act_keeps g V w m a is well can f) (act_votes g V w m a is well can f old)
step_votes g V w m (Look i c) is well can f old = look_votes g V w m i c old
step_votes g V w m (Push j c) is well can f old = push_votes g V w m j c old
step_votes g V w m (LogVote v) is well can f old = vote_votes g V w m v is can f old
step_votes g V w m Join is well can f old = joined_is w m can.letter (Voting g V) can.given
    (enter_votes g V w m (last_view (0, 0) can.letter).0 (last_view (0, 0) can.letter).1 can.letter
    can.may.idle (well.join m can).later f old)
step_votes g V w m s is well can f old = old

-- and so does each event
pub voting_keeps : (g : Group) (V : Views) (w : World) (e : Event) → IsGroup g → AllGoOn g V w
    → Guard g w e → Faithful g V w → Voting g V w → Voting g V (effect g w e)
voting_keeps g V w e is well can f old = step_votes g V w (member_of e) (step_of e) is well can f old

-- ---- the words of votes are of moments

-- no act writes the table, but for its stamp, and one alone what was seen: in the next view nothing was
does_same : (g : Group) (V : Views) (w : World) (moments : List World) (m : ℕ) (a : Act)
    → AreOfMoments g V moments w.past.view w.table w.seen
    → AreOfMoments g V moments (does g w m a).past.view (does g w m a).table (does g w m a).seen
does_same g V w moments m acts.Finish so = record {
  in_table = so.in_table;
  in_seen = at_both (λ k view row. (i c : ℕ) → IsOfMoment g V moments view i c (row i c)) w.past.view w.seen m
      (w.past.view m + 1) (λ i c. 0) so.in_seen (λ i c column. inl refl);
}
does_same g V w moments m a so = so

-- the beat word is no accept word
beat_so : (g : Group) (V : Views) (moments : List World) (v i word : ℕ) → IsOfMoment g V moments v i BEAT_COLUMN word
beat_so g V moments v i word column = absurd (omega (arith, accept_within (roster g) (V v) BEAT_COLUMN column))

step_so : (g : Group) (V : Views) (us : List World) (w : World) (m : ℕ) (s : Step) → Faithful g V w
    → AreOfMoments g V (w ∷ us) w.past.view w.table w.seen
    → AreOfMoments g V (w ∷ us) (effect_of g w m s).past.view (effect_of g w m s).table (effect_of g w m s).seen
step_so g V us w m (Do a) f so =
    let u : World = does g w m a in
    let did = does_same g V w (w ∷ us) m a so in record {
      in_table = at₄_case (λ v j i c word. IsOfMoment g V (w ∷ us) v i c word) u.table
          (w.past.view m) m m BEAT_COLUMN (one_more 64 (u.past.acts m)) did.in_table
          (beat_so g V (w ∷ us) (w.past.view m) m (one_more 64 (u.past.acts m)));
      in_seen = did.in_seen;
    }
step_so g V us w m (Look i c) f so = record {
  in_table = so.in_table;
  in_seen = at₃_case (λ k a d word. IsOfMoment g V (w ∷ us) (w.past.view k) a d word)
      w.seen m i c (w.table (w.past.view m) m i c) so.in_seen (so.in_table (w.past.view m) m i c);
}
step_so g V us w m (Push j c) f so = record {
  in_table = at₄_case (λ v k a d word. IsOfMoment g V (w ∷ us) v a d word) w.table
      (w.past.view m) j m c (own_word w m c) so.in_table (λ column. inr (has_now g V us w m c f column));
  in_seen = so.in_seen;
}
step_so g V us w m Join f so = record {
  in_table = so.in_table;
  in_seen = at_both (λ k view row. (i c : ℕ) → IsOfMoment g V (w ∷ us) view i c (row i c)) w.past.view w.seen m
      (last_view (0, 0) (unwrap_or (w.letter m) [])).0 (λ i c. 0) so.in_seen (λ i c column. inl refl);
}
step_so g V us w m s f so = record { in_table = so.in_table; in_seen = so.in_seen }

pub accepts_stay : (g : Group) (V : Views) (us : List World) (w : World) (e : Event) → Faithful g V w
    → AcceptsOfMoments g V us w → AcceptsOfMoments g V (w ∷ us) (effect g w e)
accepts_stay g V us w e f old =
    let so = step_so g V us w (member_of e) (step_of e) f (all_on g V us w old) in record {
      in_table = so.in_table;
      in_seen = so.in_seen;
      on_way = own_on g V us w f old;
    }
