-- Steps that log no votes, and accept, promise and commit nothing.
use Rattle.std.proofs.Common.{arith, refl, true, ℕ, ◌<◌, ◌≡◌}
use Rattle.dr_machine.specs.{Effects.{looks, one_more, pushes, stamped_in, with_own}, Group.{Group, roster}}
use Rattle.dr_machine.{specs.World.{World, own_word}, proofs.Writes.{at₃_case, at₃_column, at₄_case, other_column}}
use Rattle.dr_faithful.{specs.{Faithful.Faithful, Tells.Views}, proofs.{Faithfulness.OwnGrew, Stamps.stamp_grew}}
use Rattle.dr_vote_laws.{specs.{Tells.TellsVote, Voting.Voting}, proofs.Frames.same_accepts}
use Rattle.dr_words.specs.{Columns.recv_column, Rewrites.is_accept_of, declared.column.TheConstants.BEAT_COLUMN}

-- an own word below the counts is written
pub word_votes : (g : Group) (V : Views) (w : World) (m c x : ℕ) → c < recv_column 0 → Faithful g V w
    → OwnGrew g w.past.own (with_own w m c x).past.own → Voting g V w → Voting g V (with_own w m c x)
word_votes g V w m c x l f grew old = same_accepts g V w.past.view w.tag w.value w.committed w.pending w.past.own
    (with_own w m c x).past.own w.table w.table w.seen w.past.votes (λ v s h. f.views.within v s h) grew
    (λ i v k b. at₃_column w.past.own m (w.past.view m) c x i v k (omega (arith, l, b.0))) (λ v j i k b. refl) old

-- the beat word is stamped
pub stamp_votes : (g : Group) (V : Views) (w : World) (m b : ℕ) → Faithful g V w → Voting g V w
    → Voting g V (stamped_in w m b)
stamp_votes g V w m b f old = same_accepts g V w.past.view w.tag w.value w.committed w.pending w.past.own
    (stamped_in w m b).past.own w.table (stamped_in w m b).table w.seen w.past.votes
    (λ v s h. f.views.within v s h) (stamp_grew g V w m b f).own (λ i v k l. at₃_column w.past.own m b BEAT_COLUMN
    (one_more 64 (w.past.acts m)) i v k (omega (arith, l.0))) (λ v j i k l. other_column w.table b m m BEAT_COLUMN
    (one_more 64 (w.past.acts m)) v j i k (omega (arith, l.0))) old

-- a look takes a word of the table
pub look_votes : (g : Group) (V : Views) (w : World) (m i c : ℕ) → Voting g V w → Voting g V (looks w m i c)
look_votes g V w m i c old = record {
  valid = old.valid;
  acted = old.acted;
  original = old.original;
  words = record {
    in_own = old.words.in_own;
    in_table = old.words.in_table;
    in_seen = at₃_case (λ a k z u. is_accept_of (roster g) (V (w.past.view a)) z ≡ true
        → TellsVote g w.past.own w.past.votes k (w.past.view a) z u) w.seen m i c
        (w.table (w.past.view m) m i c) old.words.in_seen (old.words.in_table (w.past.view m) m i c);
  };
  chosen = old.chosen;
}

-- a push brings an own word to the table
pub push_votes : (g : Group) (V : Views) (w : World) (m j c : ℕ) → Voting g V w → Voting g V (pushes w m j c)
push_votes g V w m j c old = record {
  valid = old.valid;
  acted = old.acted;
  original = old.original;
  words = record {
    in_own = old.words.in_own;
    in_table = at₄_case (λ v a i k z. is_accept_of (roster g) (V v) k ≡ true
        → TellsVote g w.past.own w.past.votes i v k z) w.table (w.past.view m) j m c (own_word w m c)
        old.words.in_table (old.words.in_own m (w.past.view m) c);
    in_seen = old.words.in_seen;
  };
  chosen = old.chosen;
}
