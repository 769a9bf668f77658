-- Accept words that arrive late: what they tell of votes stays true.
use Rattle.std.proofs.Common.{◌≡◌, subst, sym, ℕ, List, [], ◌∷◌, true}
use Rattle.dr_words.specs.Rewrites.{is_accept_of}
use Rattle.dr_machine.{specs.Acts.{Guard, effect, effect_of}, proofs.Runs.{arrived, none_was, were_all}}
use Rattle.dr_machine.{specs.{Events.{member_of, step_of}, declared.event.Event.Event}, proofs.Groups.does_votes}
use Rattle.dr_machine.specs.{Group.{Group, IsGroup, roster}, Run.{HaveArrived, with_table}, declared.step.Step.Step}
use Rattle.dr_machine.specs.{World.{Table, World, opening_world}, declared.step.Step.TheVariants.{Do, LogVote}}
use Rattle.dr_faithful.{specs.{Faithful.{AllGoOn, Faithful}, Tells.Views}, proofs.Faithfulness.words_on}
use Rattle.dr_vote_laws.specs.{Late.VotesBacked, Tells.TellsVote, Voting.Voting}
use Rattle.dr_vote_laws.proofs.{Later.{tells_on, VotesGrew, votes_same}, Logging.votes_grew}

-- no vote comes late
step_votes : (g : Group) (V : Views) (w : World) (m : ℕ) (s : Step) → Faithful g V w
    → VotesGrew g w.past.own w.past.votes (effect_of g w m s).past.votes
step_votes g V w m (Do a) f = subst (VotesGrew g w.past.own w.past.votes) (sym (does_votes g w m a))
    (votes_same g w.past.own w.past.votes)
step_votes g V w m (LogVote v) f = votes_grew g V w m v f
step_votes g V w m s f = votes_same g w.past.own w.past.votes

-- the accept words of before, with the own ones
backed_now : (g : Group) (V : Views) (us : List World) (w : World) → Voting g V w → VotesBacked g V us w
    → VotesBacked g V (w ∷ us) w
backed_now g V us w old y = were_all us w (λ v i c word. is_accept_of (roster g)
    (V v) c ≡ true → TellsVote g w.past.own w.past.votes i v c word) (λ i c. old.words.in_own i (w.past.view i) c) y

pub votes_backed : (g : Group) (V : Views) → VotesBacked g V [] (opening_world g)
votes_backed g V = none_was (λ v i c word. is_accept_of (roster g) (V v) c ≡ true
    → TellsVote g (opening_world g).past.own (opening_world g).past.votes i v c word)

pub votes_on : (g : Group) (V : Views) (us : List World) (w : World) (e : Event) → IsGroup g → AllGoOn g V w
    → Guard g w e → Faithful g V w → Voting g V w → VotesBacked g V us w → VotesBacked g V (w ∷ us) (effect g w e)
votes_on g V us w e is well can f old y v i c word was column = tells_on g w.past.own
    (effect g w e).past.own w.past.votes (effect g w e).past.votes i v c word (words_on g V w e is well can f).own
    (step_votes g V w (member_of e) (step_of e) f) (backed_now g V us w old y v i c word was column)

-- a word that arrives tells of its owner's votes what it told when it was sent
pub arrived_votes : (g : Group) (V : Views) (us : List World) (w : World) (table : Table)
    → HaveArrived (w ∷ us) w table → VotesBacked g V us w → Voting g V w
    → Voting g V (with_table w table) × VotesBacked g V (w ∷ us) (with_table w table)
arrived_votes g V us w table come y old = (
  record {
    valid = old.valid;
    acted = old.acted;
    original = old.original;
    words = record {
      in_own = old.words.in_own;
      in_table = λ v j i c column. arrived (w ∷ us) w v i c (table v j i c)
          (TellsVote g w.past.own w.past.votes i v c) (come.source v j i c)
          (λ x was. now v i c x was column) (λ k. old.words.in_table v k i c column);
      in_seen = old.words.in_seen;
    };
    chosen = old.chosen;
  },
  now,
)
  where
    now : VotesBacked g V (w ∷ us) w
    now = backed_now g V us w old y
