-- As the age opens nobody has voted.
use Rattle.std.proofs.Common.{[], arith, subst, sym, ℕ}
use Rattle.dr_machine.{specs.{Group.{Group, roster}, Votes.Votes, World.opening_world}, proofs.Voting.{nobody, none}}
use Rattle.dr_faithful.specs.{Faithful.Numbers, Tells.Views}
use Rattle.dr_vote_laws.specs.{Tells.TellsVote, Voting.Voting}
use Rattle.dr_words.proofs.Accepts.{accept_within}

-- a word 0 tells nothing
pub tells_nothing : (g : Group) (own : Numbers) (votes : Votes) (i v c : ℕ) → TellsVote g own votes i v c 0
tells_nothing g own votes i v c = record {
  promised = omega arith;
  low = omega arith;
  voted = λ b e. absurd (omega (arith, e));
  passed = λ b x h l. absurd (omega (arith, l));
}

pub begun : (g : Group) (V : Views) → Voting g V (opening_world g)
begun g V = record {
  valid = record {
    own = λ i x h. absurd (nobody i x h);
    one = λ i v b x y h k. absurd (nobody i _ h);
    value = λ i v b x h. absurd (nobody i _ h);
    led = λ i v b x h. absurd (nobody i _ h);
  };
  acted = record {
    below = λ i v b x h. absurd (nobody i _ h);
    accepted = λ m b e. absurd (omega (arith, e));
    waiting = λ m x e. absurd (cc e);
  };
  original = λ v b x h. absurd (nobody b _ h);
  words = record {
    in_own = λ i v c a. subst (λ z. TellsVote g (opening_world g).past.own (λ i. []) i v c z)
        (sym (none g i v c (accept_within (roster g) (V v) c a)))
        (tells_nothing g (opening_world g).past.own (λ i. []) i v c);
    in_table = λ v j i c a. tells_nothing g (opening_world g).past.own (λ i. []) i v c;
    in_seen = λ m i c a. tells_nothing g (opening_world g).past.own (λ i. []) i 0 c;
  };
  chosen = λ m x e. absurd (cc e);
}
