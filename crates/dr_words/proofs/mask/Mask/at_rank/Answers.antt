use Rattle.std.proofs.Common.{◌≡◌, true, length, arith, ◌∙◌}
use Rattle.dr_history.{specs.Members.{has, members_below}, proofs.Ranks.{at_rank_of, rank_within, one_left, found}}
use Rattle.dr_words.proofs.mask.Mask.at_rank.Goals as goal

pub narrow-number-requires-clause-rank : goal.narrow-number-requires-clause-rank
narrow-number-requires-clause-rank c =
    rank_within c.self.inside.0 c.args.r (omega arith) (rw c.self.view_is c.requires)

pub returns : goal.returns
returns c = record {
  found = rw (← place) (at_rank_of c.args.self.now c.narrow-number-4.result.0 (omega arith) member);
  member = member;
  number = omega arith;
  rank = place;
}
  where
    member : has c.args.self.now c.narrow-number-4.result.0 ≡ true
    member = rw (← c.self.view_is) (one_left c.self.inside.0 c.narrow-number-4.result.0 c.narrow-number-4.result.1
        c.narrow-number-4.ensures.rank).0

    place : length (members_below c.args.self.now c.narrow-number-4.result.0) ≡ c.args.r
    place = rw (← c.self.view_is)
        (found c.self.inside.0 c.narrow-number-4.result.0 c.narrow-number-4.result.1 c.args.r
        c.narrow-number-4.ensures.rank (c.narrow-number-4.ensures.same ∙ c.narrow-number-3.ensures.same
        ∙ c.narrow-number-2.ensures.same ∙ c.narrow-number.ensures.same))
