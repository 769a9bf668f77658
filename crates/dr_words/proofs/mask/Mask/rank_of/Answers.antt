use Rattle.std.proofs.lemmas.Option.{slice_get_within}
use Rattle.dr_history.proofs.Ranks.{at_rank_of, ones_below}
use Rattle.dr_words.proofs.mask.Mask.rank_of.Goals as goal

pub returns-clause-rank : goal.returns-clause-rank
returns-clause-rank c = rw (← c.self.view_is) (ones_below c.self.inside.0 c.args.n c.requires.number)

pub returns-clause-below : goal.returns-clause-below
returns-clause-below c = rw (c.self.view_is, ones_below c.args.self.now c.args.n c.requires.number)
    (slice_get_within _ _ c.args.n (at_rank_of c.args.self.now c.args.n c.requires.number c.requires.member))

pub returns-clause-found : goal.returns-clause-found
returns-clause-found c = rw (c.self.view_is, ones_below c.args.self.now c.args.n c.requires.number)
    (at_rank_of c.args.self.now c.args.n c.requires.number c.requires.member)
