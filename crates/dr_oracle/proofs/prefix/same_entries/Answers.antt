use Rattle.std.proofs.{Common.rules, lemmas.Slice.Eq.slice_eq-Decides}
use Rattle.dr_oracle.proofs.prefix.same_entries.Goals as goal

pub returns : goal.returns
returns c = slice_eq-Decides (λ a b. search rules) c.args.a.now c.args.b.now c.eq.result c.eq.ensures
