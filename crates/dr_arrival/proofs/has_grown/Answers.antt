use Rattle.std.{specs.Prelude.{◌↔◌, IsTrue}, proofs.Common.{sym, subst}}
use Rattle.dr_words.specs.Grown.{HasGrown}
use Rattle.dr_arrival.proofs.Exact.{growth_exact}
use Rattle.dr_arrival.proofs.has_grown.Goals as goal

pub returns-clause-exact : goal.returns-clause-exact
returns-clause-exact c = subst (λ b. IsTrue b ↔ HasGrown c.args.members c.args.column c.args.old c.args.new)
    (sym c.growth_test.ensures) (growth_exact c.args.members c.args.column c.args.old c.args.new)
