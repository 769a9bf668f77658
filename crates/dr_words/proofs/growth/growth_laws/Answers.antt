use Rattle.dr_words.proofs.Order.{Grown_refl, Grown_trans, IsPartOf-le}
use Rattle.dr_words.proofs.growth.growth_laws.Goals as goal

pub returns : goal.returns
returns c = record { reflexive = Grown_refl; transitive = Grown_trans; masks = IsPartOf-le }
