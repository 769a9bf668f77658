use Rattle.dr_faithful.proofs.Faithfulness.{words_on}
use Rattle.dr_faithful.proofs.laws.words_grow.Goals as goal

pub returns : goal.returns
returns c = words_on
