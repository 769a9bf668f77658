use Rattle.dr_words.proofs.Places.{word_index_within, word_index_one_to_one}
use Rattle.dr_words.proofs.shape.Shape.word_index.Goals as goal

pub returns-clause-within : goal.returns-clause-within
returns-clause-within c = rw c.columns.ensures
    (word_index_within _ _ _ _ _ _ _ c.requires.bank c.requires.copy c.requires.row c.requires.column)

pub returns-clause-one_to_one : goal.returns-clause-one_to_one
returns-clause-one_to_one c =
    rw c.columns.ensures (λ b d r k t u v. word_index_one_to_one _ _ _ _ _ _ b d r k c.requires.copy
    c.requires.row c.requires.column t u v)
