use Rattle.dr_world_laws.proofs.Worlds.{past_next, past_since, words_next}
use Rattle.dr_world_laws.proofs.nothing_is_undone.Goals as goal

pub returns-clause-words : goal.returns-clause-words
returns-clause-words c = λ g before w after is way next. words_next g before w after is way next

pub returns-clause-past : goal.returns-clause-past
returns-clause-past c = λ g before w after is way next. past_next g before w after is way next

pub returns-clause-since : goal.returns-clause-since
returns-clause-since c = past_since
