use Rattle.dr_history.proofs.{Keeping.{longest_keeps, sound_later}, Lists.prefix-trans}
use Rattle.dr_history_laws.proofs.restarting.restarting_laws.Goals as goal

pub returns : goal.returns
returns c = record {
  kept = longest_keeps;
  later = sound_later;
  stays = λ o next last accounts i kept more present. prefix-trans _ _ _ (kept.durable i present) more;
}
