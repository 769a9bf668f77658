use Rattle.dr_restart.proofs.Sounding.{choice-group, choice-sound}
use Rattle.dr_quorum_laws.proofs.laws.choices_are_sound.Goals as goal

pub returns : goal.returns
returns c = record { sound = choice-sound; group = choice-group }
