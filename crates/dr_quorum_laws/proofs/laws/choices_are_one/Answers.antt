use Rattle.dr_restart.proofs.Refusals.{no-refusal, one-refusal, one-start}
use Rattle.dr_quorum_laws.proofs.laws.choices_are_one.Goals as goal

pub returns : goal.returns
returns c = record { start = one-start; unrefused = no-refusal; refusal = one-refusal }
