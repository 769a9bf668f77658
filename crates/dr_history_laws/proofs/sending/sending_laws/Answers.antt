use Rattle.dr_history_laws.proofs.SendingLemmas.{GoesOn-none, GoesOn-send, HeldBelow-front}
use Rattle.dr_history_laws.proofs.sending.sending_laws.Goals as goal

pub returns : goal.returns
returns c = record { none = GoesOn-none; next = GoesOn-send; held = HeldBelow-front }
