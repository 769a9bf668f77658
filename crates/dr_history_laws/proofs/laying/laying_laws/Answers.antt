use Rattle.dr_history_laws.proofs.{LaidLemmas.{laid-next, laid-prefix}, Steady.{laid-steady, HeldBelow-more}}
use Rattle.dr_history_laws.proofs.laying.laying_laws.Goals as goal

pub returns : goal.returns
returns c = record { next = laid-next; prefix = laid-prefix; steady = laid-steady; held = HeldBelow-more }
