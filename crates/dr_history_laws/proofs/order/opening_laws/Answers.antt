use Rattle.dr_history.proofs.{Lengths.start-short, Openings.{InOrder-first, first-members}}
use Rattle.dr_history_laws.proofs.order.opening_laws.Goals as goal
use Rattle.dr_history_laws.proofs.Ordered.{first-ends}

pub returns : goal.returns
returns c = record { order = InOrder-first; view = first-ends; members = first-members; short = start-short }
