use Rattle.dr_lead.proofs.Highest.{IsHighestTo}
use Rattle.dr_lead.proofs.propose.highest.Given as goal

abbrev pub invariant-loop-row : goal.invariant-loop-row
invariant-loop-row l = IsHighestTo l.rows l.of l.row l.most l.highest
