use Rattle.dr_history.proofs.Tests.{IsFilledTo}
use Rattle.dr_trim.specs.Trims.{IsLeastReceived}
use Rattle.dr_trim.proofs.trim.trim_of.Given as goal

abbrev pub invariant-loop-sender : goal.invariant-loop-sender
invariant-loop-sender l = IsFilledTo (IsLeastReceived l.rows l.of) l.senders l.sender l.trim
