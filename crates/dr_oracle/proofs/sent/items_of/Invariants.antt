use Rattle.std.proofs.Common.{◌≡◌, drop}
use Rattle.dr_history.specs.History.{items_in, sent_of}
use Rattle.dr_oracle.proofs.sent.items_of.Given as goal

abbrev pub invariant-loop-sent : goal.invariant-loop-sent
invariant-loop-sent l = items_in l.number (drop l.sent-index l.sent-items) ≡ sent_of l.ends l.member l.number
