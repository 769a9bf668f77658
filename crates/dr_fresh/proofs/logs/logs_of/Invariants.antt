use Rattle.std.proofs.Common.{◌≡◌, length}
use Rattle.dr_fresh.{specs.declared.logs.TheConstants.LOG_LIMIT, proofs.Fresh.AllFresh}
use Rattle.dr_fresh.proofs.logs.logs_of.Given as goal

abbrev pub invariant-loop-member : goal.invariant-loop-member
invariant-loop-member l = record {
  count : length l.logs.items ≡ l.member;
  fresh : AllFresh l.start LOG_LIMIT l.logs.items;
}
