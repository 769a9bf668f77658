use Rattle.std.proofs.Common.{◌≡◌, None}
use Rattle.dr_program.specs.Running.{members, columns, settled}
use Rattle.dr_turn.specs.Search.{IsUnderway, left}
use Rattle.dr_member.specs.{Ready.KeepsReady, Search.standing}
use Rattle.dr_member.proofs.search.settle_outside.Given as goal

abbrev pub decreases-loop-column : goal.decreases-loop-column
decreases-loop-column l = left (members (standing l.replica l.fate l.place))
    (columns (standing l.replica l.fate l.place)) l.place

abbrev pub invariant-loop-column : goal.invariant-loop-column
invariant-loop-column l = record {
  same : settled (standing l.replica l.fate l.place) ≡ settled (standing l.replica l.fate l.fn.place);
  underway : IsUnderway (standing l.replica l.fate l.place);
  none : l.replica.end ≡ None;
  ready : KeepsReady l.replica l.place l.ready;
}
