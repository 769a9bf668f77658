use Rattle.std.proofs.Common.{◌≡◌, ◌≤◌, filter, length, take}
use Rattle.dr_history.specs.Members.{has}
use Rattle.dr_oracle.proofs.succession.count_in.Given as goal

abbrev pub invariant-loop-member : goal.invariant-loop-member
invariant-loop-member l = record {
  counted : l.count ≡ length (filter (has l.members) (take l.member-index l.list));
  few : l.count ≤ l.member-index;
}
