use Rattle.std.proofs.Common.{◌≡◌, ◌≤◌, length, take}
use Rattle.dr_history.specs.Order.{messages_from}
use Rattle.dr_commands.proofs.live.lines.count_from.Given as goal

abbrev pub invariant-loop-entry : goal.invariant-loop-entry
invariant-loop-entry l = record {
  few : l.count ≤ l.entry-index;
  count : l.count ≡ length (messages_from l.sender (take l.entry-index l.entries));
}
