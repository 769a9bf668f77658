use Rattle.std.proofs.Common.{◌≡◌, ◌≤◌, length, take}
use Rattle.dr_history.specs.{History.messages_of, Order.{messages_from, numbered_messages}}
use Rattle.dr_oracle.proofs.order.is_numbered.Given as goal

abbrev pub invariant-loop-entry : goal.invariant-loop-entry
invariant-loop-entry l = record {
  so_far : messages_from l.of (take l.entry-index l.history) ≡ take l.next (numbered_messages l.opening l.of);
  given : l.next ≤ length (messages_of l.opening l.of);
}
