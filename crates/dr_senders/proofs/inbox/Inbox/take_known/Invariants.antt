use Rattle.std.proofs.Common.{◌≡◌, ◌+◌, ◌≤◌, ◌++◌, length, vec_capacity, vec_len}
use Rattle.dr_entry.specs.declared.limits.TheConstants.{MAX_MESSAGES}
use Rattle.dr_history.specs.History.{IsPrefixOf}
use Rattle.rtrb.specs.Ring.{SameConsumer, known_items, received}
use Rattle.dr_senders.proofs.inbox.Inbox.take_known.Given as goal

abbrev pub invariant-loop : goal.invariant-loop
invariant-loop l = record {
  ring : SameConsumer l.fn.self.ring l.self.ring;
  same : received l.self.ring ++ known_items l.self.ring ≡ received l.fn.self.ring ++ known_items l.fn.self.ring;
  left : l.counter + length (known_items l.self.ring) ≡ length (known_items l.fn.self.ring);
  long : vec_len l.self.messages ≡ vec_len l.fn.self.messages + l.counter;
  grown : IsPrefixOf l.fn.self.messages.items l.self.messages.items;
  room : vec_len l.fn.self.messages + l.count ≤ vec_capacity l.self.messages;
  known : l.count ≤ length (known_items l.fn.self.ring);
  few : vec_len l.fn.self.messages + l.count ≤ MAX_MESSAGES;
}
