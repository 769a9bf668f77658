use Rattle.std.proofs.Common.{◌≡◌, ◌<◌, ℕ, length, take, slice_index}
use Rattle.dr_history.specs.Order.{messages_from}
use Rattle.dr_replica.proofs.history.count_messages.Given as goal

abbrev pub invariant-loop-entry : goal.invariant-loop-entry
invariant-loop-entry l = record {
  counts : (s : ℕ) → s < length l.counts → slice_index l.counts s
      ≡ length (messages_from s (take l.entry-index l.entries));
  long : length l.counts ≡ length l.fn.counts;
}
