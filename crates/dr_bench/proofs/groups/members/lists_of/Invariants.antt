use Rattle.std.proofs.Common.{◌≡◌, ℕ, ◌<◌, ◌≤◌, [], All, length, slice_index_or}
use Rattle.dr_bench.proofs.groups.members.lists_of.Given as goal

abbrev pub invariant-loop-me : goal.invariant-loop-me
invariant-loop-me l = record {
  count : length l.lists.items ≡ l.me;
  senders : (m : ℕ) → m < l.me → m < l.fn.group.senders
      → length (slice_index_or l.lists.items m []) ≡ l.fn.group.messages;
  others : (m : ℕ) → m < l.me → l.fn.group.senders ≤ m → length (slice_index_or l.lists.items m []) ≡ 0;
  few : All (λ list. length list ≤ 4096) l.lists.items;
  short : All (All (λ bytes. length bytes ≤ 64)) l.lists.items;
  bytes : All (All (All (λ byte. byte < 256))) l.lists.items;
}
