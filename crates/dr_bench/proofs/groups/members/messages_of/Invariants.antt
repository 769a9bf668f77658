use Rattle.std.proofs.Common.{◌≡◌, ◌<◌, ◌≤◌, All, length}
use Rattle.dr_bench.proofs.groups.members.messages_of.Given as goal

abbrev pub invariant-loop-index : goal.invariant-loop-index
invariant-loop-index l = record {
  count : length l.list.items ≡ l.index;
  short : All (λ bytes. length bytes ≤ 64) l.list.items;
  bytes : All (All (λ byte. byte < 256)) l.list.items;
}
