use Rattle.std.proofs.Common.{arith}
use Rattle.dr_entry.{specs.declared.limits.TheConstants.MAX_MESSAGES, proofs.LongestLists.longest_within}
use Rattle.dr_complete.proofs.time.turns_enough.Goals as goal

pub overflow_mul-result : goal.overflow_mul-result
overflow_mul-result c = omega (
  arith,
  c.most_messages.ensures,
  longest_within MAX_MESSAGES 0 c.args.script.now.messages (omega arith) c.requires.group.few,
)

pub overflow_add-result : goal.overflow_add-result
overflow_add-result c = omega (
  arith,
  c.most_messages.ensures,
  longest_within MAX_MESSAGES 0 c.args.script.now.messages (omega arith) c.requires.group.few,
)
