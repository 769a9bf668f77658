use Rattle.std.proofs.Common.{◌≡◌, take}
use Rattle.dr_restart.proofs.copies.copy_messages.Given as goal

abbrev pub invariant-loop-message : goal.invariant-loop-message
invariant-loop-message l = l.copy.items ≡ take l.message-index l.messages-2
