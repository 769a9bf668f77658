use Rattle.std.proofs.Common.{◌≡◌, ◌++◌, take}
use Rattle.dr_packet.specs.Packets.{long_bytes}
use Rattle.dr_packet.proofs.writing.put_lengths.Given as goal

abbrev pub invariant-loop-length : goal.invariant-loop-length
invariant-loop-length l = l.into.items ≡ l.fn.into.items ++ long_bytes (take l.length-index l.lengths)
