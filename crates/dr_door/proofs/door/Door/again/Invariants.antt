use Rattle.std.proofs.Common.{ℕ, ◌<◌, ◌≤◌}
use Rattle.dr_program.proofs.Replicas.{bank_of}
use Rattle.dr_door.specs.Sending.{IsLastSent}
use Rattle.dr_door.proofs.door.Door.again.Given as goal

-- none was found in the banks before
abbrev pub invariant-loop-bank : goal.invariant-loop-bank
invariant-loop-bank l = (k : ℕ) → l.fn.from ≤ k → bank_of l.fn.self.member.replica k < l.bank → ¬ IsLastSent l.fn.self l.to k
