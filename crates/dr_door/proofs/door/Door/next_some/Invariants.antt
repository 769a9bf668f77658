use Rattle.std.proofs.Common.{◌≡◌, ℕ, ◌<◌, ◌≤◌, slice_index}
use Rattle.dr_door.proofs.door.Door.next_some.Given as goal

-- none was found, as far as the loop has come
abbrev pub invariant-loop-index : goal.invariant-loop-index
invariant-loop-index l = (k : ℕ) → l.fn.from ≤ k → k < l.index → slice_index l.fn.self.words k ≡ 0
