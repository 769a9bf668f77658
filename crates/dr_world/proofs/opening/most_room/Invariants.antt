use Rattle.std.{specs.Prelude.Some, proofs.Common.{◌≡◌, ℕ, ◌<◌, ◌≤◌}}
use Rattle.dr_program.specs.{Presence.present_at, Replica.Replica}
use Rattle.dr_world.proofs.opening.most_room.Given as goal

abbrev pub invariant-loop-place : goal.invariant-loop-place
invariant-loop-place l = (m : ℕ) → m < l.place-index → (r : Replica) → present_at l.replicas m ≡ Some r
    → r.room ≤ l.most
