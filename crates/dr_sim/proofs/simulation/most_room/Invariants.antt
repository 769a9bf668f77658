use Rattle.std.{specs.Prelude.Some, proofs.Common.{◌≡◌, ℕ, ◌<◌, ◌≤◌}}
use Rattle.dr_program.specs.{Presence.present_at, Running.Running}
use Rattle.dr_sim.proofs.simulation.most_room.Given as goal

abbrev pub invariant-loop-place : goal.invariant-loop-place
invariant-loop-place l = (m : ℕ) → m < l.place-index → (r : Running) → present_at l.members m ≡ Some r
    → r.replica.room ≤ l.most
