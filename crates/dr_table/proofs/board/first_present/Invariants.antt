use Rattle.std.{specs.Prelude.None, proofs.Common.{◌≡◌, ◌<◌, ℕ}}
use Rattle.dr_program.specs.Presence.{present_at}
use Rattle.dr_table.proofs.board.first_present.Given as goal

-- nobody stood at the places before
abbrev pub invariant-loop-place : goal.invariant-loop-place
invariant-loop-place l = (k : ℕ) → k < l.place-index → present_at l.members k ≡ None
