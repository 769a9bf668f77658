-- How far records reach.
use Rattle.std.specs.Prelude.{ℕ, ◌<◌, ◌≤◌}
use Rattle.dr_yard.specs.declared.gates.Walk.{Walk, TheVariants.{Closed, Further}}

-- a walk in so many bytes
abbrev pub IsWalkIn : ℕ → Walk → Type 0
IsWalkIn n (Closed at) = at < n
IsWalkIn n (Further at) = at ≤ n
