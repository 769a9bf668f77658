-- The try in which a seat is.
use Rattle.std.specs.Prelude.{ℕ, Option, None, Some}
use Rattle.dr_seat.specs.{Roles.RoleOf, declared.trial.{Progress.Progress, Trial.Trial}}

-- whose seat it is, its try, and how far the members of that are
pub record OpeningOf : Type 0 where
  pub role : RoleOf
  pub trial : Option Trial
  pub progress : Progress

-- the members of a try, as a mask; nobody where there is none
abbrev pub set_by : Option Trial → ℕ
set_by None = 0
set_by (Some trial) = trial.call.set
