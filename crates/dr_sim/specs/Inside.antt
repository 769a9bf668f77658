-- How the fields of a simulation and of a generator hold what contracts see of them.
use Rattle.std.specs.Prelude.{◌≡◌}
use Rattle.dr_program.specs.Program.{Program}
use Rattle.dr_sim.specs.{Lists.HaveSpares, Sound.program_over, declared.lcg.TheConstants.{INCREMENT, MULTIPLIER}}
use Rattle.dr_sim.specs.declared.simulation.Simulation.TheInside.{Inside}
use Rattle.dr_sim.specs.declared.lcg.Lcg.TheInside as lcg

abbrev pub program_of : Inside → Program
program_of a = program_over a.members.items a.table.items a.posts.letters

-- there are lists for the letters that are still to be given
abbrev pub AreListsLeft : Inside → Type 0
AreListsLeft a = HaveSpares a.posts a.members.items

-- the generator keeps the constants of its definition
pub record HasConstants (a : lcg.Inside) : Type 0 where
  pub multiplier : a.multiplier ≡ MULTIPLIER
  pub increment : a.increment ≡ INCREMENT
