-- The groups that can be run.
use Rattle.std.specs.Prelude.{ℕ, ◌*◌, ◌-◌, ◌<◌, ◌≤◌}
use Rattle.dr_bench.specs.declared.groups.members.Group.{Group}

-- a group within the bounds of a script, of which a minority is suspected, and not everybody late
pub record IsBounded (g : Group) : Type 0 where
  pub some : 1 ≤ g.members
  pub most : g.members ≤ 16
  pub messages : g.messages ≤ 4096
  pub size : g.size ≤ 64
  pub minority : 2 * g.suspected < g.members
  pub from : 1 ≤ g.from
  pub timely : g.from ≤ g.turns
  pub turns : g.turns ≤ 1000000
  pub prompt : g.late < g.members

-- the first member that is suspected
abbrev pub first_suspected : Group → ℕ
first_suspected g = g.members - g.suspected
