use Rattle.std.proofs.Common.{◌≡◌, ◌≤◌, length, map, vec_capacity}
use Rattle.dr_program.specs.Program.{end_at}
use Rattle.dr_play.proofs.ending.ends_of.Given as goal

abbrev pub invariant-loop-place : goal.invariant-loop-place
invariant-loop-place l = record {
  ends : l.ends.items ≡ map end_at l.yielded;
  room : length l.fn.members.items ≤ vec_capacity l.ends;
}
