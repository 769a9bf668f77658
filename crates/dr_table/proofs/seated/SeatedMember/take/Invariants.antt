use Rattle.std.proofs.Common.{[]}
use Rattle.dr_program.specs.Replica.{me}
use Rattle.dr_table.proofs.seated.SeatedMember.take.Given as goal

abbrev pub ghosts-take_at : goal.ghosts-take_at
ghosts-take_at a = record {
  errand = record { late = me a.member.now.replica; word = 2; letter = [] };
  now = a.member.now;
}
