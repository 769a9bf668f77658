use Rattle.std.proofs.Common.{[]}
use Rattle.dr_table.proofs.seated.SeatedMember.give.Given as goal

abbrev pub ghosts-give_at : goal.ghosts-give_at
ghosts-give_at a = record { errand = record { late = a.late; word = 1; letter = [] }; now = a.member.now }
