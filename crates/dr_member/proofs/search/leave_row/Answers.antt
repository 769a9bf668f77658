use Rattle.std.proofs.Common.{sym}
use Rattle.dr_member.proofs.search.leave_row.Goals as goal

pub settle-requires-clause-inside : goal.settle-requires-clause-inside
settle-requires-clause-inside c = sym c.requires.inside
