use Rattle.std.proofs.Common.{◌≡◌}
use Rattle.dr_folder.proofs.Advising.{CanNotGoTo}
use Rattle.dr_folder.proofs.advice.next_away.Given as goal

-- the logs of those before can't go
abbrev pub invariant-loop-member : goal.invariant-loop-member
invariant-loop-member l = (l.files ≡ l.fn.files) × CanNotGoTo l.script l.fn.files l.surveys l.from l.member
