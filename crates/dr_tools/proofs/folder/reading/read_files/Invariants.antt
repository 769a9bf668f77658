use Rattle.std.proofs.Common.{◌≡◌, length}
use Rattle.dr_tools.proofs.folder.reading.read_files.Given as goal

abbrev pub invariant-loop-member : goal.invariant-loop-member
invariant-loop-member g l = length l.files.items ≡ l.member
