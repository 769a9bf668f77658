use Rattle.std.proofs.Common.{◌-◌, length, string_bytes}
use Rattle.dr_tools.proofs.LogLines.{IsPrinted}
use Rattle.dr_tools.proofs.log.text.log_text.Given as goal

-- the records before the place are printed
abbrev pub invariant-loop-record : goal.invariant-loop-record
invariant-loop-record l = IsPrinted l.bytes (string_bytes l.text) l.at l.number l.newer

abbrev pub decreases-loop-record : goal.decreases-loop-record
decreases-loop-record l = length l.bytes - l.at
