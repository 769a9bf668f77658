use Rattle.std.proofs.Common.{◌-◌, length}
use Rattle.dr_log_bytes.specs.Parsed.{IsParsed}
use Rattle.dr_log_bytes.proofs.parsing.parse.Given as goal

-- the blocks before the place are those of the records so far
abbrev pub invariant-loop-record : goal.invariant-loop-record
invariant-loop-record l = IsParsed l.bytes l.content l.at

abbrev pub decreases-loop-record : goal.decreases-loop-record
decreases-loop-record l = length l.bytes - l.at
