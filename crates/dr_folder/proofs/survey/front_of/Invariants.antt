use Rattle.std.proofs.Common.{◌-◌, length}
use Rattle.dr_log_bytes.specs.Parsed.{IsParsed}
use Rattle.dr_folder.proofs.survey.front_of.Given as goal

-- the records before the place are read
abbrev pub invariant-loop-record : goal.invariant-loop-record
invariant-loop-record l = IsParsed l.bytes l.content l.at

abbrev pub decreases-loop-record : goal.decreases-loop-record
decreases-loop-record l = length l.bytes - l.at
