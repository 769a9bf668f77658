use Rattle.std.proofs.Common.{◌≡◌}
use Rattle.dr_entry.specs.Grammar.{trims_at}
use Rattle.dr_entry.proofs.reading.trims_from.Given as goal

abbrev pub invariant-loop-s : goal.invariant-loop-s
invariant-loop-s l = l.trim ≡ trims_at l.s l.from
