use Rattle.std.proofs.Common.{string_bytes}
use Rattle.dr_history.specs.History.{IsPrefixOf}
use Rattle.dr_picture.proofs.legend.push_legend.Given as goal

abbrev pub invariant-loop-key : goal.invariant-loop-key
invariant-loop-key l = IsPrefixOf (string_bytes l.initial.out) (string_bytes l.out)
