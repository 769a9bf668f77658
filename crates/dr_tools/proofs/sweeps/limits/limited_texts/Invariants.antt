use Rattle.std.proofs.Common.{◌≡◌, ◌++◌, drop}
use Rattle.dr_tools.specs.Limits.{limited_texts}
use Rattle.dr_tools.proofs.sweeps.limits.limited_texts.Given as goal

abbrev pub invariant-loop-text : goal.invariant-loop-text
invariant-loop-text l = limited_texts l.limits l.texts ≡ l.out.items ++ limited_texts l.left (drop l.text-index l.texts)
