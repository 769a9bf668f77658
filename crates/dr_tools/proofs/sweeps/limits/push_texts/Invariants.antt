use Rattle.std.proofs.Common.{◌≡◌, ◌++◌, drop}
use Rattle.dr_tools.specs.Limits.{texts_limits}
use Rattle.dr_tools.proofs.sweeps.limits.push_texts.Given as goal

abbrev pub invariant-loop-text : goal.invariant-loop-text
invariant-loop-text l = l.initial.limits.items ++ texts_limits l.texts
    ≡ l.limits.items ++ texts_limits (drop l.text-index l.texts)
