use Rattle.dr_restart.proofs.Choosing.{IsLongestBelow}
use Rattle.dr_quorum.specs.Handing.{handed_by}
use Rattle.dr_quorum.proofs.holders.longest.Given as goal

abbrev pub invariant-loop-m : goal.invariant-loop-m
invariant-loop-m l = IsLongestBelow (handed_by l.lists) l.age l.m l.best l.most
