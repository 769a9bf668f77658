use Rattle.dr_quorum.proofs.Masks.{HasThoseBelow}
use Rattle.dr_quorum.proofs.handing.handed_among.Given as goal

abbrev pub invariant-loop-m : goal.invariant-loop-m
invariant-loop-m l = HasThoseBelow l.lists l.members l.m l.mask
